-- What becomes of a connection that comes to an entrance, where the lines of a worker meet it.
use Rattle.std.specs.Prelude.{◌≡◌, Option, Some, None}
use Rattle.lease_proto.specs.declared.lines.Line.{Line}
use Rattle.lease_proto.specs.declared.replies.Reply.{Reply}
use Rattle.lease_watch.specs.declared.words.Word.{Word}
use Rattle.tcp_connections.specs.Connections.{ServesSome}
use Rattle.tcp_connections.specs.Replying.{LinesState}
use Rattle.tcp_connections.specs.declared.arrivals.Reception.{Reception}

module _ {E K C A G : Type 0} (may_enter : E → A → Option G → E → Type 0)
    (may_talk may_leave : E → G → E → Type 0) (may_reply : K → Line → Reply → K → Type 0)
    (may_count : C → Word → C → Type 0) (may_tidy : K → K → Type 0) where
  -- who was entered was talked with once: some lines were answered, and then the worker tidied; and
  -- then the guest left. Where no one was entered, nothing more was done.
  abbrev pub Hosts : E → Option G → LinesState K C → Reception E (LinesState K C) → Type 0
  Hosts here None lines new = (new.arrivals ≡ here) × (new.host ≡ lines)
  Hosts here (Some guest) lines new = (talked : E) × may_talk here guest talked
      × ServesSome may_reply may_count may_tidy lines new.host
      × may_leave talked guest new.arrivals

  abbrev pub Receives : Reception E (LinesState K C) → A → Reception E (LinesState K C) → Type 0
  Receives old connection new = (guest : Option G) × (here : E)
      × may_enter old.arrivals connection guest here × Hosts here guest old.host new
