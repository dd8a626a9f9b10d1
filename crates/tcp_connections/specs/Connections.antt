-- What serving a connection leaves.
use Rattle.std.specs.Prelude.{◌≡◌, [], false}
use Rattle.lease_proto.specs.declared.lines.Line.{Line}
use Rattle.lease_proto.specs.declared.replies.Reply.{Reply}
use Rattle.lease_server.specs.Intakes.{IntakeState, hand_in}
use Rattle.lease_server.specs.Serving.{HasAnswered, ServesAll, ServeFails}
use Rattle.lease_server.specs.Watching.{Streams}
use Rattle.lease_server.specs.declared.faults.ServeFault.{ServeFault}
use Rattle.lease_watch.specs.declared.words.Word.{Word}
use Rattle.tcp_connections.specs.Replying.{LinesState, MayAnswer}

-- nothing of a connection was read yet
abbrev pub unread_intake : IntakeState
unread_intake = record { hand = hand_in [] []; reads = 0; ended = false }

-- the worker tidied, and nothing was counted
abbrev pub HasTidied : {K C : Type 0} → (K → K → Type 0) → LinesState K C → LinesState K C → Type 0
HasTidied may_tidy old new = may_tidy old.worker new.worker × (new.counter ≡ old.counter)

module _ {K C : Type 0} (may_reply : K → Line → Reply → K → Type 0)
    (may_count : C → Word → C → Type 0) (may_tidy : K → K → Type 0) where
  -- all lines of a connection are answered, and the worker tidied after them
  abbrev pub ServesConnection : Streams → Streams → LinesState K C → LinesState K C → Type 0
  ServesConnection old new first last = (served : LinesState K C)
      × ServesAll (MayAnswer may_reply may_count) (unread_intake.hand) old new first served
      × HasTidied may_tidy served last

  -- the connection had a fault, as the line server tells it, and the worker tidied after it
  abbrev pub BreaksOff : Streams → Streams → LinesState K C → LinesState K C → ServeFault → Type 0
  BreaksOff old new first last fault = (served : LinesState K C)
      × ServeFails (MayAnswer may_reply may_count) unread_intake old new first served fault
      × HasTidied may_tidy served last

  -- Whatever came, some lines were answered, one after another, and then the worker tidied once.
  abbrev pub ServesSome : LinesState K C → LinesState K C → Type 0
  ServesSome first last = (served : LinesState K C)
      × HasAnswered (MayAnswer may_reply may_count) first served × HasTidied may_tidy served last
