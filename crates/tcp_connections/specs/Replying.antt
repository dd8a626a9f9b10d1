-- What lines of a connection may be answered, and what is counted of each.
use Rattle.std.specs.Prelude.{◌≡◌, ℕ, List, Result, Ok, Err}
use Rattle.lease_proto.specs.declared.faults.LineFault.{LineFault}
use Rattle.lease_proto.specs.declared.lines.Line.{Line}
use Rattle.lease_proto.specs.declared.replies.Reply.{Reply}
use Rattle.lease_proto.specs.Faults.{error_line}
use Rattle.lease_proto.specs.Frames.{with_line_feed}
use Rattle.lease_proto.specs.Grammar.{line_of}
use Rattle.lease_proto.specs.Replies.{reply_text}
use Rattle.lease_watch.specs.declared.words.Word.{Word}
use Rattle.lease_watch.specs.declared.words.Word.TheVariants as word
use Rattle.tcp_connections.specs.Counting.{CountsExchange}

-- the worker that the lines are for, and what counts them
pub record LinesState (K C : Type 0) : Type 0 where
  pub worker : K
  pub counter : C

module _ {K C : Type 0} (may_reply : K → Line → Reply → K → Type 0)
    (may_count : C → Word → C → Type 0) where
  -- a line gets a reply that the worker may give to it, and is counted with it; what is none gets
  -- its error line, which is counted once, and the worker stays as it was
  abbrev pub AnswersRead : LinesState K C → Result Line LineFault → List ℕ → LinesState K C
      → Type 0
  AnswersRead old (Ok line) text new = (reply : Reply)
      × may_reply old.worker line reply new.worker
      × CountsExchange may_count old.counter line reply new.counter
      × (text ≡ with_line_feed (reply_text reply))
  AnswersRead old (Err fault) text new = (text ≡ error_line fault) × (new.worker ≡ old.worker)
      × may_count old.counter word.Error new.counter

  -- the same, of a line's bytes without the line feed
  abbrev pub MayAnswer : LinesState K C → List ℕ → List ℕ → LinesState K C → Type 0
  MayAnswer old line text new = AnswersRead old (line_of line) text new
