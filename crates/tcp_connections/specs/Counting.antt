-- What is counted of a line and its reply.
use Rattle.std.specs.Prelude.{◌≡◌, Option, Some, None}
use Rattle.lease_proto.specs.declared.lines.Line.{Line}
use Rattle.lease_proto.specs.declared.replies.Reply.{Reply}
use Rattle.lease_watch.specs.declared.words.Word.{Word}
use Rattle.lease_watch.specs.Words.{line_word, reply_word, reason_word}

-- By what may come of a word that is counted.
module _ {C : Type 0} (may_count : C → Word → C → Type 0) where
  -- the word is counted, if there is one
  abbrev pub CountsIf : C → Option Word → C → Type 0
  CountsIf old None new = new ≡ old
  CountsIf old (Some word) new = may_count old word new

  -- the line, its reply and the reason of a refusal are counted, each once
  abbrev pub CountsExchange : C → Line → Reply → C → Type 0
  CountsExchange old line reply new = (asked : C) × (answered : C)
      × may_count old (line_word line) asked
      × may_count asked (reply_word reply) answered
      × CountsIf answered (reason_word reply) new
