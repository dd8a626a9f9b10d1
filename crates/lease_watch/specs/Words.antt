-- The words by which lines and replies are counted.
use Rattle.std.specs.Prelude.{ℕ, List, Option, Some, None, codes, slice_index}
use Rattle.lease_proto.specs.declared.lines.Line.{Line}
use Rattle.lease_proto.specs.declared.lines.Line.TheVariants as line
use Rattle.lease_proto.specs.declared.lines.Op.TheVariants as op
use Rattle.lease_proto.specs.declared.replies.Reply.{Reply}
use Rattle.lease_proto.specs.declared.replies.Reply.TheVariants as reply
use Rattle.lease_terms.specs.declared.refusals.Refusal.{Refusal}
use Rattle.lease_terms.specs.declared.refusals.Refusal.TheVariants as refusal
use Rattle.lease_watch.specs.declared.words.Word.{Word}
use Rattle.lease_watch.specs.declared.words.Word.TheVariants as word

-- where a word's count stands
abbrev pub place_of : Word → ℕ
place_of word.Hello = 0
place_of word.Lease = 1
place_of word.Release = 2
place_of word.Welcome = 3
place_of word.Granted = 4
place_of word.Released = 5
place_of word.Refused = 6
place_of word.Old = 7
place_of word.Stale = 8
place_of word.Gap = 9
place_of word.Again = 10
place_of word.Error = 11
place_of word.NoFit = 12
place_of word.BadRequest = 13
place_of word.NoArena = 14
place_of word.NotYours = 15
place_of word.Leases = 16

-- how often a word was counted
abbrev pub count_of : List ℕ → Word → ℕ
count_of counts word = slice_index counts (place_of word)

-- a line is counted by its first word
abbrev pub line_word : Line → Word
line_word (line.Hello hello) = word.Hello
line_word (line.Request id (op.Lease lease)) = word.Lease
line_word (line.Request id (op.Release release)) = word.Release

-- and so is a reply
abbrev pub reply_word : Reply → Word
reply_word (reply.Welcome welcome) = word.Welcome
reply_word (reply.Granted granted) = word.Granted
reply_word (reply.Released released) = word.Released
reply_word (reply.Refused refused) = word.Refused
reply_word (reply.Old old) = word.Old
reply_word (reply.Stale stale) = word.Stale
reply_word (reply.Gap gap) = word.Gap
reply_word (reply.Again again) = word.Again
reply_word (reply.Error error) = word.Error

abbrev pub refusal_word : Refusal → Word
refusal_word refusal.NoFit = word.NoFit
refusal_word refusal.BadRequest = word.BadRequest
refusal_word refusal.NoArena = word.NoArena
refusal_word refusal.NotYours = word.NotYours
refusal_word refusal.Leases = word.Leases

-- a refusal is counted by its reason too
abbrev pub reason_word : Reply → Option Word
reason_word (reply.Refused refused) = Some (refusal_word refused.refusal)
reason_word other = None

unfoldable pub text_of : Word → List ℕ
text_of word.Hello = codes "hello"
text_of word.Lease = codes "lease"
text_of word.Release = codes "release"
text_of word.Welcome = codes "welcome"
text_of word.Granted = codes "granted"
text_of word.Released = codes "released"
text_of word.Refused = codes "refused"
text_of word.Old = codes "old"
text_of word.Stale = codes "stale"
text_of word.Gap = codes "gap"
text_of word.Again = codes "again"
text_of word.Error = codes "error"
text_of word.NoFit = codes "nofit"
text_of word.BadRequest = codes "badrequest"
text_of word.NoArena = codes "noarena"
text_of word.NotYours = codes "notyours"
text_of word.Leases = codes "leases"
