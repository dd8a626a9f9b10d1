-- What holds over a whole script.
use Rattle.std.specs.Prelude.{◌≡◌, ◌≢◌, ◌⊎◌, ◌≤◌, ◌+◌, ℕ, List, [], ◌++◌, All, AllPairs, Contains}
use Rattle.std.specs.Prelude.{◌∷◌, codes, sum_by, slice_get, Some, Ok}
use Rattle.std.specs.List.{AllByRecursion}
use Rattle.deed_core.specs.Covering.{units_held}
use Rattle.deed_core.specs.Extent.{Extent, end_of}
use Rattle.deed_core.specs.Request.{Fits}
use Rattle.tag_arena.specs.ArenaState.{spans_of}
use Rattle.arena_tree.specs.declared.trees.TreeArena.{TreeArena}
use Rattle.arena_tree.specs.declared.setups.OwnedSpan.{OwnedSpan}
use Rattle.arena_tree.specs.Settings.{SetupState}
use Rattle.arena_tree.specs.Trees.{index_in}
use Rattle.stock.specs.Spaces.{SpaceState}
use Rattle.stock.specs.Sums.{total}
use Rattle.stock.specs.Laws.{ApartUpChain}
use Rattle.lease_terms.specs.Requests.{RequestId}
use Rattle.lease_terms.specs.declared.refusals.Refusal.TheVariants.{NoFit}
use Rattle.lease_book.specs.Answers.{IsNew}
use Rattle.lease_book.specs.BookState.{account_in, leased_segments, units_of_arena}
use Rattle.lease_proto.specs.declared.faults.ErrorWord.TheVariants.{Memory}
use Rattle.lease_proto.specs.declared.lines.HelloLine.{HelloLine}
use Rattle.lease_proto.specs.declared.lines.LeaseLine.{LeaseLine}
use Rattle.lease_proto.specs.declared.lines.Line.TheVariants as lines
use Rattle.lease_proto.specs.declared.lines.Op.{Op}
use Rattle.lease_proto.specs.declared.lines.Op.TheVariants as ops
use Rattle.lease_proto.specs.declared.operators.GrowLine.{GrowLine}
use Rattle.lease_proto.specs.declared.operators.OperatorLine.TheVariants as operator
use Rattle.lease_proto.specs.declared.operators.ServedLine.TheVariants as served
use Rattle.lease_proto.specs.declared.replies.Reply.{Reply}
use Rattle.lease_proto.specs.Faults.{error_text}
use Rattle.lease_proto.specs.Frames.{Frame}
use Rattle.lease_proto.specs.Operators.{served_of}
use Rattle.lease_proto.specs.Reports.{ok_text}
use Rattle.lease_proto.specs.Requests.{demand_of}
use Rattle.lease_call.specs.Growing.{range_asked}
use Rattle.lease_machine.specs.Picture.{Picture, IsPicture}
use Rattle.lease_machine.specs.Operators.{sums_in, audit_texts_of}
use Rattle.lease_machine.specs.Machine.{LeaseStep, Grants}
use Rattle.lease_machine.specs.Laws.{Runs, UnitsAtHome, GrowsAlone}
use Rattle.lease_machine.specs.AnswerLaws.{reply_bytes, IsUnkept, IsRequestLine, AreOfOthers}
use Rattle.lease_machine.specs.AnswerLaws.{IsRecent, NamesRequest, FitsLine}
use Rattle.lease_machine.specs.RoomLaws.{NothingIsKept, FindsNoRoom, refusal_to}
use Rattle.lease_machine.specs.GrowLaws.{Grew}
use Rattle.lease_machine.specs.EmptyingLaws.{CpuHasNoRound}
use Rattle.stock_desk.specs.Openings.{IsOpenedFrom}
use Rattle.vmemd_setup.specs.Setups.{Makes}
use Rattle.vmemd_setup.specs.Settings.{TakesSetupLine, no_arenas}

-- setup lines that are taken, the desk that what they make opens, and then the frames of lines with
-- what is written for them
pub record Script (last : Picture) : Type 0 where
  pub setup : List (List ℕ)
  pub made : SetupState
  pub desk : Picture
  pub frames : List Frame
  pub text : List ℕ
  pub makes : Makes TakesSetupLine no_arenas setup made
  pub opened : IsOpenedFrom made desk
  pub serves : Runs desk frames text last

-- the desk that setup lines open, on which no line was answered yet, is a picture
abbrev pub SetupsOpenPictures : Type 0
SetupsOpenPictures = (lines : List (List ℕ)) (made : SetupState) (desk : Picture)
    → Makes TakesSetupLine no_arenas lines made → IsOpenedFrom made desk → IsPicture desk

-- a script as far as a line, and then that line with what is written for it
pub record AnswersNext (old : Picture) (line text : List ℕ) (new : Picture) : Type 0 where
  pub script : Script old
  pub step : LeaseStep old line text new

-- A script is one as far as each of its frames, and goes on from there: its text is what is written
-- for the first ones, and then what is for the others.
abbrev pub ScriptsSplit : Type 0
ScriptsSplit = (last : Picture) (s : Script last) (front rest : List Frame)
    → s.frames ≡ front ++ rest
    → (mid : Picture) × (first : Script mid) × (first.frames ≡ front)
    × ((later : List ℕ) × Runs mid rest later last × (s.text ≡ first.text ++ later))

-- after every script no two leases overlap where their arenas have one top, be one's arena a source
-- of the other's
abbrev pub ScriptLeasesStayApart : Type 0
ScriptLeasesStayApart = (last : Picture) → Script last
    → AllPairs (ApartUpChain last.spaces) (leased_segments last.book)

-- and each unit of an arena's spans is in one home, and no other unit in any
abbrev pub ScriptUnitsHaveOneHome : Type 0
ScriptUnitsHaveOneHome = (last : Picture) → Script last → UnitsAtHome last

-- the line `audit` is answered by what is told of each arena, unless out of memory, and nothing
-- changes
abbrev pub ScriptAuditIsTold : Type 0
ScriptAuditIsTold = (old new : Picture) (text : List ℕ) → AnswersNext old (codes "audit") text new
    → ((text ≡ audit_texts_of old old.tree old.spaces) ⊎ (text ≡ error_text Memory)) × (new ≡ old)

-- what it calls leased are the book's leases, and its numbers add up to the arena's units
abbrev pub ScriptAuditIsWhole : Type 0
ScriptAuditIsWhole = (last : Picture) → Script last → (k : ℕ) (s : SpaceState)
    → slice_get last.spaces k ≡ Some s
    → ((sums_in last s).leased ≡ sum_by (units_of_arena k) (leased_segments last.book))
    × (total (sums_in last s) ≡ units_held (spans_of s.arena))

-- In a script a request is answered so; then come these frames, and then the request again, with
-- whatever else in its line.
pub record AsksTwice (id : RequestId) (op : Op) (first : List ℕ) (frames : List Frame)
    (second : List ℕ) : Type 0 where
  pub line : List ℕ
  pub between : List ℕ
  pub repeat : List ℕ
  pub again : Op
  pub old : Picture
  pub mid : Picture
  pub late : Picture
  pub new : Picture
  pub asks : IsRequestLine line id op
  pub answers : AnswersNext old line first mid
  pub goes_on : Runs mid frames between late
  pub asks_again : IsRequestLine repeat id again
  pub answers_again : LeaseStep late repeat second new

-- After lines of others and of operators it is answered by the same bytes, and nothing changes; but
-- where its answer wasn't kept.
abbrev pub ScriptLinesRepeat : Type 0
ScriptLinesRepeat = (id : RequestId) (op : Op) (first second : List ℕ) (frames : List Frame)
    → (a : AsksTwice id op first frames second) → AreOfOthers id.client frames
    → ((second ≡ first) × (a.new ≡ a.late)) ⊎ IsUnkept first

-- So it is after any lines, its own client's among them, while its number is recent.
abbrev pub ScriptRecentRepeat : Type 0
ScriptRecentRepeat = (id : RequestId) (op : Op) (first second : List ℕ) (frames : List Frame)
    → (a : AsksTwice id op first frames second) → IsRecent a.late id
    → ((second ≡ first) × (a.new ≡ a.late)) ⊎ IsUnkept first

-- After any lines, its own client's among them, both answers are the same bytes where both settle
-- it.
abbrev pub ScriptAnswersAgree : Type 0
ScriptAnswersAgree = (id : RequestId) (op : Op) (first second : List ℕ) (frames : List Frame)
    → AsksTwice id op first frames second
    → (second ≡ first) ⊎ (IsUnkept first ⊎ IsUnkept second)

-- a lease of a new number is answered by a reply to it that fits its line: what is granted is of
-- the arena that it names, and as it asks
abbrev pub ScriptGrantsFit : Type 0
ScriptGrantsFit = (old new : Picture) (id : RequestId) (l : LeaseLine) (line text : List ℕ)
    → AnswersNext old line text new → IsRequestLine line id (ops.Lease l)
    → IsNew (account_in id.client old.book) id
    → (r : Reply) × (text ≡ reply_bytes r) × NamesRequest id r × FitsLine old l r

-- so is each repeat of it that settles it, after any lines: it fits the first line
abbrev pub ScriptRepeatsFit : Type 0
ScriptRepeatsFit = (id : RequestId) (l : LeaseLine) (first second : List ℕ) (frames : List Frame)
    → (a : AsksTwice id (ops.Lease l) first frames second)
    → IsNew (account_in id.client a.old.book) id
    → ((r : Reply) × (second ≡ reply_bytes r) × NamesRequest id r × FitsLine a.old l r)
    ⊎ (IsUnkept first ⊎ IsUnkept second)

-- after a script, where a request can be granted, no answer to it is `nofit`
abbrev pub ScriptNeverGrantsAndRefuses : Type 0
ScriptNeverGrantsAndRefuses = (last new other : Picture) (id : RequestId) (l : LeaseLine)
    (r : Reply) → Script last → Grants id l last new r → ¬ FindsNoRoom last other id l

-- one of a script's lines is this grow, and was answered `ok`
pub record HasGrown (last : Picture) (s : Script last) (g : GrowLine) : Type 0 where
  pub front : List Frame
  pub told : List ℕ
  pub old : Picture
  pub before : Runs s.desk front told old
  pub mid : Picture
  pub grew : Grew g old mid
  pub rest : List Frame
  pub later : List ℕ
  pub after : Runs mid rest later last
  pub frames : s.frames ≡ front ++ Ok grew.line ∷ rest
  pub text : s.text ≡ told ++ (ok_text ++ later)

-- the setup gives the arena at the index these units as a span, or a grow of the script did
abbrev pub IsGiven : (last : Picture) → Script last → ℕ → Extent → Type 0
IsGiven last s index range =
    ((span : OwnedSpan) × Contains s.made.spans span × (span.arena ≡ index) × (span.range ≡ range))
    ⊎ ((g : GrowLine) × HasGrown last s g × (index_in g.arena s.made.arenas ≡ Some index)
    × (range_asked g ≡ range))

-- the lease names the arena at the index, and fits in these units
pub record FitsInRange (arenas : List TreeArena) (index : ℕ) (range : Extent) (l : LeaseLine)
    : Type 0 where
  pub arena : TreeArena
  pub base : ℕ
  pub len : ℕ
  pub named : index_in l.arena arenas ≡ Some index
  pub here : slice_get arenas index ≡ Some arena
  pub fits : Fits arena.quantum (demand_of l) base len
  pub from : range.base ≤ base
  pub to : base + len ≤ end_of range

-- it fits in a span that its arena was given
abbrev pub FitsInSpan : (last : Picture) → Script last → LeaseLine → Type 0
FitsInSpan last s l = (index : ℕ) × (range : Extent) × IsGiven last s index range
    × FitsInRange s.made.arenas index range l

-- Of the first lines each is a grow, if there are any; then comes a hello, and then a lease that
-- fits in a span, whoever asks and by whatever number: it isn't answered `nofit`.
abbrev pub ScriptFirstLeaseIsServed : Type 0
ScriptFirstLeaseIsServed = (start mid new : Picture) (s : Script start)
    (hello greeting lease text : List ℕ) (h : HelloLine) (id : RequestId) (l : LeaseLine)
    → AllByRecursion GrowsAlone s.frames → served_of hello ≡ Ok (served.Client (lines.Hello h))
    → LeaseStep start hello greeting mid → IsRequestLine lease id (ops.Lease l)
    → LeaseStep mid lease text new → FitsInSpan start s l
    → text ≢ reply_bytes (refusal_to id NoFit)

-- right after a grow that is answered `ok` nor is a lease of a new number that fits in its range,
-- however all was used before
abbrev pub ScriptGrownIsServed : Type 0
ScriptGrownIsServed = (old mid new : Picture) (g : GrowLine) (id : RequestId) (l : LeaseLine)
    (grow line text : List ℕ) (index : ℕ) → (a : AnswersNext old grow ok_text mid)
    → served_of grow ≡ Ok (served.Operator (operator.Grow g))
    → IsRequestLine line id (ops.Lease l) → IsNew (account_in id.client mid.book) id
    → LeaseStep mid line text new → index_in g.arena a.script.made.arenas ≡ Some index
    → FitsInRange a.script.made.arenas index (range_asked g) l
    → text ≢ reply_bytes (refusal_to id NoFit)

-- once nothing is leased or kept, a lease of a new number that fits in a span isn't answered so,
-- however all was used before
abbrev pub ScriptFreedIsWhole : Type 0
ScriptFreedIsWhole = (old new : Picture) (id : RequestId) (l : LeaseLine) (line text : List ℕ)
    → (a : AnswersNext old line text new) → NothingIsKept old
    → IsRequestLine line id (ops.Lease l) → IsNew (account_in id.client old.book) id
    → FitsInSpan old a.script l → text ≢ reply_bytes (refusal_to id NoFit)

-- and where no arena of the setup has caches, nor is it once nothing is leased
abbrev pub ScriptReturnedIsWhole : Type 0
ScriptReturnedIsWhole = (old new : Picture) (id : RequestId) (l : LeaseLine) (line text : List ℕ)
    → (a : AnswersNext old line text new) → All (λ x. x.qcache_max ≡ 0) a.script.made.arenas
    → leased_segments old.book ≡ [] → IsRequestLine line id (ops.Lease l)
    → IsNew (account_in id.client old.book) id → FitsInSpan old a.script l
    → text ≢ reply_bytes (refusal_to id NoFit)

-- and where CPUs have no round, `tick` and `reap` are enough for that
abbrev pub ScriptEmptiedIsWhole : Type 0
ScriptEmptiedIsWhole = (old mid late new : Picture) (id : RequestId) (l : LeaseLine)
    (told reaped line text : List ℕ) → (a : AnswersNext old (codes "tick") told mid)
    → leased_segments old.book ≡ [] → All CpuHasNoRound old.cpus
    → LeaseStep mid (codes "reap") reaped late
    → IsRequestLine line id (ops.Lease l) → IsNew (account_in id.client late.book) id
    → LeaseStep late line text new → FitsInSpan old a.script l
    → text ≢ reply_bytes (refusal_to id NoFit)
