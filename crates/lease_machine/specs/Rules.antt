-- The rules of leases: who is answered what, when, and what becomes of all leases. Each step of the
-- lease machine keeps them.
use Rattle.std.specs.Prelude.{◌≡◌, ℕ, ◌<◌, ◌≤◌, List, [], ◌∷◌, ◌++◌, ◌≢◌, AllPairs, length}
use Rattle.std.specs.Prelude.{Some, None, Ok, Err}
use Rattle.deed_core.specs.Request.{Fits, IsGood, IsPlain}
use Rattle.deed_core.specs.Tag.{Tag}
use Rattle.arena_tree.specs.declared.trees.TreeArena.{TreeArena}
use Rattle.arena_tree.specs.Trees.{index_in}
use Rattle.quantum_cache.specs.Caches.{chain_in}
use Rattle.stock.specs.Laws.{ApartUpChain}
use Rattle.lease_terms.specs.Requests.{RequestId}
use Rattle.lease_terms.specs.declared.refusals.Refusal.{Refusal}
use Rattle.lease_terms.specs.declared.refusals.Refusal.TheVariants.{NoFit, BadRequest, NoArena}
use Rattle.lease_terms.specs.declared.refusals.Refusal.TheVariants.{NotYours, Leases}
use Rattle.lease_proto.specs.declared.faults.LineFault.{LineFault}
use Rattle.lease_proto.specs.declared.lines.Line.{Line}
use Rattle.lease_proto.specs.declared.lines.Line.TheVariants as lines
use Rattle.lease_proto.specs.declared.lines.HelloLine.{HelloLine}
use Rattle.lease_proto.specs.declared.lines.LeaseLine.{LeaseLine}
use Rattle.lease_proto.specs.declared.lines.ReleaseLine.{ReleaseLine}
use Rattle.lease_proto.specs.declared.lines.Op.{Op}
use Rattle.lease_proto.specs.declared.lines.Op.TheVariants as ops
use Rattle.lease_proto.specs.declared.operators.GrowLine.{GrowLine}
use Rattle.lease_proto.specs.declared.operators.OperatorLine.{OperatorLine}
use Rattle.lease_proto.specs.declared.operators.OperatorLine.TheVariants as operators
use Rattle.lease_proto.specs.declared.operators.ServedLine.TheVariants as served
use Rattle.lease_proto.specs.declared.replies.Granted.{Granted}
use Rattle.lease_proto.specs.declared.replies.Reply.{Reply}
use Rattle.lease_proto.specs.declared.replies.Reply.TheVariants as reply
use Rattle.lease_proto.specs.Faults.{error_line}
use Rattle.lease_proto.specs.Frames.{Frame}
use Rattle.lease_proto.specs.Operators.{served_of}
use Rattle.lease_proto.specs.Requests.{client_of, demand_of, again_of}
use Rattle.lease_book.specs.Account.{Account, lease_of}
use Rattle.lease_book.specs.Receipts.{Kept}
use Rattle.lease_book.specs.Replies.{kept_at}
use Rattle.lease_book.specs.Shelf.{standing_of}
use Rattle.lease_book.specs.Standings.{begun, settled_with}
use Rattle.lease_book.specs.BookState.{account_in, leased_segments}
use Rattle.lease_book.specs.Answers.{IsNew}
use Rattle.lease_book.specs.declared.books.TheConstants.{MOST_LEASES}
use Rattle.lease_history.specs.Told.{reply_to, IsKnownReply}
use Rattle.lease_proto.specs.Serving.{ServesLines}
use Rattle.lease_machine.specs.Picture.{Picture, IsPicture, Finds, SameSetup, SetupGrows}
use Rattle.arena_tree.specs.Trees.{arena_named}
use Rattle.lease_machine.specs.Serving.{CanServe}
use Rattle.lease_machine.specs.Operators.{OperatorStep}
use Rattle.lease_machine.specs.Machine.{LeaseStep, IsGrow, TakesDemand, RefusesRelease}
use Rattle.lease_machine.specs.Machine.{TakesMemory}
use Rattle.lease_machine.specs.Laws.{Runs, UnitsAtHome}
use Rattle.lease_machine.specs.AnswerLaws.{reply_bytes, IsKept, IsRequestLine, WasReachable}
use Rattle.lease_machine.specs.LeaseLaws.{leases_in, LeasesStay, LeasesBecome, LosesLease}
use Rattle.lease_machine.specs.LeaseLaws.{HelloMoves, grant_told}
use Rattle.lease_machine.specs.GrowLaws.{AddsFreeOrNone}
use Rattle.lease_machine.specs.RoomLaws.{HasRun, HasRunUp}

-- `granted`: something served the request, and its client had room for a lease. The units fit what
-- the line asks of the arena that it names, and were in reach: free, or in a cache. They are one
-- lease more, of the line's client, incarnation and number.
pub record LeaseGranted (id : RequestId) (l : LeaseLine) (old new : Picture) (g : Granted)
    : Type 0 where
  pub index : ℕ
  pub arena : TreeArena
  pub takes : TakesDemand old l index arena
  pub can : CanServe old index arena (demand_of l)
  pub room : length (leases_in old id.client) < MOST_LEASES
  pub segment : Tag
  pub told : g ≡ grant_told old id segment
  pub named : g.arena ≡ l.arena
  pub fits : Fits arena.quantum (demand_of l) g.base g.len
  pub reach : WasReachable old index segment
  pub more : LeasesBecome id.client (leases_in old id.client ++ lease_of id segment ∷ []) old new

-- `nofit`: no run of free units of the arena serves the request, nor for one that isn't constrained
-- a run of a source what would be imported for it; and no cache has it in reach
pub record NothingServes (index : ℕ) (x : TreeArena) (l : LeaseLine) (old : Picture)
    : Type 0 where
  pub taken : ¬ HasRun old.spaces index (demand_of l)
  pub above : IsPlain (demand_of l) → ¬ HasRunUp old.spaces (chain_in old.tree index) l.size
  pub none : ¬ CanServe old index x (demand_of l)

-- the arena that the line names takes the request, and something serves it
abbrev pub CanBeServed : LeaseLine → Picture → Type 0
CanBeServed l old = (index : ℕ) × (x : TreeArena) × TakesDemand old l index x
    × CanServe old index x (demand_of l)

-- when a new lease is refused, and by which word
abbrev pub WhyNoLease : RequestId → LeaseLine → Picture → Refusal → Type 0
WhyNoLease id l old NoArena = index_in l.arena old.tree ≡ None
WhyNoLease id l old BadRequest = (index : ℕ) × (x : TreeArena) × Finds old l.arena index x
    × (¬ IsGood x.quantum (demand_of l))
WhyNoLease id l old NoFit = (index : ℕ) × (x : TreeArena) × TakesDemand old l index x
    × NothingServes index x l old
WhyNoLease id l old Leases =
    CanBeServed l old × (MOST_LEASES ≤ length (leases_in old id.client))
WhyNoLease id l old NotYours = ⊥

-- a new lease is granted, or refused, or to be asked for again, which changes nothing of the book
abbrev pub LeaseRule : RequestId → LeaseLine → Picture → Reply → Picture → Type 0
LeaseRule id l old (reply.Granted g) new = LeaseGranted id l old new g
LeaseRule id l old (reply.Refused x) new =
    (x.id ≡ id) × WhyNoLease id l old x.refusal × LeasesStay old new
LeaseRule id l old (reply.Again a) new =
    (reply.Again a ≡ again_of id) × CanBeServed l old × (new.book ≡ old.book)
LeaseRule id l old r new = ⊥

-- a new release ends the lease, or is refused: by `noarena` where the arena isn't there, or by
-- `notyours` where the client has no such lease of its incarnation
abbrev pub ReleaseRule : RequestId → ReleaseLine → Picture → Reply → Picture → Type 0
ReleaseRule id l old (reply.Released p) new = (p ≡ id) × LosesLease id l old new
ReleaseRule id l old (reply.Refused x) new =
    (x.id ≡ id) × RefusesRelease id l old x.refusal × LeasesStay old new
ReleaseRule id l old r new = ⊥

abbrev pub RequestRule : RequestId → Op → Picture → Reply → Picture → Type 0
RequestRule id (ops.Lease l) old r new = LeaseRule id l old r new
RequestRule id (ops.Release l) old r new = ReleaseRule id l old r new

-- its incarnation is the client's: where it is a greater one numbers begin anew, by the protocol
-- that it asks for, with no reply kept; where it was that before its protocol stands, and they go
-- on
pub record Greets (h : HelloLine) (old new : Account) : Type 0 where
  pub current : old.incarnation ≤ h.incarnation
  pub becomes : new.incarnation ≡ h.incarnation
  pub anew : old.incarnation < h.incarnation → standing_of new ≡ begun h.incarnation h.protocol
  pub goes_on : old.incarnation ≡ h.incarnation → standing_of new ≡ standing_of old

-- a hello is welcome, by the protocol that stands then, unless its incarnation is an older one than
-- the client's; where it begins an incarnation, the client's first one or one by the second
-- protocol, it may be out of memory
abbrev pub HelloRule : HelloLine → Picture → Reply → Picture → Type 0
HelloRule h old (reply.Welcome w) new =
    Greets h (account_in h.client old.book) (account_in h.client new.book)
    × HelloMoves h old (reply.Welcome w) new
HelloRule h old (reply.Old o) new =
    (o ≡ record { client = h.client; current = (account_in h.client old.book).incarnation })
    × (h.incarnation < (account_in h.client old.book).incarnation) × (new ≡ old)
HelloRule h old (reply.Again a) new =
    (a ≡ record { client = h.client; incarnation = h.incarnation; number = 0 })
    × TakesMemory h (account_in h.client old.book) × (new ≡ old)
HelloRule h old r new = ⊥

-- the reply is what is kept of the request's number, and what else is kept of its client, leases
-- apart, is as a settled number leaves it
pub record IsReplyKept (old new : Picture) (id : RequestId) (r : Reply) : Type 0 where
  pub incarnation : (account_in id.client new.book).incarnation ≡ id.incarnation
  pub kept : Kept
  pub number : kept.number ≡ id.number
  pub there : kept_at id.number (account_in id.client new.book).kept ≡ Some kept
  pub becomes : standing_of (account_in id.client new.book)
      ≡ settled_with kept (standing_of (account_in id.client old.book))
  pub reply : r ≡ reply_to (arena_named new.tree) id kept.reply

-- One line: from old it is answered with the text, and new is what holds then.
pub record KeepsRules (old : Picture) (line text : List ℕ) (new : Picture) : Type 0 where
  -- bytes that are no line get their error line
  pub no_line : (fault : LineFault) → served_of line ≡ Err fault
      → (text ≡ error_line fault) × (new ≡ old)
  pub hello : (h : HelloLine) → served_of line ≡ Ok (served.Client (lines.Hello h))
      → (r : Reply) × (text ≡ reply_bytes r) × HelloRule h old r new
  -- a request whose number is new is served, and what settles it is kept as its reply
  pub request : (id : RequestId) (op : Op) → IsRequestLine line id op
      → IsNew (account_in id.client old.book) id
      → (r : Reply) × (text ≡ reply_bytes r) × RequestRule id op old r new
      × (IsKept r → IsReplyKept old new id r)
  -- any other is answered by its number: a settled one by its reply, as long as that is kept
  pub repeat : (id : RequestId) (op : Op) → IsRequestLine line id op
      → ¬ IsNew (account_in id.client old.book) id
      → (r : Reply) × (text ≡ reply_bytes r)
      × IsKnownReply (arena_named old.tree) old.book id r × (new ≡ old)
  -- an operator's is answered as `OperatorStep` says, and changes nothing of the book
  pub operator : (o : OperatorLine) → served_of line ≡ Ok (served.Operator o)
      → OperatorStep o old text new × (new.book ≡ old.book)
  -- a grow that is answered `ok` adds its units as free, any other answer to it changes nothing
  pub grow : (g : GrowLine) → served_of line ≡ Ok (served.Operator (operators.Grow g))
      → AddsFreeOrNone g old text new
  -- a line changes no other client's incarnation, protocol, numbers, kept replies and leases
  pub others : (c : ℕ) → ((l : Line) → served_of line ≡ Ok (served.Client l) → client_of l ≢ c)
      → account_in c new.book ≡ account_in c old.book
  -- afterwards no two leases overlap whose arenas have one top, each unit is in one home, the
  -- arenas own the spans that they owned, to which only a grow adds one, and the rules go on
  pub apart : AllPairs (ApartUpChain new.spaces) (leased_segments new.book)
  pub homes : UnitsAtHome new
  pub setup : SetupGrows old new
  pub stays : ¬ IsGrow (served_of line) → SameSetup old new
  pub picture : IsPicture new

-- each step keeps them
abbrev pub StepsKeepRules : Type 0
StepsKeepRules = (old new : Picture) (line text : List ℕ) → IsPicture old
    → LeaseStep old line text new → KeepsRules old line text new

-- and so does each line of a run
abbrev pub RunsKeepRules : Type 0
RunsKeepRules = (old new : Picture) (frames : List Frame) (text : List ℕ) → IsPicture old
    → Runs old frames text new → ServesLines KeepsRules old frames text new
