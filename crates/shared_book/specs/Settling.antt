-- How a line that isn't a repeat is settled.
use Rattle.std.specs.Prelude.{◌≡◌, ◌≢◌, ℕ, List, Option, Some, None}
use Rattle.deed_core.specs.Tag.{Tag}
use Rattle.deed_core.specs.Request.{IsGood}
use Rattle.lease_terms.specs.declared.refusals.Refusal.{Refusal}
use Rattle.lease_terms.specs.declared.refusals.Refusal.TheVariants as refusal
use Rattle.arena_tree.specs.Chains.{quantum_in}
use Rattle.arena_tree.specs.Trees.{index_in, nodes_of}
use Rattle.arena_tree.specs.declared.trees.TreeArena.{TreeArena}
use Rattle.lease_book.specs.Receipts.{ReceiptState}
use Rattle.lease_book.specs.declared.answers.Answer.{Answer}
use Rattle.lease_book.specs.declared.answers.Answer.TheVariants as answer
use Rattle.lease_book.specs.declared.receipts.KeptReply.{KeptReply}
use Rattle.lease_book.specs.declared.receipts.KeptReply.TheVariants as kept
use Rattle.lease_book.specs.declared.receipts.Terms.{Terms}
use Rattle.lease_proto.specs.Requests.{demand_of}
use Rattle.lease_proto.specs.declared.lines.Line.{Line}
use Rattle.lease_proto.specs.declared.lines.Line.TheVariants as lines
use Rattle.lease_proto.specs.declared.lines.LeaseLine.{LeaseLine}
use Rattle.lease_proto.specs.declared.lines.Op.{Op}
use Rattle.lease_proto.specs.declared.lines.Op.TheVariants as op
use Rattle.lease_proto.specs.declared.lines.ReleaseLine.{ReleaseLine}

-- the receipt of a request that was granted this segment on these terms
pub record IsGrantReceipt (t : Tag) (terms : Terms) (v : ReceiptState) : Type 0 where
  pub reply : v.reply ≡ kept.Granted t.arena t.holding.range.base t.holding.range.len
  pub on_terms : v.terms ≡ Some terms

-- the receipt that the answer brings, where the book settled the request by that
abbrev pub new_receipt : {D : Type 0} → Answer D → Option ReceiptState
new_receipt (answer.Refused v) = Some v
new_receipt (answer.Kept v) = None
new_receipt (answer.Old current) = None
new_receipt (answer.Stale greatest) = None
new_receipt (answer.Gap low) = None
new_receipt answer.Again = None

-- the receipt that is told is the one by which the request was settled, if it was
abbrev pub TellsNew : (settled told : Option ReceiptState) → Type 0
TellsNew settled told = (told ≢ None) × (settled ≡ told)

-- the receipt says that the request is refused so
abbrev pub IsRefusalReceipt : Refusal → ReceiptState → Type 0
IsRefusalReceipt why v = v.reply ≡ kept.Refused why

-- an arena has the lease's name, and takes such a request
abbrev pub IsGoodLease : List TreeArena → LeaseLine → Type 0
IsGoodLease arenas l = (arena : ℕ) × (index_in l.arena arenas ≡ Some arena)
    × IsGood (quantum_in (nodes_of arenas) arena) (demand_of l)

-- an arena has the lease's name, and takes no such request
abbrev pub IsBadLease : List TreeArena → LeaseLine → Type 0
IsBadLease arenas l = (arena : ℕ) × (index_in l.arena arenas ≡ Some arena)
    × (¬ IsGood (quantum_in (nodes_of arenas) arena) (demand_of l))

-- a lease is refused so: for the name of its arena just where no arena has that, as bad only where
-- that arena takes no such request, and for want of a fit, or for the leases that its client has
-- already, only where it takes it
abbrev pub MayRefuseLease : List TreeArena → LeaseLine → Refusal → Type 0
MayRefuseLease arenas l refusal.NoArena = index_in l.arena arenas ≡ None
MayRefuseLease arenas l refusal.BadRequest = IsBadLease arenas l
MayRefuseLease arenas l refusal.NoFit = IsGoodLease arenas l
MayRefuseLease arenas l refusal.Leases = IsGoodLease arenas l
MayRefuseLease arenas l refusal.NotYours = ⊥

-- settled by units of the arena that it names, for what it asks of that arena, or refused
abbrev pub SettlesLease : List TreeArena → LeaseLine → KeptReply → Option Terms → Type 0
SettlesLease arenas l (kept.Granted arena base len) terms =
    (index_in l.arena arenas ≡ Some arena)
    × (terms
    ≡ Some (record { quantum = quantum_in (nodes_of arenas) arena; request = demand_of l }))
SettlesLease arenas l (kept.Released arena base) terms = ⊥
SettlesLease arenas l (kept.Refused why) terms = MayRefuseLease arenas l why

-- a release is refused so
abbrev pub MayRefuseRelease : List TreeArena → ReleaseLine → Refusal → Type 0
MayRefuseRelease arenas r refusal.NoArena = index_in r.arena arenas ≡ None
MayRefuseRelease arenas r refusal.NotYours = index_in r.arena arenas ≢ None
MayRefuseRelease arenas r _ = ⊥

-- settled by the release of the lease that it names, or refused
abbrev pub SettlesRelease : List TreeArena → ReleaseLine → KeptReply → Type 0
SettlesRelease arenas r (kept.Granted arena base len) = ⊥
SettlesRelease arenas r (kept.Released arena base) =
    (index_in r.arena arenas ≡ Some arena) × (base ≡ r.base)
SettlesRelease arenas r (kept.Refused why) = MayRefuseRelease arenas r why

abbrev pub Settles : List TreeArena → Op → ReceiptState → Type 0
Settles arenas (op.Lease l) v = SettlesLease arenas l v.reply v.terms
Settles arenas (op.Release r) v = SettlesRelease arenas r v.reply

-- the line was settled by this receipt, as its words ask
abbrev pub IsSettledAsAsked : List TreeArena → Line → Option ReceiptState → Type 0
IsSettledAsAsked arenas (lines.Hello h) v = ⊥
IsSettledAsAsked arenas (lines.Request id o) (Some v) = Settles arenas o v
IsSettledAsAsked arenas (lines.Request id o) None = ⊥
