-- What a root gets that grows, and what becomes of it.
use Rattle.std.specs.Prelude.{◌≡◌, ◌≢◌, ◌⊎◌, ℕ, ◌+◌, List, [], Contains, set, slice_get, Some, Ok}
use Rattle.deed_core.specs.Extent.{Covers}
use Rattle.deed_core.specs.Holding.{Holding}
use Rattle.tag_arena.specs.Calls.{after_add}
use Rattle.tag_arena.specs.Place.{ServesIn}
use Rattle.arena_tree.specs.declared.trees.TreeArena.{TreeArena}
use Rattle.arena_tree.specs.Trees.{index_in}
use Rattle.stock.specs.Spaces.{SpaceState, with_arena}
use Rattle.stock.specs.Sums.{Sums}
use Rattle.stock_audit.specs.Chains.{unit_of_arena}
use Rattle.stock_audit.specs.Keeping.{IsStep}
use Rattle.lease_terms.specs.Requests.{RequestId}
use Rattle.lease_proto.specs.declared.lines.LeaseLine.{LeaseLine}
use Rattle.lease_proto.specs.declared.operators.GrowLine.{GrowLine}
use Rattle.lease_proto.specs.declared.operators.OperatorLine.TheVariants as operator
use Rattle.lease_proto.specs.declared.operators.ServedLine.TheVariants as served
use Rattle.lease_proto.specs.Frames.{Frame}
use Rattle.lease_proto.specs.Operators.{served_of}
use Rattle.lease_proto.specs.Reports.{ok_text}
use Rattle.lease_proto.specs.Requests.{demand_of}
use Rattle.lease_call.specs.Growing.{range_asked}
use Rattle.lease_machine.specs.Picture.{Picture, IsPicture, SetupGrows, Finds, held_outside}
use Rattle.lease_machine.specs.Operators.{Grows, sums_in}
use Rattle.lease_machine.specs.Machine.{LeaseStep}
use Rattle.lease_machine.specs.Laws.{Runs}
use Rattle.lease_machine.specs.LeaseLaws.{LeasesStay}
use Rattle.lease_machine.specs.RoomLaws.{FindsNoRoom, NothingIsKept}

-- an arena with that root behind its spans
abbrev pub grown : Holding → SpaceState → SpaceState
grown root s = with_arena (after_add s.arena root) s

-- so many units more are free
abbrev pub with_more_free : ℕ → Sums → Sums
with_more_free n x = record x { free = x.free + n }

-- a unit that is free, and nowhere else
abbrev pub free_alone : Sums
free_alone = record { free = 1; slab = 0; magazine = 0; exported = 0; leased = 0; hand = 0 }

-- The units came to the arena that the line names, as a root behind its spans, and all of them are
-- free. All its other units are where they were, and so are those of each other arena; no lease and
-- no CPU changed.
pub record AddsFree (g : GrowLine) (old new : Picture) : Type 0 where
  pub index : ℕ
  pub named : index_in g.arena old.tree ≡ Some index
  pub space : SpaceState
  pub here : slice_get old.spaces index ≡ Some space
  pub root : Holding
  pub range : root.range ≡ range_asked g
  pub after : new ≡ record old { spaces = set old.spaces index (grown root space) }
  pub sums : sums_in new (grown root space) ≡ with_more_free g.len (sums_in old space)
  pub units : (u : ℕ) → Covers (range_asked g) u
      → unit_of_arena u new.spaces (held_outside new) (grown root space) ≡ free_alone
  pub others : (k : ℕ) (s : SpaceState) → k ≢ index → slice_get old.spaces k ≡ Some s
      → (slice_get new.spaces k ≡ Some s) × (sums_in new s ≡ sums_in old s)
  pub leases : LeasesStay old new

-- answered `ok` it added them, and answered otherwise it changed nothing
abbrev pub AddsFreeOrNone : GrowLine → Picture → List ℕ → Picture → Type 0
AddsFreeOrNone g old text new =
    ((text ≡ ok_text) × AddsFree g old new) ⊎ ((text ≢ ok_text) × (new ≡ old))

-- so it is with each grow
abbrev pub GrowsAddFree : Type 0
GrowsAddFree = (old new : Picture) (g : GrowLine) (line text : List ℕ) → IsPicture old
    → served_of line ≡ Ok (served.Operator (operator.Grow g)) → LeaseStep old line text new
    → AddsFreeOrNone g old text new

-- a line with this grow was answered `ok`
pub record Grew (g : GrowLine) (old new : Picture) : Type 0 where
  pub line : List ℕ
  pub read : served_of line ≡ Ok (served.Operator (operator.Grow g))
  pub step : LeaseStep old line ok_text new

-- then a lease of a new number, of the same arena, that fits in the range isn't answered `nofit`
abbrev pub GrownIsServed : Type 0
GrownIsServed = (old mid new : Picture) (g : GrowLine) (id : RequestId) (l : LeaseLine) (index : ℕ)
    (x : TreeArena) (span : Holding) (base : ℕ) → IsPicture old → Grew g old mid
    → index_in g.arena mid.tree ≡ Some index → Finds mid l.arena index x
    → span.range ≡ range_asked g → ServesIn x.quantum (demand_of l) span base
    → ¬ FindsNoRoom mid new id l

-- where nothing is leased or kept, a grow, whatever it is answered, leaves it so, and the book
abbrev pub GrowsKeepNothing : Type 0
GrowsKeepNothing = (old new : Picture) (g : GrowLine) (line text : List ℕ) → NothingIsKept old
    → served_of line ≡ Ok (served.Operator (operator.Grow g)) → LeaseStep old line text new
    → NothingIsKept new × (new.book ≡ old.book)

-- the arena that the line names owns a span of these units
pub record OwnsAdded (g : GrowLine) (d : Picture) : Type 0 where
  pub index : ℕ
  pub named : index_in g.arena d.tree ≡ Some index
  pub space : SpaceState
  pub here : slice_get d.spaces index ≡ Some space
  pub span : Holding
  pub range : span.range ≡ range_asked g
  pub owns : Contains space.arena.owned span

-- and it does so after any lines
abbrev pub GrownStays : Type 0
GrownStays = (old mid new : Picture) (g : GrowLine) (frames : List Frame) (text : List ℕ)
    → Grew g old mid → Runs mid frames text new → OwnsAdded g new

-- what the line leaves is a picture, where the stock's own law and its accounts are kept
abbrev pub GrowsKeep : Type 0
GrowsKeep = (old new : Picture) (g : GrowLine) (text : List ℕ) → IsPicture old
    → Grows g old text new → IsStep old.spaces [] new.spaces []
    → IsPicture new × SetupGrows old new

-- and then the line may be answered so
abbrev pub GrowsAreAnswered : Type 0
GrowsAreAnswered = (old new : Picture) (g : GrowLine) (line text : List ℕ) → IsPicture old
    → served_of line ≡ Ok (served.Operator (operator.Grow g)) → Grows g old text new
    → IsStep old.spaces [] new.spaces [] → LeaseStep old line text new
