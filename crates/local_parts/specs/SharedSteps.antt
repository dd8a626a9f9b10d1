-- The events of arenas, slabs and depots that leave the CPU alone: what each did, in the stock's
-- own relation. Where the stock has no such cache, nothing changes.
use Rattle.std.specs.Prelude.{◌≡◌, ℕ, ◌+◌, ◌⊎◌, List, Option, None, Result, Ok, Err}
use Rattle.deed_core.specs.Tag.{Tag}
use Rattle.deed_core.specs.Request.{plain_of}
use Rattle.deed_core.specs.declared.requests.Request.{Request}
use Rattle.tag_arena.specs.Outcomes.{CarveOf, ImportOf}
use Rattle.tag_arena.specs.declared.faults.ArenaFault.{ArenaFault}
use Rattle.tag_arena.specs.declared.faults.SpanFault.{SpanFault}
use Rattle.slab_layer.specs.Calls.{TakeOf, AddOf, ReapOf}
use Rattle.slab_layer.specs.declared.faults.AddFault.{AddFault}
use Rattle.slab_layer.specs.declared.faults.PutFault.{PutFault}
use Rattle.magazine_layer.specs.Calls.{DepotReapOf}
use Rattle.arena_tree.specs.declared.part_faults.PartFault.{PartFault}
use Rattle.arena_tree.specs.declared.part_faults.GivenFault.{GivenFault}
use Rattle.arena_tree.specs.declared.part_faults.PartFault.TheVariants as asking
use Rattle.arena_tree.specs.declared.part_faults.GivenFault.TheVariants as giving
use Rattle.slab_layer.specs.declared.faults.AddFault.TheVariants.{WrongSize}
use Rattle.arena_tree.specs.declared.part_faults.Stopped.{Stopped}
use Rattle.stock.specs.Spaces.{SpaceState, HasCache}
use Rattle.stock.specs.Steps.{OnArena, OnSlab, OnDepot, FreeIn, PutIn}
use Rattle.arena_tree.specs.Tags.{wording_of}

-- the arena carved, or refused
abbrev pub DoesCarve : List SpaceState → ℕ → Request → Result Tag (PartFault ArenaFault)
    → List SpaceState → Type 0
DoesCarve old k q a new = (r : Result Tag ArenaFault) × (a ≡ wording_of asking.Refused r)
    × OnArena k (λ x y. CarveOf x q r y) old new

-- the segment was freed, or refused
abbrev pub DoesFree : List SpaceState → Tag → Result (Option Tag) (GivenFault Tag Tag)
    → List SpaceState → Type 0
DoesFree old t a new =
    (r : Result (Option Tag) Tag) × (a ≡ wording_of giving.Refused r) × FreeIn old t r new

-- the span was imported and carved from, or refused
abbrev pub DoesImport : List SpaceState → ℕ → Tag → ℕ → Result Tag (GivenFault (SpanFault Tag) Tag)
    → List SpaceState → Type 0
DoesImport old k span n a new = (r : Result Tag (SpanFault Tag)) × (a ≡ wording_of giving.Refused r)
    × OnArena k (λ x y. ImportOf x span (plain_of n) r y) old new

-- the arena's cache of c quanta stands at the index j, of which the first is so; else the second is
abbrev pub OfCache : List SpaceState → ℕ → ℕ → (ℕ → Type 0) → Type 0 → Type 0
OfCache spaces k c there none = ((j : ℕ) × (c ≡ j + 1) × there j)
    ⊎ (((j : ℕ) → c ≡ j + 1 → ¬ HasCache spaces k j) × none)

-- a chunk was taken, or there was none
abbrev pub DoesTake : List SpaceState → ℕ → ℕ → Result (Option Tag) Stopped → List SpaceState
    → Type 0
DoesTake old k c a new = (o : Option Tag) × (a ≡ Ok o)
    × OfCache old k c (λ j. OnSlab k j (λ x y. TakeOf x o y) old new) ((o ≡ None) × (new ≡ old))

-- a slab was reaped, or there was none
abbrev pub DoesReap : List SpaceState → ℕ → ℕ → Result (Option Tag) Stopped → List SpaceState
    → Type 0
DoesReap old k c a new = (o : Option Tag) × (a ≡ Ok o)
    × OfCache old k c (λ j. OnSlab k j (λ x y. ReapOf x o y) old new) ((o ≡ None) × (new ≡ old))

-- a round was reaped out of the depot, or there was none
abbrev pub DoesDepotReap : List SpaceState → ℕ → ℕ → Result (Option Tag) Stopped
    → List SpaceState → Type 0
DoesDepotReap old k c a new = (o : Option Tag) × (a ≡ Ok o)
    × OfCache old k c (λ j. OnDepot k j (λ x y. DepotReapOf x o y) old new)
    ((o ≡ None) × (new ≡ old))

-- the chunk was put back, or refused
abbrev pub DoesPut : List SpaceState → Tag → Result (Unit {0}) (GivenFault (PutFault Tag) Tag)
    → List SpaceState → Type 0
DoesPut old t a new = (r : Result (Unit {0}) (PutFault Tag)) × (a ≡ wording_of giving.Refused r)
    × PutIn old t r new

-- the span was cut into a slab, or refused: its size is wrong where there is no such cache
abbrev pub DoesAdd : List SpaceState → ℕ → ℕ → Tag → Result Tag (GivenFault (AddFault Tag) Tag)
    → List SpaceState → Type 0
DoesAdd old k c span a new = OfCache old k c
    (λ j. (r : Result Tag (AddFault Tag)) × (a ≡ wording_of giving.Refused r)
    × OnSlab k j (λ x y. AddOf x span r y) old new)
    ((a ≡ Err (giving.Refused (WrongSize span))) × (new ≡ old))
