-- What a grow does under the arena's lock, and why not.
use Rattle.std.specs.Prelude.{◌≡◌, ℕ, ◌/◌, ◌<◌, ◌++◌, List, All, Result, Ok, Err}
use Rattle.deed_core.specs.Extent.{Extent}
use Rattle.deed_core.specs.Holding.{Holding}
use Rattle.deed_table.specs.Opened.{OpensNext}
use Rattle.tag_arena.specs.ArenaState.{OnQuantum}
use Rattle.tag_arena.specs.Calls.{AdmitsRange, IsClear, OverlapsSpan, after_add}
use Rattle.arena_tree.specs.declared.limits.TheConstants.{MOST_SPANS}
use Rattle.arena_tree.specs.declared.part_faults.GrowFault.{GrowFault}
use Rattle.arena_tree.specs.declared.part_faults.GrowFault.TheVariants.{NoArena, NotRoot, Overlaps}
use Rattle.arena_tree.specs.declared.part_faults.GrowFault.TheVariants.{NotAligned, TooMany}
use Rattle.arena_tree.specs.declared.part_faults.GrowFault.TheVariants.{NoMemory}
use Rattle.locked_parts.specs.Answers.{ArenaPartState}

-- a fault of the arena itself: which of the arenas it is, is known before
abbrev pub IsFaultOfArena : GrowFault → Type 0
IsFaultOfArena NoArena = ⊥
IsFaultOfArena NotRoot = ⊥
IsFaultOfArena Overlaps = Unit {0}
IsFaultOfArena NotAligned = Unit {0}
IsFaultOfArena TooMany = Unit {0}
IsFaultOfArena NoMemory = Unit {0}

-- an answer of it
abbrev pub IsOfArena : {A : Type 0} → Result A GrowFault → Type 0
IsOfArena (Ok _) = Unit {0}
IsOfArena (Err f) = IsFaultOfArena f

-- an arena, by its number, opened a root of a range, and added its deed
pub record GrownState : Type 0 where
  pub arena : ℕ
  pub range : Extent

-- this one did, of this range
abbrev pub IsGrowthBy : ℕ → Extent → GrownState → Type 0
IsGrowthBy id range g = (g.arena ≡ id) × (g.range ≡ range)

-- an arena, by its number, refused a growth by a range
pub record GrowthRefusedState : Type 0 where
  pub arena : ℕ
  pub range : Extent
  pub fault : GrowFault

-- this one did, by this range, for a fault of its own
abbrev pub IsRefusalBy : ℕ → Extent → GrowthRefusedState → Type 0
IsRefusalBy id range r = (r.arena ≡ id) × (r.range ≡ range) × IsFaultOfArena r.fault

-- nothing stands against a further root of this range, and a number is left for it
abbrev pub CanGrow : ArenaPartState → Extent → Type 0
CanGrow p range = AdmitsRange p.arena range × (0 < p.roots.left)

-- the root was opened and its deed added
pub record PartGrew (old : ArenaPartState) (range : Extent) (new : ArenaPartState) : Type 0 where
  pub could : CanGrow old range
  pub span : Holding
  pub range_is : span.range ≡ range
  pub opened : OpensNext old.roots span new.roots
  pub arena : new.arena ≡ after_add old.arena span
  pub source : new.source ≡ old.source
  pub beside : new.beside ≡ old.beside

-- why an arena doesn't grow, the first of these that stands; memory is asked for only where none
-- does
abbrev pub RefusesGrow : ArenaPartState → Extent → GrowFault → Type 0
RefusesGrow p range NoArena = ⊥
RefusesGrow p range NotRoot = ⊥
RefusesGrow p range Overlaps = OverlapsSpan p.arena range
RefusesGrow p range NotAligned = IsClear p.arena range × (¬ OnQuantum p.arena.quantum range)
RefusesGrow p range TooMany = AdmitsRange p.arena range × (p.roots.left ≡ 0)
RefusesGrow p range NoMemory = CanGrow p range

-- the numbers of these roots are of the arena of this number
abbrev pub AreRootsOf : ℕ → List Holding → Type 0
AreRootsOf id roots = All (λ r. r.root / MOST_SPANS ≡ id) roots

-- further roots of the arena of this number stand behind the old ones
abbrev pub HasRootsMore : ℕ → List Holding → List Holding → Type 0
HasRootsMore id old new = (further : List Holding) × AreRootsOf id further × (new ≡ old ++ further)
