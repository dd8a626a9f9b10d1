-- How segments come from their arenas, and go back to them.
use Rattle.std.specs.Prelude.{◌≡◌, ◌⊎◌, ℕ, List, [], ◌∷◌, map, filter, not, Some, None}
use Rattle.deed_core.specs.Tag.{Tag}
use Rattle.deed_core.specs.Request.{plain_of}
use Rattle.deed_core.specs.declared.requests.Request.{Request}
use Rattle.tag_arena.specs.ArenaState.{ArenaState}
use Rattle.tag_arena.specs.Outcomes.{WasCarved, WasImported, WasFreed}
use Rattle.arena_tree.specs.declared.levels.Level.{Level}
use Rattle.arena_tree.specs.Chains.{amount_of}
use Rattle.slab_layer.specs.Slab.{SlabState}
use Rattle.slab_layer.specs.Cache.{SlabCacheState}
use Rattle.stock.specs.Spaces.{SpaceState, QuantumCacheState, with_caches}
use Rattle.stock.specs.Steps.{OnArena}
use Rattle.local_calls.specs.NoFits.{HasBase}
use Rattle.lease_machine.specs.Picture.{Picture, is_cpu}

-- the segment was carved for the request where the arena's policy chose, and nothing else changed
abbrev pub CarvesAt : ℕ → Request → Tag → List SpaceState → List SpaceState → Type 0
CarvesAt index q t old new = OnArena index (λ a b. WasCarved a q t b) old new

-- the span was imported, and the segment is its first units
abbrev pub ImportsAt : ℕ → Tag → ℕ → Tag → List SpaceState → List SpaceState → Type 0
ImportsAt index span n t old new =
    OnArena index (λ a b. WasImported a span (plain_of n) t b) old new

-- the segment of so many units was carved in the first arena of the chain or, where no address of
-- that served, of a span that it imported from the next
abbrev pub Climbs : List Level → ℕ → Tag → List SpaceState → List SpaceState → Type 0
Climbs [] n t old new = ⊥
Climbs (l ∷ up) n t old new = CarvesAt l.id (plain_of n) t old new
    ⊎ ((¬ HasBase old l.id (plain_of n)) × ((span : Tag) × (mid : List SpaceState)
    × Climbs up (amount_of l up n) span old mid × ImportsAt l.id span n t mid new))

-- the segment was freed; where that made an imported span whole, that went to its source, and so on
pub data Returns (new : List SpaceState) : Tag → List SpaceState → Type 0 where
  stays : (t : Tag) (old : List SpaceState)
      → OnArena t.arena (λ a b. WasFreed a t None b) old new → Returns new t old
  rises : (t whole : Tag) (old mid : List SpaceState)
      → OnArena t.arena (λ a b. WasFreed a t (Some whole) b) old mid → Returns new whole mid
      → Returns new t old

-- these segments went back so, one after another
abbrev pub ReturnAll : List Tag → List SpaceState → List SpaceState → Type 0
ReturnAll [] old new = new ≡ old
ReturnAll (t ∷ ts) old new = (mid : List SpaceState) × Returns mid t old × ReturnAll ts mid new

-- these arenas, with the caches of those
abbrev pub arenas_with : List SpaceState → List SpaceState → List SpaceState
arenas_with [] others = []
arenas_with (s ∷ spaces) [] = with_caches [] s ∷ arenas_with spaces []
arenas_with (s ∷ spaces) (x ∷ others) = with_caches x.caches s ∷ arenas_with spaces others

-- nothing changed, or what was carved for the request went back
abbrev pub CarvesInVain : ℕ → Request → List SpaceState → List SpaceState → Type 0
CarvesInVain index q old new = (new ≡ old)
    ⊎ ((t : Tag) × (mid : List SpaceState) × CarvesAt index q t old mid × Returns new t mid)

-- nothing changed, or what was climbed for in an arena of the chain went back: no address of those
-- before it served
abbrev pub ClimbsInVain : List Level → ℕ → List SpaceState → List SpaceState → Type 0
ClimbsInVain [] n old new = new ≡ old
ClimbsInVain (l ∷ up) n old new = (new ≡ old)
    ⊎ ((t : Tag) × (mid : List SpaceState) × Climbs (l ∷ up) n t old mid × Returns new t mid)
    ⊎ ((¬ HasBase old l.id (plain_of n)) × ClimbsInVain up (amount_of l up n) old new)

abbrev pub arena_of : SpaceState → ArenaState
arena_of s = s.arena

-- the slab, without which of its chunks are at home
abbrev pub outline_of : SlabState → SlabState
outline_of s = record s { home = [] }

abbrev pub slab_outlines : QuantumCacheState → SlabCacheState
slab_outlines c = record c.slab { slabs = map outline_of c.slab.slabs }

abbrev pub outlines_of : SpaceState → List SlabCacheState
outlines_of s = map slab_outlines s.caches

-- the arenas are as they were, and so are the slabs, but for which chunks are at home
pub record ArenasStay (old new : List SpaceState) : Type 0 where
  pub arenas : map arena_of new ≡ map arena_of old
  pub slabs : map outlines_of new ≡ map outlines_of old

-- each CPU but the selected one is as it was, and none came or went
pub record OtherCpusStay (old new : Picture) : Type 0 where
  pub numbers : map (λ c. c.number) new.cpus ≡ map (λ c. c.number) old.cpus
  pub others : filter (λ c. not (is_cpu old.selected c)) new.cpus
      ≡ filter (λ c. not (is_cpu old.selected c)) old.cpus

-- the same names, and the same CPU selected
abbrev pub SameNames : Picture → Picture → Type 0
SameNames old new = (new.tree ≡ old.tree) × (new.selected ≡ old.selected)
