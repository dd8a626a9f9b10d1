-- Lists of the bases of slabs.
use Rattle.std.specs.Prelude.{◌≡◌, ◌<◌, ◌≤◌, ℕ, Bool, true, false, List, [], ◌∷◌, ◌++◌}
use Rattle.std.specs.Prelude.{All, AllPairs, length, map}
use Rattle.std.specs.List.{filter}
use Rattle.slab_layer.specs.declared.standings.Standing.{Standing}
use Rattle.slab_layer.specs.Slab.{SlabState}
use Rattle.slab_layer.specs.Standings.{standing_of, lists_partial, lists_complete}
use Rattle.slab_layer.specs.Cache.{IsBelow}

-- a base, where it is listed
abbrev pub base_if : Bool → ℕ → List ℕ
base_if true base = base ∷ []
base_if false base = []

-- these lie below a base, those above it
pub record IsAround (base : ℕ) (low high : List ℕ) : Type 0 where
  pub below : All (λ b. b < base) low
  pub above : All (λ b. base < b) high

-- the bases of the slabs that a list has
abbrev pub bases_where : (Standing → Bool) → List SlabState → List ℕ
bases_where has slabs = map (λ s. s.span.range.base) (filter (λ s. has (standing_of s)) slabs)

-- what a caller sees of both lists, and how many may stand in each
pub record IdleState : Type 0 where
  pub partial : List ℕ
  pub complete : List ℕ
  pub room : ℕ

-- slabs that begin below a base, and slabs that begin above it
pub record AreBeside (low : List SlabState) (base : ℕ) (high : List SlabState) : Type 0 where
  pub below : All (λ s. s.span.range.base < base) low
  pub above : All (λ s. base < s.span.range.base) high

-- the lists have the bases of those and of one between them that stands so
pub record ListsAt (low : List SlabState) (base : ℕ) (standing : Standing) (high : List SlabState)
    (idle : IdleState) : Type 0 where
  pub partial : idle.partial ≡ bases_where lists_partial low
      ++ (base_if (lists_partial standing) base ++ bases_where lists_partial high)
  pub complete : idle.complete ≡ bases_where lists_complete low
      ++ (base_if (lists_complete standing) base ++ bases_where lists_complete high)

-- slabs by ascending base; in two lists, with room for them all, the bases of the partial ones and
-- of the complete ones
pub record AreListed (slabs : List SlabState) (idle : IdleState) : Type 0 where
  pub ascending : AllPairs IsBelow slabs
  pub some : All (λ s. 0 < s.span.range.len) slabs
  pub partial : idle.partial ≡ bases_where lists_partial slabs
  pub complete : idle.complete ≡ bases_where lists_complete slabs
  pub room : length slabs ≤ idle.room

-- what a caller sees of such slabs, and how many may be among them
pub record SlabListState : Type 0 where
  pub items : List SlabState
  pub room : ℕ
