-- What an allocation gives.
use Rattle.std.specs.Prelude.{◌≡◌, ◌⊎◌, ℕ, List, [], ◌∷◌, Some}
use Rattle.deed_core.specs.Tag.{Tag}
use Rattle.deed_core.specs.Request.{Fits, plain_of}
use Rattle.deed_core.specs.declared.segments.Route.{Route}
use Rattle.deed_core.specs.declared.segments.Route.TheVariants.{Direct, Cached}
use Rattle.arena_tree.specs.declared.levels.Level.{Level}
use Rattle.arena_tree.specs.Chains.{Node, quantum_in}
use Rattle.quantum_cache.specs.Sizes.{cache_for}

-- carved, or by the cache for the size
abbrev pub ServedRoute : Level → ℕ → Route → Type 0
ServedRoute l size route =
    (route ≡ Direct) ⊎ ((k : ℕ) × (cache_for l size ≡ Some k) × (route ≡ Cached k))

-- a segment of the arena that fits the request for so many units, so of its rounded length
pub record IsServedOf (nodes : List Node) (l : Level) (size : ℕ) (t : Tag) : Type 0 where
  pub of_arena : t.arena ≡ l.id
  pub by : ServedRoute l size t.route
  pub fits : Fits (quantum_in nodes l.id) (plain_of size) t.holding.range.base t.holding.range.len

-- of the chain's first arena
abbrev pub IsServed : List Node → List Level → ℕ → Tag → Type 0
IsServed nodes [] size t = ⊥
IsServed nodes (l ∷ up) size t = IsServedOf nodes l size t

-- no units are asked for, or the slabs that would serve them have none
abbrev pub AsksForNone : List Level → ℕ → Type 0
AsksForNone [] size = ⊥
AsksForNone (l ∷ up) size =
    (size ≡ 0) ⊎ ((l.slab_size ≡ 0) × ((k : ℕ) × (cache_for l size ≡ Some k)))
