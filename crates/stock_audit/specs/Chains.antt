-- What is reachable up a chain of sources.
use Rattle.std.specs.Prelude.{◌≡◌, ◌⊎◌, ℕ, ◌+◌, ◌==◌, ◌<◌, Bool, false, List, filter, flat_map}
use Rattle.std.specs.Prelude.{slice_get, Option, Some, None}
use Rattle.deed_core.specs.Extent.{Extent, Covers}
use Rattle.deed_core.specs.Holding.{Holding}
use Rattle.deed_core.specs.Request.{Fits}
use Rattle.deed_core.specs.declared.requests.Request.{Request}
use Rattle.deed_core.specs.Covering.{covers_held, covering_held}
use Rattle.tag_arena.specs.ArenaState.{spans_of}
use Rattle.slab_layer.specs.Cache as slab_layer
use Rattle.stock.specs.Spaces.{SpaceState}
use Rattle.stock.specs.Sums.{Sums, homes_of, sums_of}
use Rattle.tag_arena.specs.Spanned.{holdings_of}
use Rattle.stock.specs.Laws.{HasTop}
use Rattle.stock_audit.specs.Outside.{Outside, out_of}

-- the second arena is the first, its source, that one's source, or so on
pub data IsUpFrom (spaces : List SpaceState) : ℕ → ℕ → Type 0 where
  here : (k : ℕ) → IsUpFrom spaces k k
  above : (k p a : ℕ) (s : SpaceState) → slice_get spaces k ≡ Some s → s.source ≡ Some p
      → IsUpFrom spaces p a → IsUpFrom spaces k a

-- the unit is free in the arena, or outside its spans and free further up the chain
pub data IsFreeFor (spaces : List SpaceState) (u : ℕ) : ℕ → Type 0 where
  free : (k : ℕ) (s : SpaceState) → slice_get spaces k ≡ Some s
      → 0 < covering_held u s.arena.free → IsFreeFor spaces u k
  free_above : (k p : ℕ) (s : SpaceState) → slice_get spaces k ≡ Some s → s.source ≡ Some p
      → covering_held u (spans_of s.arena) ≡ 0 → IsFreeFor spaces u p → IsFreeFor spaces u k

-- the homes of a unit, counted: 1 at the one that it has, and 0 at the others
abbrev pub unit_of_arena : ℕ → List SpaceState → Outside → SpaceState → Sums
unit_of_arena u spaces out s = sums_of (covers_held u) (homes_of spaces (out_of out) s)

-- the homes of an arena but what it exported, which is in other arenas
abbrev pub sum_but_exported : Sums → ℕ
sum_but_exported x = x.free + (x.slab + (x.magazine + (x.leased + x.hand)))

-- the arena at the top of the chain of each one
abbrev pub AreTops : List SpaceState → (ℕ → ℕ) → Type 0
AreTops spaces top = (k : ℕ) (s : SpaceState) → slice_get spaces k ≡ Some s
    → HasTop spaces k (top k)

-- it has this one
abbrev pub is_under : (ℕ → ℕ) → ℕ → SpaceState → Bool
is_under top r s = top s.arena.id == r

-- it is in a slab or in a magazine of the arena
abbrev pub IsCached : Sums → Type 0
IsCached x = 0 < x.slab + x.magazine

-- what the arena may serve a request with: free units, also such as it would import, and those in
-- its caches
abbrev pub IsReachable : List SpaceState → Outside → ℕ → SpaceState → ℕ → Type 0
IsReachable spaces out k s u = IsFreeFor spaces u k ⊎ IsCached (unit_of_arena u spaces out s)

-- the range fits the request, and the arena may serve it: each of its units is reachable
pub record FitsIn (spaces : List SpaceState) (out : Outside) (k : ℕ) (s : SpaceState)
    (q : Request) (e : Extent) : Type 0 where
  pub fits : Fits s.arena.quantum q e.base e.len
  pub reachable : (u : ℕ) → Covers e u → IsReachable spaces out k s u

-- the arena imports from this one
abbrev pub is_source : ℕ → Option ℕ → Bool
is_source p None = false
is_source p (Some q) = q == p

abbrev pub is_child_of : ℕ → SpaceState → Bool
is_child_of p s = is_source p s.source

abbrev pub children_of : ℕ → List SpaceState → List SpaceState
children_of p spaces = filter (is_child_of p) spaces

-- the spans of all that do
abbrev pub spans_of_children : ℕ → List SpaceState → List Holding
spans_of_children p spaces = flat_map (λ x. spans_of x.arena) (children_of p spaces)

-- the spans of the slabs of an arena's caches
abbrev pub spans_of_slabs : SpaceState → List Holding
spans_of_slabs s = flat_map (λ c. holdings_of (slab_layer.span_tags c.slab)) s.caches
