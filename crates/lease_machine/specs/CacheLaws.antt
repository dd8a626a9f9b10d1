-- Which quantum cache serves a request.
use Rattle.std.specs.Prelude.{◌≡◌, ℕ, ◌+◌, ◌*◌, ◌<◌, List, slice_get, Some, MatchOption}
use Rattle.deed_core.specs.Request.{IsPlain, rounding_of}
use Rattle.deed_core.specs.declared.requests.Request.{Request}
use Rattle.arena_tree.specs.declared.trees.TreeArena.{TreeArena}
use Rattle.arena_tree.specs.Trees.{IsTree, level_of}
use Rattle.quantum_cache.specs.Sizes.{cache_for}
use Rattle.lease_machine.specs.Serving.{IsCachedIn}

-- an arena serves a request by its caches just where the lists of steps have a cache for its size:
-- the one whose chunks are as long
abbrev pub CachedByNumber : Type 0
CachedByNumber = (tree : List TreeArena) (index : ℕ) (x : TreeArena) (q : Request) → IsTree tree
    → slice_get tree index ≡ Some x → IsPlain q → 0 < q.size
    → MatchOption (cache_for (level_of index x) q.size) (¬ IsCachedIn x q)
    (λ number. IsCachedIn x q × ((cache : ℕ) × (number ≡ cache + 1)
    × (rounding_of x.quantum q.size ≡ (cache + 1) * x.quantum)))
