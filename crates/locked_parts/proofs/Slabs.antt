-- A slab has room for a chunk of each cache of its arena.
use Rattle.std.proofs.Common.{◌≡◌, ℕ, zero, suc, ◌*◌, ◌/◌, ◌<◌, ◌≤◌, List, Some, min, subst, arith}
use Rattle.std.specs.Prelude.{slice_get}
use Rattle.std.proofs.Math.Nat.{le-div_iff_mul-le}
use Rattle.arena_tree.specs.declared.trees.TreeArena.{TreeArena}
use Rattle.arena_tree.specs.Trees.{HasCaches}
use Rattle.locked_parts.specs.Kinds.{count_of_caches, caches_if}

within : (x : TreeArena) (n : ℕ) → 0 < x.quantum → 1 ≤ n → n ≤ x.qcache_max / x.quantum → HasCaches x.quantum x.qcache_max x.slab_size → n * x.quantum ≤ x.slab_size
within x n some one most has =
    let cached : n * x.quantum ≤ x.qcache_max = (le-div_iff_mul-le some).0 most in
    let chunk : 0 < n * x.quantum = grow n one in
    let next = has.2.1 (λ e. absurd (omega (arith, cached, chunk, e))) in
    omega (arith, cached, next.1)
  where
    grow : (m : ℕ) → 1 ≤ m → 0 < m * x.quantum
    grow zero lt = absurd (omega (arith, lt))
    grow (suc m) lt = omega (arith, some)

pub room_for : (arenas : List TreeArena) (id n : ℕ) (x : TreeArena) → slice_get arenas id ≡ Some x → HasCaches x.quantum x.qcache_max x.slab_size → 0 < x.quantum → 1 ≤ n → n ≤ count_of_caches arenas id → n * x.quantum ≤ x.slab_size
room_for arenas id n x here has some one most =
    let less : n ≤ min (x.qcache_max / x.quantum) 255 = subst (λ o. n ≤ caches_if o) here most in
    within x n some one (omega (arith, less)) has
