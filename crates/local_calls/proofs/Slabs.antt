-- What is carved for a slab is as long as a slab of the cache for the size.
use Rattle.std.proofs.Common.{◌≡◌, ℕ, ◌+◌, ◌*◌, ◌/◌, ◌%◌, ◌<◌, ◌≤◌, List, ◌∷◌, Some, None, Bool, true, false, refl, sym, ap, subst, ◌∙◌, inl, inr, arith}
use Rattle.std.specs.Prelude.{nat_lt, nat_le, ◌&&◌, if◌then◌else◌}
use Rattle.std.specs.Int.{IsPowerOfTwo}
use Rattle.std.proofs.Math.Nat.{mul-le-mul_right, mod_self}
use Rattle.std.proofs.lemmas.Bool.{cases_lt, cases_eq, ltb-true, leb-true}
use Rattle.std.proofs.lemmas.Nat.{div-add-mod'}
use Rattle.deed_core.specs.Request.{rounding_of, plain_of}
use Rattle.deed_core.specs.Tag.{Tag}
use Rattle.deed_core.proofs.LawProofs.{rounds_up, rounds_once, power_some, smaller_power_divides}
use Rattle.arena_tree.specs.declared.levels.Level.{Level}
use Rattle.arena_tree.specs.declared.trees.TreeArena.{TreeArena}
use Rattle.arena_tree.specs.Chains.{Node, IsChain, IsGrant}
use Rattle.arena_tree.specs.Trees.{nodes_of, IsTree, IsArena}
use Rattle.quantum_cache.specs.Sizes.{quanta_for, cache_for}
use Rattle.local_calls.specs.Asked.{IsForSlab}
use Rattle.local_calls.proofs.Chains.{first_arena, chain_quantum}

-- what a cache's number tells of the size
cached : (size units most quanta k : ℕ) (a b c : Bool) → nat_lt 0 size ≡ a → nat_le units most ≡ b → (if a && b && c then Some quanta else None) ≡ Some k → (0 < size) × (units ≤ most) × (quanta ≡ k)
cached size units most quanta k true true true some fits e = (ltb-true 0 size some, leb-true units most fits, (let same : Some quanta ≡ Some k = e in cc))
cached size units most quanta k true true false some fits e = absurd (let same : None ≡ Some k = e in cc)
cached size units most quanta k true false c some fits e = absurd (let same : None ≡ Some k = e in cc)
cached size units most quanta k false b c some fits e = absurd (let same : None ≡ Some k = e in cc)

pub is_cached_size : (l : Level) (size k : ℕ) → cache_for l size ≡ Some k → (0 < size) × (rounding_of l.quantum size ≤ l.qcache_max) × (quanta_for l size ≡ k)
is_cached_size l size k e = cached size (rounding_of l.quantum size) l.qcache_max (quanta_for l size) k (nat_lt 0 size) (nat_le (rounding_of l.quantum size) l.qcache_max) (nat_lt (quanta_for l size) 256) refl refl e

times : (quantum n : ℕ) → n % quantum ≡ 0 → n ≡ n / quantum * quantum
times quantum n e = omega (arith, e, div-add-mod' n quantum)

-- the number of a cached size is one of the arena's caches
within : (quantum size most : ℕ) → 0 < quantum → 0 < size → rounding_of quantum size ≤ most → most % quantum ≡ 0 → (0 < rounding_of quantum size / quantum) × (rounding_of quantum size / quantum ≤ most / quantum)
within quantum size most some units le whole =
    let up = rounds_up quantum size some in
    let r : rounding_of quantum size ≡ rounding_of quantum size / quantum * quantum = times quantum (rounding_of quantum size) up.0 in
    let m : most ≡ most / quantum * quantum = times quantum most whole in (
      elim (cases_eq (rounding_of quantum size / quantum) 0) [
        | inl none ↦ let zero : rounding_of quantum size ≡ 0 * quantum = r ∙ ap (λ z. z * quantum) none in absurd (omega (arith, zero, up.1, units))
        | inr ne ↦ omega (arith, ne)
      ],
      elim (cases_lt (most / quantum) (rounding_of quantum size / quantum)) [
        | inl less ↦
            let more : (most / quantum + 1) * quantum ≤ rounding_of quantum size / quantum * quantum = mul-le-mul_right quantum (omega (arith, less)) in
            let one_more : most / quantum * quantum + quantum ≡ (most / quantum + 1) * quantum = grind arith in
            absurd (omega (arith, more, one_more, r, m, le, some))
        | inr ok ↦ ok
      ],
    )

-- a slab is in whole quanta
slab_rounds : (quantum most slab : ℕ) → IsPowerOfTwo quantum → IsPowerOfTwo slab → 0 < most → quantum ≤ most → 3 * most + 1 ≤ slab → rounding_of quantum slab ≡ slab
slab_rounds quantum most slab p q some least le =
    rounds_once quantum slab (power_some quantum p) (smaller_power_divides quantum slab slab p q (omega (arith, least, le)) (mod_self slab))

pub for_slab : (arenas : List TreeArena) → IsTree arenas → (l : Level) (up : List Level) (size cache : ℕ) (span : Tag) → IsChain (nodes_of arenas) (l ∷ up) → cache_for l size ≡ Some cache → IsGrant (nodes_of arenas) l.id (plain_of l.slab_size) span
    → IsForSlab arenas l.id cache span
for_slab arenas tree l up size cache span is e grant =
    let here = first_arena arenas l up is in
    let x : TreeArena = here.0 in
    let arena : IsArena arenas l.id x = tree.each l.id x here.1 in
    let quantum : l.quantum ≡ x.quantum = ap (λ (n : Node). n.quantum) here.2 in
    let most : l.qcache_max ≡ x.qcache_max = ap (λ (n : Node). n.qcache_max) here.2 in
    let slab : l.slab_size ≡ x.slab_size = ap (λ (n : Node). n.slab_size) here.2 in
    let c = is_cached_size l size cache e in
    let some : 0 < l.quantum = is.1 in
    let whole : l.qcache_max % l.quantum ≡ 0 = (subst (λ z. l.qcache_max % z ≡ 0) (sym quantum) (subst (λ z. z % x.quantum ≡ 0) (sym most) arena.caches.0)) in
    let w = within l.quantum size l.qcache_max some c.0 c.1 whole in
    let looks_in_turn = rounds_up l.quantum size some in
    let units : 0 < x.qcache_max = omega (arith, c.0, c.1, looks_in_turn.1, most) in
    let next = arena.caches.2.1 (λ none. omega (arith, none, units)) in
    let one : 1 * l.quantum ≤ rounding_of l.quantum size / l.quantum * l.quantum = mul-le-mul_right l.quantum w.0 in
    let least : x.quantum ≤ x.qcache_max = omega (arith, one, times l.quantum (rounding_of l.quantum size) looks_in_turn.0, c.1, quantum, most) in
    let round : rounding_of x.quantum x.slab_size ≡ x.slab_size = slab_rounds x.quantum x.qcache_max x.slab_size arena.power next.0 units least next.1 in
    let long : span.holding.range.len ≡ rounding_of l.quantum l.slab_size = grant.fits.size ∙ ap (λ z. rounding_of z l.slab_size) (chain_quantum (nodes_of arenas) l up is) in
    record {
      of_arena = grant.of_arena;
      direct = grant.direct;
      slab = record {
        level = x;
        at = here.1;
        some = subst (λ z. 0 < z) c.2 w.0;
        most = subst (λ z. z ≤ x.qcache_max / x.quantum) c.2 (subst (λ z. quanta_for l size ≤ z / x.quantum) most (subst (λ z. quanta_for l size ≤ l.qcache_max / z) quantum w.1));
        long = long ∙ (ap (λ z. rounding_of z l.slab_size) quantum ∙ (ap (rounding_of x.quantum) slab ∙ round));
      };
    }
