-- Slab sizes.
use Rattle.std.proofs.Common.{◌≡◌, ◌≢◌, ℕ, ◌+◌, ◌*◌, ◌%◌, ◌^◌, ◌≤◌, refl, inl, inr, arith}
use Rattle.std.specs.Int.{IsNextPowerOfTwo}
use Rattle.std.proofs.Math.Nat.{mod_self}
use Rattle.std.proofs.lemmas.Bool.{cases_lt}
use Rattle.deed_core.proofs.LawProofs.{smaller_power_divides}
use Rattle.arena_tree.specs.declared.limits.TheConstants.{MOST_CACHES}
use Rattle.arena_tree.specs.Trees.{HasCaches}

-- no power of two lies between 2^62 and twice that
slab_below : (n p : ℕ) → n ≤ 2 ^ 62 → IsNextPowerOfTwo n p → 1 ≤ n → p ≤ 2 ^ 62
slab_below n p low next some = elim (cases_lt (2 ^ 62) p) [
  | inl above ↦
      let le : 2 ^ 62 ≤ p = omega (arith, above) in
      let whole : p % (2 ^ 62) ≡ 0 = smaller_power_divides (2 ^ 62) p p (62, refl) next.0 le (mod_self p) in
      let half = next.2 in
      omega (arith, above, whole, half, low, some)
  | inr below ↦ omega (arith, below)
]

pub slab_caches : (quantum most p : ℕ) → most % quantum ≡ 0 → most ≤ MOST_CACHES * quantum → most ≢ 0 → 3 * most + 1 ≤ 2 ^ 62 → IsNextPowerOfTwo (3 * most + 1) p → HasCaches quantum most p
slab_caches quantum most p whole few some low next = (whole, few, ((λ none. absurd (some none)), λ _. next), slab_below (3 * most + 1) p low next (omega arith))
