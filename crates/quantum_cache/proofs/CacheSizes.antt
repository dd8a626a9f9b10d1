-- A chunk of the cache for a size fits it.
use Rattle.std.proofs.Common.{◌≡◌, ℕ, ◌*◌, ◌/◌, ◌%◌, ◌<◌, List, ◌∷◌, Some, None, true, false, Bool, arith, subst, sym, ap, inr, ◌∙◌}
use Rattle.std.proofs.lemmas.Nat.{div-add-mod'}
use Rattle.std.specs.Prelude.{if◌then◌else◌}
use Rattle.deed_core.specs.Tag.{Tag}
use Rattle.deed_core.specs.Request.{Fits, rounding_of, plain_of}
use Rattle.deed_core.proofs.LawProofs.{fits_rounded, rounded_multiple}
use Rattle.arena_tree.specs.declared.levels.Level.{Level}
use Rattle.arena_tree.specs.Chains.{Node, IsChain, IsCachedChunk, quantum_in}
use Rattle.arena_tree.proofs.LawProofs.{chain_read}
use Rattle.quantum_cache.specs.Sizes.{quanta_for, is_cached, cache_for}
use Rattle.quantum_cache.specs.Served.{IsServedOf}

-- a multiple is its quotient times the quantum
times : (quantum n : ℕ) → n % quantum ≡ 0 → n ≡ n / quantum * quantum
times quantum n e = omega (arith, e, div-add-mod' n quantum)

-- its number is the number of quanta
number_is : (b : Bool) (q k : ℕ) → (if b then Some q else None) ≡ Some k → q ≡ k
number_is true q k e = let same : Some q ≡ Some k = e in cc
number_is false q k e = absurd (let same : None ≡ Some k = e in cc)

pub chunk_serves : (nodes : List Node) (l : Level) (up : List Level) (size k : ℕ) (t : Tag) → IsChain nodes (l ∷ up) → cache_for l size ≡ Some k → IsCachedChunk nodes l.id k t → IsServedOf nodes l size t
chunk_serves nodes l up size k t is e c =
    let quantum : quantum_in nodes l.id ≡ l.quantum = (chain_read nodes l up is).0 in
    let number : quanta_for l size ≡ k = number_is (is_cached l size) (quanta_for l size) k e in
    let some : 0 < l.quantum = is.1 in
    let whole : rounding_of l.quantum size / l.quantum * l.quantum ≡ rounding_of l.quantum size = sym (times l.quantum (rounding_of l.quantum size) (rounded_multiple l.quantum size some)) in
    let units : k * l.quantum ≡ rounding_of l.quantum size = sym (ap (λ z. z * l.quantum) number) ∙ whole in
    let here : Fits l.quantum (plain_of (k * l.quantum)) t.holding.range.base t.holding.range.len = subst (λ (z : ℕ). Fits z (plain_of (k * z)) t.holding.range.base t.holding.range.len) quantum c.fits in
    let rounded_fits : Fits l.quantum (plain_of (rounding_of l.quantum size)) t.holding.range.base t.holding.range.len = subst (λ (z : ℕ). Fits l.quantum (plain_of z) t.holding.range.base t.holding.range.len) units here in
    let fits : Fits l.quantum (plain_of size) t.holding.range.base t.holding.range.len = (fits_rounded l.quantum (plain_of size) t.holding.range.base t.holding.range.len some).0 rounded_fits in
    record {
      of_arena = c.of_arena;
      by = inr (k, e, c.cached);
      fits = subst (λ (z : ℕ). Fits z (plain_of size) t.holding.range.base t.holding.range.len) (sym quantum) fits;
    }
