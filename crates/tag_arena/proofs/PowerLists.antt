-- Power-of-two lists: list i has the ranges of 2 ^ i to 2 ^ (i + 1) - 1 quanta.
use Rattle.std.proofs.Common.{◌≡◌, ℕ, suc, add-one, ◌+◌, ◌*◌, ◌/◌, ◌^◌, ◌<◌, ◌≤◌, ap, ◌∙◌, ⊎_elim, arith}
use Rattle.std.proofs.Math.Nat.{mul-le-mul_right, pow-suc}
use Rattle.std.proofs.Math.Pow.{pow_mono}
use Rattle.std.proofs.lemmas.Nat.{div-add-mod', mod_below}
use Rattle.std.proofs.lemmas.Bool.{cases_order}
use Rattle.deed_core.specs.Holding.{Holding}
use Rattle.tag_arena.specs.Choice.{OnList}

-- by the number of whole quanta
pub on_list : (quantum : ℕ) (r : Holding) (i : ℕ) → 0 < quantum → 2 ^ i ≤ r.range.len / quantum → r.range.len / quantum < 2 * 2 ^ i → OnList quantum r i
on_list quantum r i some low high =
    let least : 2 ^ i * quantum ≤ r.range.len / quantum * quantum = mul-le-mul_right quantum low in
    let most : suc (r.range.len / quantum) * quantum ≤ 2 * 2 ^ i * quantum = mul-le-mul_right quantum high in
    let power : 2 ^ (i + 1) * quantum ≡ 2 * 2 ^ i * quantum = ap (λ k. k * quantum) (ap (λ k. 2 ^ k) (add-one i) ∙ omega (arith, pow-suc 2 i)) in
    (omega (arith, div-add-mod' r.range.len quantum), omega (arith, div-add-mod' r.range.len quantum, mod_below r.range.len quantum some))

not_below : (quantum : ℕ) (r : Holding) (i j : ℕ) → OnList quantum r i → OnList quantum r j → i < j → ⊥
not_below quantum r i j hi hj lt =
    let e : 2 ^ (i + 1) * quantum ≤ 2 ^ j * quantum = mul-le-mul_right quantum (pow_mono {i = i + 1} {j = j} (omega arith)) in
    omega (arith, hi, hj)

-- a range is on one list
pub one_list : (quantum : ℕ) (r : Holding) (i j : ℕ) → OnList quantum r i → OnList quantum r j → i ≡ j
one_list quantum r i j hi hj =
    ⊎_elim (λ e. e) (λ ne. absurd (⊎_elim (not_below quantum r i j hi hj) (not_below quantum r j i hj hi) ne)) (cases_order i j)
