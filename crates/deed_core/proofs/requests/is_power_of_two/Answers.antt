use Rattle.std.proofs.Common.{◌≡◌, ℕ, ◌/◌, ◌^◌, ◌<◌, ◌≤◌, max, suc, sym, ◌∙◌, ⊎_elim, leb-true, eqb-true, eq-eqb, arith}
use Rattle.std.proofs.Math.Pow.{pow_mono}
use Rattle.std.proofs.Math.Nat.{pow-suc}
use Rattle.std.proofs.lemmas.Nat.{pow_pos}
use Rattle.std.proofs.lemmas.Bool.{cases_lt}
use Rattle.deed_core.proofs.requests.is_power_of_two.Goals as goal

-- a power of two is the next one from itself on
same_power : (j k : ℕ) → 2 ^ k ≤ 2 ^ j → 2 ^ j / 2 < max 1 (2 ^ k) → 2 ^ j ≡ 2 ^ k
same_power j k le near =
    ⊎_elim (λ lt. let e : 2 ^ suc k ≤ 2 ^ j = pow_mono lt in absurd (omega (arith, pow-suc 2 k, pow_pos k)))
    (λ ge. let e : 2 ^ j ≤ 2 ^ k = pow_mono ge in omega arith)
    (cases_lt k j)

-- above 2 to 63 no power of two fits 64 bits
too_great : (n k : ℕ) → n ≡ 2 ^ k → 2 ^ 63 < n → n < 2 ^ 64 → ⊥
too_great n k e above below =
    ⊎_elim (λ lt. let le : 2 ^ k ≤ 2 ^ 63 = pow_mono {i = k} {j = 63} (omega arith) in omega arith)
    (λ ge. let le : 2 ^ 64 ≤ 2 ^ k = pow_mono {i = 64} {j = k} ge in omega arith)
    (cases_lt k 64)

pub returns-then-n : goal.returns-then-n
returns-then-n c = (
  λ yes. let e = eqb-true _ _ yes in (c.next_power_of_two.ensures.power.0, sym e ∙ c.next_power_of_two.ensures.power.1),
  λ power.
      let k = power.0 in
      let e : c.args.n ≡ 2 ^ power.0 = power.1 in
      let j = c.next_power_of_two.ensures.power.0 in
      let f : c.next_power_of_two.result ≡ 2 ^ c.next_power_of_two.ensures.power.0 = c.next_power_of_two.ensures.power.1 in
      let le : 2 ^ k ≤ 2 ^ j = omega (arith, c.next_power_of_two.ensures.lower_bound) in
      let near : 2 ^ j / 2 < max 1 (2 ^ k) = omega (arith, c.next_power_of_two.ensures.upper_bound) in
      eq-eqb _ _ (f ∙ same_power j k le near ∙ sym e),
)

pub returns-else-n : goal.returns-else-n
returns-else-n c = (
  λ yes. absurd (let le : c.args.n ≤ 2 ^ 63 = leb-true c.args.n (2 ^ 63) yes in omega arith),
  λ power. absurd (too_great c.args.n power.0 power.1 (omega arith) (omega arith)),
)
