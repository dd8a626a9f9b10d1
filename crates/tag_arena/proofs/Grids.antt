-- Powers of two, and what meets a request.
use Rattle.std.proofs.Common.{◌≡◌, ◌≢◌, ℕ, ◌+◌, ◌-◌, ◌*◌, ◌/◌, ◌%◌, ◌^◌, ◌<◌, ◌≤◌, min, max, refl, sym, subst, ap, ◌∙◌, inl, inr, ⊎_elim, Option, Some, None, ◌↔◌, arith}
use Rattle.std.specs.Int.{IsPowerOfTwo, next_multiple_of}
use Rattle.std.proofs.Math.Pow.{pow_mono}
use Rattle.std.proofs.Math.Nat.{mul-mod_left, mod-mod_of_dvd, dvd_of_mod-eq-zero, zero-mod}
use Rattle.std.proofs.lemmas.Nat.{pow-add}
use Rattle.std.proofs.lemmas.Bool.{cases_lt, cases_eq}
use Rattle.tag_arena.specs.Place.{IsLeast, IsPlace, Nest, OnGrid, ServesIn}
use Rattle.deed_core.specs.Request.{HasGoodPhase}
use Rattle.deed_core.specs.Holding.{Holding}
use Rattle.deed_core.specs.declared.requests.Request.{Request}

-- what is least of P is least of each fact that holds of the same numbers
pub IsLeast-same : (P Q : ℕ → Type 0) (o : Option ℕ) → ((n : ℕ) → P n → Q n) → ((n : ℕ) → Q n → P n) → IsLeast P o → IsLeast Q o
IsLeast-same P Q None to from least = λ n q. least n (from n q)
IsLeast-same P Q (Some m) to from least = (to m least.0, λ n q. least.1 n (from n q))

-- a power of two is a multiple of each smaller one
pub power_multiple : (i j : ℕ) → i ≤ j → 2 ^ j % 2 ^ i ≡ 0
power_multiple i j le =
    let e : 2 ^ (j - i) * 2 ^ i ≡ 2 ^ j = sym (pow-add 2 (j - i) i) ∙ ap (λ k. 2 ^ k) (omega arith) in
    subst (λ n. n % 2 ^ i ≡ 0) e (mul-mod_left (2 ^ (j - i)) (2 ^ i))

pub powers_nest : (a c : ℕ) → IsPowerOfTwo a → IsPowerOfTwo c → Nest a c
powers_nest a c p q =
    ⊎_elim (λ lt. inl (rw (p.1, q.1) (power_multiple p.0 q.0 (omega arith))))
    (λ ge. inr (rw (p.1, q.1) (power_multiple q.0 p.0 ge))) (cases_lt p.0 q.0)

-- a power of two that fits 64 bits
pub power_bound : (n : ℕ) → IsPowerOfTwo n → n < 2 ^ 64 → n ≤ 2 ^ 63
power_bound n p below =
    ⊎_elim (λ lt. let le : 2 ^ p.0 ≤ 2 ^ 63 = pow_mono {i = p.0} {j = 63} (omega arith) in omega (arith, p.1))
    (λ ge. let le : 2 ^ 64 ≤ 2 ^ p.0 = pow_mono {i = 64} {j = p.0} ge in absurd (omega (arith, p.1)))
    (cases_lt p.0 64)

-- a number at a phase of blocks that are multiples of the quantum
pub on_quantum : (b a p quantum : ℕ) → b % a ≡ p → a % quantum ≡ 0 → p % quantum ≡ 0 → b % quantum ≡ 0
on_quantum b a p quantum e multiple phase =
    sym (mod-mod_of_dvd quantum b (dvd_of_mod-eq-zero quantum multiple)) ∙ ap (λ k. k % quantum) e ∙ phase

-- a good request's phase is a multiple of the quantum
pub phase_multiple : (quantum : ℕ) (q : Request) → HasGoodPhase quantum q → q.phase % quantum ≡ 0
phase_multiple quantum q good =
    elim (cases_eq q.phase 0) [
      | inl e ↦ rw e (zero-mod quantum)
      | inr ne ↦ (good ne).1
    ]

-- a place in the part of a range that the window and the start leave is where the range serves
module _ (quantum : ℕ) (q : Request) (r : Holding) (start low high len align phase base : ℕ) (low_is : low ≡ max (max start r.range.base) q.min) (high_is : high ≡ min q.max (r.range.base + r.range.len)) (len_is : len ≡ next_multiple_of q.size quantum) (same : (base % align ≡ phase) ↔ OnGrid quantum q base) where
  pub serves_at_place : IsPlace low high len align phase q.nocross base → ServesIn quantum q r base × (start ≤ base)
  serves_at_place place =
      let from_low : low ≤ base = place.from_low in
      let to_high : base + len ≤ high = place.to_high in
      let inside : q.nocross ≢ 0 → base / q.nocross ≡ (base + next_multiple_of q.size quantum - 1) / q.nocross = rw len_is at place.inside in (
        record {
          fits = let on = same.0 place.on_phase in record { size = refl; whole = on.on_quantum; phase = on.on_phase; min = omega arith; max = omega arith; nocross = inside };
          from = omega arith;
          to = omega arith;
        },
        omega arith,
      )

  pub place_where_serves : ServesIn quantum q r base × (start ≤ base) → IsPlace low high len align phase q.nocross base
  place_where_serves serves =
      let from_start : start ≤ base = serves.1 in
      let from_min : q.min ≤ base = serves.0.fits.min in
      let from_range : r.range.base ≤ base = serves.0.from in
      let to_max : base + next_multiple_of q.size quantum ≤ q.max = serves.0.fits.max in
      let to_range : base + next_multiple_of q.size quantum ≤ r.range.base + r.range.len = serves.0.to in
      record { from_low = omega arith; to_high = omega arith; on_phase = same.1 (record { on_quantum = serves.0.fits.whole; on_phase = serves.0.fits.phase }); inside = rw len_is serves.0.fits.nocross }
