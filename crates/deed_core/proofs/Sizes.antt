-- Rounded sizes, powers of two and plain requests.
use Rattle.std.proofs.Common.{◌≡◌, ℕ, ◌+◌, ◌-◌, ◌*◌, ◌/◌, ◌%◌, ◌^◌, ◌<◌, ◌≤◌, refl, sym, ap, subst, ◌∙◌, inl, inr, arith}
use Rattle.std.proofs.Math.Nat.{mul-mod_left, mod_self, mod-eq_of_lt, mul-le-mul_right}
use Rattle.std.proofs.lemmas.Bool.{cases_eq, cases_lt}
use Rattle.std.proofs.lemmas.Nat.{div-add-mod', mod_below, pow-add, pow_below, pow_pos}
use Rattle.deed_core.specs.Request.{rounding_of}
use Rattle.deed_core.specs.declared.requests.Request.{Request}
use Rattle.deed_core.specs.SizeLaws.{RoundsUp, RoundsToTheLeast, RoundsOnce, FitsRounded, PowerIsSome, SmallerPowerDivides, PlainIsOfItsSize, PlainIsGood, FitsPlain}

-- a rounded size is a number of quanta
pub rounded_multiple : (quantum size : ℕ) → 0 < quantum → rounding_of quantum size % quantum ≡ 0
rounded_multiple quantum size some =
    let rest : size % quantum < quantum = mod_below size quantum some in
    elim (cases_eq (size % quantum) 0) [
      | inl e ↦
          let whole : quantum - size % quantum ≡ quantum = omega arith in
          let more : (quantum - size % quantum) % quantum ≡ 0 = ap (λ k. k % quantum) whole ∙ mod_self quantum in
          let same : rounding_of quantum size ≡ size = omega arith in
          ap (λ k. k % quantum) same ∙ e
      | inr ne ↦
          let more : (quantum - size % quantum) % quantum ≡ quantum - size % quantum = mod-eq_of_lt (omega arith) in
          let whole : (size / quantum + 1) * quantum ≡ rounding_of quantum size = omega (arith, div-add-mod' size quantum) in
          subst (λ k. k % quantum ≡ 0) whole (mul-mod_left (size / quantum + 1) quantum)
    ]

pub rounds_up : RoundsUp
rounds_up quantum size some =
    let more : (quantum - size % quantum) % quantum < quantum = mod_below (quantum - size % quantum) quantum some in
    (rounded_multiple quantum size some, omega arith, omega (arith, more))

pub rounded_some : (quantum size : ℕ) → 0 < size → 0 < rounding_of quantum size
rounded_some quantum size some = omega arith

-- a multiple is a number of times the quantum
times : (quantum n : ℕ) → n % quantum ≡ 0 → n ≡ n / quantum * quantum
times quantum n e = omega (arith, e, div-add-mod' n quantum)

pub rounds_to_the_least : RoundsToTheLeast
rounds_to_the_least quantum size n some whole le =
    let up = rounds_up quantum size some in
    let is : n ≡ n / quantum * quantum = times quantum n whole in
    let so : rounding_of quantum size ≡ rounding_of quantum size / quantum * quantum = times quantum (rounding_of quantum size) up.0 in
    elim (cases_lt (n / quantum) (rounding_of quantum size / quantum)) [
      | inl less ↦
          let one_more : n / quantum * quantum + quantum ≡ (n / quantum + 1) * quantum = grind arith in
          let more : (n / quantum + 1) * quantum ≤ rounding_of quantum size / quantum * quantum = mul-le-mul_right quantum (omega (arith, less)) in
          absurd (omega (arith, one_more, more, is, so, up.2, le))
      | inr most ↦
          let more : rounding_of quantum size / quantum * quantum ≤ n / quantum * quantum = mul-le-mul_right quantum most in
          omega (arith, more, is, so)
    ]

pub rounds_once : RoundsOnce
rounds_once quantum n some whole =
    let rest : (quantum - n % quantum) % quantum ≡ 0 = (let all : quantum - n % quantum ≡ quantum = omega arith in ap (λ k. k % quantum) all ∙ mod_self quantum) in
    omega (arith, rest)

pub rounded_again : (quantum size : ℕ) → 0 < quantum → rounding_of quantum (rounding_of quantum size) ≡ rounding_of quantum size
rounded_again quantum size some = rounds_once quantum (rounding_of quantum size) some (rounded_multiple quantum size some)

pub fits_rounded : FitsRounded
fits_rounded quantum q base len some =
    let again = rounded_again quantum q.size some in (
      (λ f. record { size = f.size ∙ again; whole = f.whole; phase = f.phase; min = f.min; max = f.max; nocross = f.nocross }),
      (λ f. record { size = f.size ∙ sym again; whole = f.whole; phase = f.phase; min = f.min; max = f.max; nocross = f.nocross }),
    )

pub power_some : PowerIsSome
power_some n p = let some = pow_pos p.0 in omega (arith, some, p.1)

pub smaller_power_divides : SmallerPowerDivides
smaller_power_divides a b n p q le whole = elim (cases_lt q.0 p.0) [
  | inl less ↦
      let wrong : 2 ^ q.0 < 2 ^ p.0 = pow_below q.0 p.0 less in
      absurd (omega (arith, wrong, p.1, q.1, le))
  | inr most ↦
      let parts : q.0 - p.0 + p.0 ≡ q.0 = omega (arith, most) in
      let b_is : b ≡ 2 ^ (q.0 - p.0) * a = q.1 ∙ (ap (λ k. 2 ^ k) (sym parts) ∙ (pow-add 2 (q.0 - p.0) p.0 ∙ ap (λ k. 2 ^ (q.0 - p.0) * k) (sym p.1))) in
      let n_is : n ≡ n / b * (2 ^ (q.0 - p.0) * a) = times b n whole ∙ ap (λ k. n / b * k) b_is in
      let grouped : n / b * (2 ^ (q.0 - p.0) * a) ≡ n / b * 2 ^ (q.0 - p.0) * a = grind arith in
      ap (λ k. k % a) (n_is ∙ grouped) ∙ mul-mod_left (n / b * 2 ^ (q.0 - p.0)) a
]

pub plain_is_of_its_size : PlainIsOfItsSize
plain_is_of_its_size q = (
  (λ p. (λ i. record { size = q.size; align = p.align i; phase = p.phase i; nocross = p.nocross i; min = p.min i; max = p.max i })),
  (λ e. record { align = ap (λ (r : Request). r.align) e; phase = ap (λ (r : Request). r.phase) e; nocross = ap (λ (r : Request). r.nocross) e; min = ap (λ (r : Request). r.min) e; max = ap (λ (r : Request). r.max) e }),
)

pub plain_is_good : PlainIsGood
plain_is_good quantum size some =
    record { size = some; align = (λ ne. absurd (ne refl)); phase = (λ ne. absurd (ne refl)); nocross = (λ ne. absurd (ne refl)); window = omega arith; top = omega arith }

pub fits_plain : FitsPlain
fits_plain quantum size base len = (
  (λ f. (f.size, f.whole, f.max)),
  (λ f. record { size = f.0; whole = f.1; phase = (λ ne. absurd (ne refl)); min = omega arith; max = f.2; nocross = (λ ne. absurd (ne refl)) }),
)
