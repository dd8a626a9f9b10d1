-- Parts, cut and joined.
use Rattle.std.proofs.Common.{◌≡◌, inl, inr, ℕ, ◌+◌, ◌-◌, ◌<◌, ◌≤◌, ◌==◌, true, false, min, List, [], ◌∷◌, ◌++◌, Option, Some, None, refl, ap, arith, subst}
use Rattle.std.proofs.Math.Nat.{eq-zero-or-pos}
use Rattle.std.proofs.lemmas.Bool.Decides.{nat_tests}
use Rattle.deed_core.specs.Holding.{Holding, piece}
use Rattle.slab_layer.specs.Parts.{piece_or_none, front_of, back_of, Follows, joined_parts, joined_row, AreEndToEnd}

pub part_none : (r b len : ℕ) → len ≡ 0 → piece_or_none r b len ≡ None
part_none r b len e = let is : (len == 0) ≡ true = grind (arith, nat_tests) in rw is refl

pub part_some : (r b len : ℕ) → 0 < len → piece_or_none r b len ≡ Some (piece r b len)
part_some r b len more = let is : (len == 0) ≡ false = grind (arith, nat_tests) in rw is refl

pub front_part : (n r b len : ℕ) → n ≤ len → front_of n (piece_or_none r b len) ≡ piece_or_none r b n
front_part n r b len room = elim (eq-zero-or-pos len) [
  | inl none ↦ let e : n ≡ 0 = omega arith in rw (part_none r b len none, part_none r b n e) refl
  | inr more ↦ let e : min n len ≡ n = omega arith in rw (part_some r b len more, e) refl
]

pub back_part : (n r b len : ℕ) → n ≤ len → back_of n (piece_or_none r b len) ≡ piece_or_none r (b + n) (len - n)
back_part n r b len room = elim (eq-zero-or-pos len) [
  | inl none ↦ let e : len - n ≡ 0 = omega arith in rw (part_none r b len none, part_none r (b + n) (len - n) e) refl
  | inr more ↦ rw (part_some r b len more) refl
]

pub both_part : (r b c x y z : ℕ) → c ≡ b + x → z ≡ x + y → joined_parts (piece_or_none r b x) (piece_or_none r c y) ≡ piece_or_none r b z
both_part r b c x y z next sum = rw (next, sum) (elim (eq-zero-or-pos x) [
  | inl none ↦ rw (part_none r b x none) (let e : b + x ≡ b = omega arith in let f : x + y ≡ y = omega arith in rw (e, f) refl)
  | inr more ↦ elim (eq-zero-or-pos y) [
    | inl none ↦ let e : x + y ≡ x = omega arith in rw (part_none r (b + x) y none, e, part_some r b x more) refl
    | inr some ↦ rw (part_some r b x more, part_some r (b + x) y some, part_some r b (x + y) (omega arith)) refl
  ]
])

pub follows_part : (r b c x y : ℕ) → c ≡ b + x → Follows (piece_or_none r b x) (piece_or_none r c y)
follows_part r b c x y next = rw next (elim (eq-zero-or-pos x) [
  | inl none ↦ rw (part_none r b x none) tt
  | inr more ↦ elim (eq-zero-or-pos y) [
    | inl none ↦ rw (part_none r (b + x) y none, part_some r b x more) tt
    | inr some ↦ rw (part_some r b x more, part_some r (b + x) y some) (record { root = refl; meets = refl })
  ]
])

-- the same where the first has units
pub both_some : (r b c x y z : ℕ) → 0 < x → c ≡ b + x → z ≡ x + y → joined_parts (Some (piece r b x)) (piece_or_none r c y) ≡ piece_or_none r b z
both_some r b c x y z some next sum =
    let P : Option Holding → Type 0 = λ o. joined_parts o (piece_or_none r c y) ≡ piece_or_none r b z in
    subst P (part_some r b x some) (both_part r b c x y z next sum)

pub follows_some : (r b c x y : ℕ) → 0 < x → c ≡ b + x → Follows (Some (piece r b x)) (piece_or_none r c y)
follows_some r b c x y some next = let P : Option Holding → Type 0 = λ o. Follows o (piece_or_none r c y) in subst P (part_some r b x some) (follows_part r b c x y next)

-- a row with one more part at its end
pub joined_row-push : (xs : List (Option Holding)) (x rest : Option Holding) → joined_row (xs ++ x ∷ []) rest ≡ joined_row xs (joined_parts x rest)
joined_row-push [] x rest = refl
joined_row-push (y ∷ ys) x rest = ap (joined_parts y) (joined_row-push ys x rest)

pub row-push : (xs : List (Option Holding)) (x rest : Option Holding) → AreEndToEnd (xs ++ x ∷ []) rest → Follows x rest × AreEndToEnd xs (joined_parts x rest)
row-push [] x rest r = (r.0, tt)
row-push (y ∷ ys) x rest r =
    let t : Follows x rest × AreEndToEnd ys (joined_parts x rest) = row-push ys x rest r.1 in
    let P : Option Holding → Type 0 = λ z. Follows y z in
    (t.0, (subst P (joined_row-push ys x rest) r.0, t.1))
