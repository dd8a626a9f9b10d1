-- Where the CPU of a number stands.
use Rattle.std.proofs.Common.{◌≡◌, ℕ, ◌<◌, ◌≤◌, Bool, true, false, cond, nat_lt, refl, sym, ap, ◌∙◌, List, [], ◌∷◌, ◌++◌, length, get_or, position, Some, None, Result, Ok, Err, OnErr, arith}
use Rattle.std.specs.Prelude.{slice_get}
use Rattle.std.specs.List.{position_or_len, list_any}
use Rattle.std.proofs.lemmas.Bool.{ltb-true, ltb-false}
use Rattle.std.proofs.lemmas.Bool.Decides.{Decides-eqb}
use Rattle.std.proofs.lemmas.List.Folds.{list_any_at, list_any_none}
use Rattle.std.proofs.lemmas.List.Sums.{fails_before_first, passes_at_first}
use Rattle.std.proofs.lemmas.Option.{slice_get_within, get_or_from_slice_get}
use Rattle.deed_core.proofs.LawProofs.{slice_get_some}
use Rattle.stock.specs.Spaces.{SpaceState}
use Rattle.lease_machine.specs.Operators.{with_cpu}
use Rattle.lease_machine.specs.Picture.{NumberedCpu, Picture, is_cpu, fresh_cpu}

module _ (n : ℕ) (cs : List NumberedCpu) where
  abbrev first : ℕ
  first = position_or_len (is_cpu n) cs

  pub first_is : (k : ℕ) → position (is_cpu n) cs ≡ Some k → (k ≡ first) × (first < length cs)
  first_is k at = by (nat_lt first (length cs)) refl at
    where
      by : (b : Bool) → nat_lt first (length cs) ≡ b → cond b (Some first) None ≡ Some k → (k ≡ first) × (first < length cs)
      by true less at = ((let e : Some first ≡ Some k = at in cc), ltb-true _ _ less)
      by false less at = absurd (let e : None ≡ Some k = at in cc)

  pub none_is : position (is_cpu n) cs ≡ None → length cs ≤ first
  none_is at = by (nat_lt first (length cs)) refl at
    where
      by : (b : Bool) → nat_lt first (length cs) ≡ b → cond b (Some first) None ≡ None → length cs ≤ first
      by true less at = absurd (let e : Some first ≡ None = at in cc)
      by false less at = ltb-false _ _ less

  passes : (k : ℕ) (c : NumberedCpu) → position (is_cpu n) cs ≡ Some k → is_cpu n (get_or cs k c) ≡ true
  passes k c at = let is = first_is k at in ap (λ i. is_cpu n (get_or cs i c)) is.0 ∙ passes_at_first (is_cpu n) cs c is.1

  -- the CPU that is found has the number
  pub found_cpu : (k : ℕ) → position (is_cpu n) cs ≡ Some k → (c : NumberedCpu) × (slice_get cs k ≡ Some c) × (c.number ≡ n)
  found_cpu k at =
      let is = first_is k at in
      let within : k < length cs = omega (arith, is.0, is.1) in
      let (c, here) = slice_get_some cs k within in
      (c, here, (Decides-eqb c.number n).0 (ap (is_cpu n) (sym (get_or_from_slice_get cs k c c here)) ∙ passes k c at))

  -- where it is found no CPU is made
  pub with_old : (k : ℕ) → position (is_cpu n) cs ≡ Some k → (d : Picture) → d.cpus ≡ cs → cs ≡ with_cpu n d
  with_old k at d same =
      let (c, here, number) = found_cpu k at in
      let any : list_any (is_cpu n) cs ≡ true = list_any_at (is_cpu n) cs k c (slice_get_within cs k c here) (passes k c at) in
      sym (ap (λ (b : Bool). cond b d.cpus (d.cpus ++ fresh_cpu n d.spaces ∷ [])) (ap (list_any (is_cpu n)) same ∙ any) ∙ same)

  -- where it isn't found there is none
  pub none_there : position (is_cpu n) cs ≡ None → list_any (is_cpu n) cs ≡ false
  none_there at =
      let late = none_is at in
      list_any_none (is_cpu n) cs (λ i c within. fails_before_first (is_cpu n) cs i c (omega (arith, late, within)))

  -- where it isn't one is
  pub with_new : position (is_cpu n) cs ≡ None → (d : Picture) (spaces : List SpaceState) → d.cpus ≡ cs → d.spaces ≡ spaces → cs ++ fresh_cpu n spaces ∷ [] ≡ with_cpu n d
  with_new at d spaces same here =
      let none = none_there at in
      sym (ap (λ (b : Bool). cond b d.cpus (d.cpus ++ fresh_cpu n d.spaces ∷ [])) (ap (list_any (is_cpu n)) same ∙ none)
      ∙ (ap (λ (xs : List NumberedCpu). xs ++ fresh_cpu n d.spaces ∷ []) same ∙ ap (λ (s : List SpaceState). cs ++ fresh_cpu n s ∷ []) here))

-- the last of a list
pub last_cpu : (cs : List NumberedCpu) (c : NumberedCpu) → slice_get (cs ++ c ∷ []) (length cs) ≡ Some c
last_cpu [] c = refl
last_cpu (x ∷ cs) c = last_cpu cs c

-- what holds anyway holds of a refusal
pub on_err : {A E : Type 0} (r : Result A E) (P : Type 0) → P → OnErr r P
on_err (Ok x) P p = tt
on_err (Err e) P p = p
