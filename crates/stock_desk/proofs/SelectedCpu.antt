-- The CPU that is selected, by its index.
use Rattle.std.proofs.Common.{◌≡◌, ◌≢◌, ℕ, suc, zero, ◌+◌, ◌≤◌, Bool, true, false, cond, not, inl, inr, refl, sym, ap, ◌∙◌, List, [], ◌∷◌, length, map, set, AllPairs, get_or, position, Some, None, arith}
use Rattle.std.specs.Prelude.{slice_get}
use Rattle.std.specs.List.{find, position_or_len}
use Rattle.std.proofs.lemmas.Bool.{cases_lt}
use Rattle.std.proofs.lemmas.Bool.Decides.{Decides-eqb}
use Rattle.std.proofs.lemmas.List.Sums.{fails_before_first}
use Rattle.std.proofs.lemmas.Option.{slice_get_within, get_or_from_slice_get}
use Rattle.stock.specs.OwnCaches.{OwnCacheState}
use Rattle.stock.specs.Spaces.{SpaceState, plans_of}
use Rattle.local_parts.specs.Cpus.{new_cpu}
use Rattle.lease_machine.specs.Picture.{NumberedCpu, is_cpu, fresh_cpu}
use Rattle.lease_machine.specs.Operators.{after_renewal}
use Rattle.lease_machine.specs.Held.{with_caches_of}
use Rattle.stock_desk.proofs.NumberedCpus.{first_is, none_is, found_cpu}
use Rattle.stock_desk.proofs.FirstChanged.{changed_none}

-- what stands where the test passes first is what is found
first_found : (test : NumberedCpu → Bool) (cs : List NumberedCpu) (c : NumberedCpu) (k : ℕ) → k ≡ position_or_len test cs → slice_get cs k ≡ Some c → find test cs ≡ Some c
first_found test [] c k is at = at
first_found test (x ∷ cs) c k is at = by (test x) k (first_found test cs c) is at
  where
    by : (b : Bool) (i : ℕ) → ((j : ℕ) → j ≡ position_or_len test cs → slice_get cs j ≡ Some c → find test cs ≡ Some c) → i ≡ cond (not b) (1 + position_or_len test cs) 0 → slice_get (x ∷ cs) i ≡ Some c → cond b (Some x) (find test cs) ≡ Some c
    by true zero later is at = at
    by true (suc i) later is at = absurd (omega (arith, is))
    by false zero later is at = absurd (omega (arith, is))
    by false (suc i) later is at = later i (omega (arith, is)) at

pub found_here : (n : ℕ) (cs : List NumberedCpu) (k : ℕ) (c : NumberedCpu) → position (is_cpu n) cs ≡ Some k → slice_get cs k ≡ Some c → find (is_cpu n) cs ≡ Some c
found_here n cs k c first at = first_found (is_cpu n) cs c k (first_is n cs k first).0 at

-- none is found where none has an index
none_found : (test : NumberedCpu → Bool) (cs : List NumberedCpu) → length cs ≤ position_or_len test cs → find test cs ≡ None
none_found test [] late = refl
none_found test (x ∷ cs) late = by (test x) (none_found test cs) late
  where
    by : (b : Bool) → (length cs ≤ position_or_len test cs → find test cs ≡ None) → suc (length cs) ≤ cond (not b) (1 + position_or_len test cs) 0 → cond b (Some x) (find test cs) ≡ None
    by true later late = absurd (omega (arith, late))
    by false later late = later (omega (arith, late))

pub no_index : (n : ℕ) (cs : List NumberedCpu) → position (is_cpu n) cs ≡ None → find (is_cpu n) cs ≡ None
no_index n cs none = none_found (is_cpu n) cs (none_is n cs none)

-- a number is one CPU's
not_it : (n : ℕ) (c : NumberedCpu) → c.number ≢ n → is_cpu n c ≡ false
not_it n c ne = by (is_cpu n c) refl
  where
    by : (b : Bool) → is_cpu n c ≡ b → b ≡ false
    by true is = absurd (ne ((Decides-eqb c.number n).0 is))
    by false is = refl

it_is : (n : ℕ) (c : NumberedCpu) → c.number ≡ n → is_cpu n c ≡ true
it_is n c is = (Decides-eqb c.number n).1 is

-- one member changed so, and each other is as it would become
set_one : (f : NumberedCpu → NumberedCpu) (cs : List NumberedCpu) (k : ℕ) (c : NumberedCpu) → slice_get cs k ≡ Some c → ((i : ℕ) (x : NumberedCpu) → i ≢ k → slice_get cs i ≡ Some x → f x ≡ x) → set cs k (f c) ≡ map f cs
set_one f [] k c at others = refl
set_one f (x ∷ cs) zero c at others =
    let e : Some x ≡ Some c = at in
    let same : x ≡ c = cc in
    ap (λ (y : NumberedCpu). f y ∷ cs) (sym same) ∙ ap (λ (ys : List NumberedCpu). f x ∷ ys) (sym (changed_none f cs (λ j y there. others (suc j) y (λ e. (let no : suc j ≡ 0 = e in omega (arith, no))) there)))
set_one f (x ∷ cs) (suc k) c at others =
    ap (λ (y : NumberedCpu). y ∷ set cs k (f c)) (sym (others 0 x (λ e. (let no : 0 ≡ suc k = e in omega (arith, no))) refl))
    ∙ ap (λ (ys : List NumberedCpu). f x ∷ ys) (set_one f cs k c at (λ i y ne there. others (suc i) y (λ e. ne (omega (arith, e))) there))

module _ (n : ℕ) (cs : List NumberedCpu) (apart : AllPairs (λ a b. a.number ≢ b.number) cs) (k : ℕ) (first : position (is_cpu n) cs ≡ Some k) (c : NumberedCpu) (at : slice_get cs k ≡ Some c) where
  it_has : c.number ≡ n
  it_has =
      let (d, here, number) = found_cpu n cs k first in
      let e : Some d ≡ Some c = sym here ∙ at in
      let same : d ≡ c = cc in
      ap (λ (x : NumberedCpu). x.number) (sym same) ∙ number

  other_has : (i : ℕ) (x : NumberedCpu) → i ≢ k → slice_get cs i ≡ Some x → x.number ≢ n
  other_has i x ne there is =
      let within_i = slice_get_within cs i x there in
      let within_k = slice_get_within cs k c at in
      let here_i : get_or cs i c ≡ x = get_or_from_slice_get cs i x c there in
      let here_k : get_or cs k c ≡ c = get_or_from_slice_get cs k c c at in
      let ni : (get_or cs i c).number ≡ n = ap (λ (y : NumberedCpu). y.number) here_i ∙ is in
      let nk : (get_or cs k c).number ≡ n = ap (λ (y : NumberedCpu). y.number) here_k ∙ it_has in
      elim (cases_lt i k) [
        | inl less ↦ apart i k c less within_k (ni ∙ sym nk)
        | inr more ↦ apart k i c (omega (arith, more, ne)) within_i (nk ∙ sym ni)
      ]

  -- the CPU's caches were written where it stands
  pub written_caches : (rows : List (List OwnCacheState)) → set cs k (record { number = c.number; caches = rows }) ≡ map (with_caches_of n rows) cs
  written_caches rows =
      let here : with_caches_of n rows c ≡ record { number = c.number; caches = rows } = ap (λ (b : Bool). cond b (record { number = c.number; caches = rows }) c) (it_is n c it_has) in
      ap (set cs k) (sym here) ∙ set_one (with_caches_of n rows) cs k c at (λ i x ne there. ap (λ (b : Bool). cond b (record { number = x.number; caches = rows }) x) (not_it n x (other_has i x ne there)))

  -- the CPU began anew where it stands
  pub renewed_caches : (spaces : List SpaceState) → set cs k (record { number = c.number; caches = new_cpu 3 (plans_of spaces) }) ≡ map (after_renewal n spaces) cs
  renewed_caches spaces =
      let here : after_renewal n spaces c ≡ record { number = c.number; caches = new_cpu 3 (plans_of spaces) } = ap (λ (b : Bool). cond b (fresh_cpu n spaces) c) (it_is n c it_has) ∙ ap (λ (i : ℕ). record { number = i; caches = new_cpu 3 (plans_of spaces) }) (sym it_has) in
      ap (set cs k) (sym here) ∙ set_one (after_renewal n spaces) cs k c at (λ i x ne there. ap (λ (b : Bool). cond b (fresh_cpu n spaces) x) (not_it n x (other_has i x ne there)))

-- none begins anew where none has the number
pub renewed_none : (n : ℕ) (cs : List NumberedCpu) (spaces : List SpaceState) → position (is_cpu n) cs ≡ None → map (after_renewal n spaces) cs ≡ cs
renewed_none n cs spaces none = changed_none (after_renewal n spaces) cs (λ i x there.
    (let within = slice_get_within cs i x there in
    let other : is_cpu n x ≡ false = ap (is_cpu n) (sym (get_or_from_slice_get cs i x x there)) ∙ fails_before_first (is_cpu n) cs i x (omega (arith, within, none_is n cs none)) in
    ap (λ (b : Bool). cond b (fresh_cpu n spaces) x) other))
