-- How many arenas a stock has, and sums that are told of each, one after another.
use Rattle.std.proofs.Common.{◌≡◌, ℕ, suc, zero, ◌+◌, ◌<◌, ◌≤◌, sym, subst, ap, ◌∙◌, inl, inr, List, [], ◌∷◌, length, set, take, Some, None, arith}
use Rattle.std.specs.Prelude.{slice_get}
use Rattle.std.proofs.lemmas.Bool.{cases_lt}
use Rattle.deed_core.proofs.LawProofs.{slice_get_some, written}
use Rattle.arena_tree.specs.declared.limits.TheConstants.{MOST_ARENAS}
use Rattle.stock.specs.Spaces.{SpaceState}
use Rattle.stock.specs.Stocks.{IsStock}
use Rattle.stock.specs.Sums.{Out, TellEach, TellsSums}
use Rattle.stock.specs.declared.sums.ArenaSums.{ArenaSums}

-- each arena is one of so many
pub few_arenas : (spaces : List SpaceState) → IsStock spaces → length spaces ≤ MOST_ARENAS
few_arenas spaces stock = elim (cases_lt MOST_ARENAS (length spaces)) [
  | inl more ↦ (let s = slice_get_some spaces MOST_ARENAS more in let few = (stock MOST_ARENAS s.0 s.1).few in absurd (omega (arith, few)))
  | inr few ↦ omega (arith, few)
]

-- a member of the front stands there in the list
taken : {X : Type 0} (xs : List X) (n k : ℕ) (x : X) → slice_get (take n xs) k ≡ Some x → (k < n) × (slice_get xs k ≡ Some x)
taken xs zero k x at = absurd (let e : None ≡ Some x = at in cc)
taken [] (suc n) k x at = absurd (let e : None ≡ Some x = at in cc)
taken (y ∷ xs) (suc n) zero x at = (omega arith, at)
taken (y ∷ xs) (suc n) (suc k) x at = (let rest = taken xs n k x at in (omega (arith, rest.0), rest.1))

module _ (P : ℕ → ArenaSums → Type 0) where
  -- what is told of each of the first arenas is so
  abbrev pub ToldFirst : ℕ → List ArenaSums → Type 0
  ToldFirst n told = (k : ℕ) (r : ArenaSums) → k < n → slice_get told k ≡ Some r → P k r

  -- one more is told
  pub told_more : (n : ℕ) (told new : List ArenaSums) (x : ArenaSums) → new ≡ set told n x → ToldFirst n told → P n x → ToldFirst (n + 1) new
  told_more n told new x is first here k r lt at = elim (written told n k x r (ap (λ xs. slice_get xs k) (sym is) ∙ at)) [
    | inl this ↦ subst (P k) (sym this.1) (subst (λ i. P i x) (sym this.0) here)
    | inr other ↦ (let ne = other.0 in first k r (omega (arith, lt, ne)) other.1)
  ]

-- those of the first are lent, which are as many as arenas
pub tell_each : (spaces : List SpaceState) (out : Out) (n : ℕ) (told lent : List ArenaSums) → ToldFirst (λ k r. TellsSums spaces k out r) n told → lent ≡ take n told → length lent ≡ n → n ≡ length spaces → TellEach spaces out lent
tell_each spaces out n told lent first is all count = record {
  as_many = all ∙ count;
  each = λ k r at.
      let there = taken told n k r (ap (λ xs. slice_get xs k) (sym is) ∙ at) in
      first k r there.0 there.1;
}
