-- A number of each member, added up, when members change.
use Rattle.std.proofs.Common.{◌≡◌, ℕ, zero, suc, ◌+◌, ◌≤◌, List, [], ◌∷◌, ◌++◌, set, sym, ap, arith, sum_by}
use Rattle.std.proofs.lemmas.List.Sums.{sum_by-cons, sum_by_push}
use mathlib.Core.Option.{some, some-injective, some-ne-none}
use lib.ListN.{get_elem?}

module _ {X : Type 0} (f : X → ℕ) where
  -- a member is changed
  pub sum_by-set_at : (xs : List X) (i : ℕ) (x y : X) → get_elem? xs i ≡ some x → sum_by f (set xs i y) + f x ≡ sum_by f xs + f y
  sum_by-set_at [] i x y at = absurd (some-ne-none x (sym at))
  sum_by-set_at (z ∷ zs) zero x y at = let is : f z ≡ f x = ap f (some-injective z x at) in omega (arith, sum_by-cons f z zs, sum_by-cons f y zs)
  sum_by-set_at (z ∷ zs) (suc i) x y at = let rest = sum_by-set_at zs i x y at in omega (arith, sum_by-cons f z zs, sum_by-cons f z (set zs i y))

  -- a member is no more than all
  pub le-sum_by : (xs : List X) (i : ℕ) (x : X) → get_elem? xs i ≡ some x → f x ≤ sum_by f xs
  le-sum_by [] i x at = absurd (some-ne-none x (sym at))
  le-sum_by (z ∷ zs) zero x at = let is : f z ≡ f x = ap f (some-injective z x at) in omega (arith, sum_by-cons f z zs)
  le-sum_by (z ∷ zs) (suc i) x at = let rest = le-sum_by zs i x at in omega (arith, sum_by-cons f z zs)

  -- one member becomes two
  pub sum_by-split : (xs : List X) (i : ℕ) (x low high : X) → get_elem? xs i ≡ some x → f low + f high ≡ f x → sum_by f (set xs i low ++ high ∷ []) ≡ sum_by f xs
  sum_by-split xs i x low high at same = let a = sum_by-set_at xs i x low at in let b = sum_by_push f (set xs i low) high in omega arith

  -- two members become two others
  pub sum_by-join : (xs : List X) (i j : ℕ) (x y both rest : X) → get_elem? xs i ≡ some x → get_elem? (set xs i both) j ≡ some y → f both + f rest ≡ f x + f y
      → sum_by f (set (set xs i both) j rest) ≡ sum_by f xs
  sum_by-join xs i j x y both rest at too same = let a = sum_by-set_at xs i x both at in let b = sum_by-set_at (set xs i both) j y rest too in omega arith
