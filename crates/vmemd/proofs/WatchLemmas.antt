-- Sums over two lists side by side, and of one arena after another.
use Rattle.std.proofs.Common.{◌≡◌, ◌⊎◌, ◌+◌, ◌++◌, inl, inr, refl, sym, subst, add-one, ℕ, List, [], ◌∷◌}
use Rattle.std.specs.Prelude.{fold, zip}
use Rattle.arena_tree.specs.declared.trees.TreeArena.{TreeArena}
use Rattle.lease_threads.specs.Sums.{AreSumsOf}
use Rattle.lease_threads.specs.declared.sums.SystemSums.{SystemSums}
use Rattle.vmemd.specs.Watching.{AreSumsOfEach}

-- those of one arena more
pub more_sums : (arenas : List TreeArena) (id : ℕ) (before : List SystemSums) (one : SystemSums) (sums : List SystemSums) → AreSumsOfEach arenas id before → AreSumsOf arenas id one → sums ≡ before ++ one ∷ [] → AreSumsOfEach arenas (id + 1) sums
more_sums arenas id before one sums each of is = subst (λ n. AreSumsOfEach arenas n sums) (sym (add-one id)) (before, one, each, of, is)

-- nothing is left to add where one of them is at its end
pub zip_ends : {A B : Type 0} (f : ℕ → A × B → ℕ) (n : ℕ) (xs : List A) (ys : List B) → (xs ≡ []) ⊎ (ys ≡ []) → fold f n (zip xs ys) ≡ n
zip_ends f n [] ys ends = refl
zip_ends f n (x ∷ xs) [] ends = refl
zip_ends f n (x ∷ xs) (y ∷ ys) (inl e) = absurd (cc)
zip_ends f n (x ∷ xs) (y ∷ ys) (inr e) = absurd (cc)
