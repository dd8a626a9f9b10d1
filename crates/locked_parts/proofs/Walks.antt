-- Walks over depots.
use Rattle.std.proofs.Common.{◌≡◌, ◌∙◌, ◌<◌, ◌||◌, ℕ, zero, suc, Bool, true, false, Option, inl, inr, sym, subst, refl, arith}
use Rattle.locked_parts.specs.Walks.{ResizesCaches, ResizeSaidState, SaysResize}
use Rattle.locked_parts.specs.States.{LockedPartsState}
use Rattle.locked_parts.specs.Words.{MisplacedState}

-- one of the two is so
either : (P : Type 0) (rose before one : Bool) → (before ≡ true → P) → (one ≡ true → P) → rose ≡ before || one → rose ≡ true → P
either P rose true one first second told e = first refl
either P rose false true first second told e = second refl
either P rose false false first second told e = absurd (let x : false ≡ true = sym told ∙ e in cc)

-- where one of the depots rose, that depot did, and there is one
pub rose_by : {S : Type 0} (resizes : S → ℕ → ℕ → ℕ → Bool → S → Type 0) (P : Type 0) (arena size count : ℕ) (s : S) (rose : Bool) (t : S)
    → ((u v : S) (cache : ℕ) → resizes u arena cache size true v → P) → ResizesCaches resizes arena size count s rose t → rose ≡ true → P × (0 < count)
rose_by resizes P arena size zero s rose t is walk e = absurd (let x : false ≡ true = sym walk.1 ∙ e in cc)
rose_by resizes P arena size (suc n) s rose t is walk e = (
  either P rose walk.1 walk.2 (λ b. (rose_by resizes P arena size n s walk.1 walk.0 is walk.3 b).0) (λ o. is walk.0 t (suc n) (subst (λ b. resizes walk.0 arena (suc n) size b t) o walk.4)) walk.5 e,
  omega (arith),
)

-- where the depots say so, each rises above the least size alone
says_least : (p : LockedPartsState) (arena cache size : ℕ) (said : Option ResizeSaidState) (missing : Option MisplacedState) → SaysResize p arena cache size true said missing → 3 < size
says_least p arena cache size said missing (inr (m, is, none, e)) = absurd (let x : false ≡ true = sym e in cc)
says_least p arena cache size said missing (inl (one, is, asked, e)) = asked.2 (sym e)

pub rose_least : {S : Type 0} (same : S → S → Type 0) (parts : S → LockedPartsState) (said : S → Option ResizeSaidState) (missing : S → Option MisplacedState) (arena size count : ℕ) (s : S) (rose : Bool) (t : S)
    → ResizesCaches (λ u a c n r v. same u v × SaysResize (parts u) a c n r (said v) (missing v)) arena size count s rose t → rose ≡ true → (3 < size) × (0 < count)
rose_least {S} same parts said missing arena size count s rose t walk e =
    rose_by (λ u a c n r v. same u v × SaysResize (parts u) a c n r (said v) (missing v)) (3 < size) arena size count s rose t (λ u v cache is. says_least (parts u) arena cache size (said v) (missing v) is.1) walk e
