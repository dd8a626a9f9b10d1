-- Text that more is appended to.
use Rattle.std.proofs.Common.{◌≡◌, ℕ, ◌+◌, sym, ap, ◌∙◌, List, [], ◌∷◌, ◌++◌, take, length, Some}
use Rattle.std.specs.Prelude.{slice_get}
use Rattle.std.specs.List.{flat_map}
use Rattle.std.proofs.lemmas.List.{take_more, flat_map_more}
use Rattle.std.proofs.lemmas.Option.{slice_get_within, get_or_from_slice_get}
use Rattle.std.proofs.Math.Seq.{take-length}

-- one more line behind those of the members before
pub one_more : {X : Type 0} (g : X → List ℕ) (bs out new : List ℕ) (xs : List X) (i : ℕ) (x : X) → slice_get xs i ≡ Some x → out ≡ bs ++ flat_map g (take i xs) → new ≡ out ++ g x
    → new ≡ bs ++ flat_map g (take (i + 1) xs)
one_more g bs out new xs i x at before now =
    now ∙ ap (λ z. z ++ g x) before ∙ flat_map_more g bs (take i xs) x
    ∙ ap (λ z. bs ++ flat_map g z) (ap (λ y. take i xs ++ y ∷ []) (sym (get_or_from_slice_get xs i x x at)) ∙ sym (take_more xs i x (slice_get_within xs i x at)))

-- the lines of all members
pub all_told : {X : Type 0} (g : X → List ℕ) (bs out : List ℕ) (xs : List X) (i : ℕ) → i ≡ length xs → out ≡ bs ++ flat_map g (take i xs) → out ≡ bs ++ flat_map g xs
all_told g bs out xs i whole told = told ∙ ap (λ ys. bs ++ flat_map g ys) (ap (λ n. take n xs) whole ∙ take-length xs)
