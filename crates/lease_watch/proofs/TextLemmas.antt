-- Text that more is appended to.
use Rattle.std.proofs.Common.{◌≡◌, ℕ, ◌+◌, ◌<◌, ◌∷◌, [], sym, ap, ◌∙◌, List, ◌++◌, take, length, get_or}
use Rattle.std.specs.List.{flat_map}
use Rattle.std.proofs.lemmas.List.{take_more, flat_map_more}

-- one more text behind those of the members before
pub one_more : {X : Type 0} (g : X → List ℕ) (bs out new : List ℕ) (xs : List X) (i : ℕ) (x : X) → i < length xs → x ≡ get_or xs i x → out ≡ bs ++ flat_map g (take i xs) → new ≡ out ++ g x
    → new ≡ bs ++ flat_map g (take (i + 1) xs)
one_more g bs out new xs i x within here before now =
    now ∙ ap (λ z. z ++ g x) before ∙ flat_map_more g bs (take i xs) x
    ∙ ap (λ z. bs ++ flat_map g z) (ap (λ y. take i xs ++ y ∷ []) here ∙ sym (take_more xs i x within))
