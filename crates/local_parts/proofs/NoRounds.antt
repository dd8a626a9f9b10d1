-- Magazines that are empty have no round, and the other way round.
use Rattle.std.proofs.Common.{◌≡◌, ◌↔◌, suc, List, [], ◌∷◌, ◌++◌, All, refl, sym, ap, ◌∙◌, arith}
use Rattle.std.specs.Prelude.{flat_map}
use Rattle.std.proofs.lemmas.List.Concat.{flat_map-cons}
use Rattle.std.proofs.lemmas.List.Elements.{All-cons}
use Rattle.deed_core.specs.Tag.{Tag}
use Rattle.stock.specs.OwnCaches.{OwnCacheState, own_rounds, all_own_rounds, HasNoRound}
use Rattle.local_parts.specs.Laws.{EmptyHasNoRounds}

split_none : (xs ys : List Tag) → xs ++ ys ≡ [] → (xs ≡ []) × (ys ≡ [])
split_none [] ys e = (refl, e)
split_none (x ∷ xs) ys e = absurd (let f : x ∷ (xs ++ ys) ≡ [] = e in cc)

none_flat : {X : Type 0} (f : X → List Tag) (P : X → Type 0) → ((x : X) → P x → f x ≡ []) → (xs : List X) → All P xs → flat_map f xs ≡ []
none_flat f P e [] all = refl
none_flat f P e (x ∷ xs) all = flat_map-cons f x xs ∙ (ap (λ ys. ys ++ flat_map f xs) (e x (all 0 x (omega arith))) ∙ none_flat f P e xs (λ k d lt. all (suc k) d (omega (arith, lt))))

flat_none : {X : Type 0} (f : X → List Tag) (P : X → Type 0) → ((x : X) → f x ≡ [] → P x) → (xs : List X) → flat_map f xs ≡ [] → All P xs
flat_none f P e [] is = λ k d lt. absurd (omega (arith, lt))
flat_none f P e (x ∷ xs) is = let both = split_none (f x) (flat_map f xs) (sym (flat_map-cons f x xs) ∙ is) in All-cons P x xs (e x both.0) (flat_none f P e xs both.1)

own_none : (o : OwnCacheState) → HasNoRound o → own_rounds o ≡ []
own_none o is = ap (λ xs. xs ++ o.cpu.loaded) is.previous_empty ∙ is.loaded_empty

none_own : (o : OwnCacheState) → own_rounds o ≡ [] → HasNoRound o
none_own o e = let both = split_none o.cpu.previous o.cpu.loaded e in record { loaded_empty = both.1; previous_empty = both.0 }

row_none : (row : List OwnCacheState) → All HasNoRound row → all_own_rounds row ≡ []
row_none row all = none_flat own_rounds HasNoRound own_none row all

none_row : (row : List OwnCacheState) → all_own_rounds row ≡ [] → All HasNoRound row
none_row row is = flat_none own_rounds HasNoRound none_own row is

pub empty_has_no_rounds : EmptyHasNoRounds
empty_has_no_rounds cpu = (none_flat all_own_rounds (λ row. All HasNoRound row) row_none cpu, flat_none all_own_rounds (λ row. All HasNoRound row) none_row cpu)
