-- Rounds stay chunks of their quantum cache.
use Rattle.std.proofs.Common.{◌≡◌, ◌∙◌, List, [], ◌∷◌, ◌++◌, All, map, ap, sym, Option, Some, None, IfSome}
use Rattle.std.proofs.lemmas.List.{map-append, append_assoc}
use Rattle.std.specs.Option.{option_to_list}
use Rattle.std.proofs.lemmas.List.Elements.{All-append, All-cons, All-nil, All-head, All-tail, All-same, All-push}
use Rattle.deed_core.specs.Tag.{Tag}
use Rattle.magazine_layer.specs.Magazines.{AreAmong}
use Rattle.magazine_layer.proofs.LawProofs.{kinds_kept}

module _ (P : Tag → Type 0) where
  all_first : (xs ys : List Tag) → All P (xs ++ ys) → All P xs
  all_first [] ys h = All-nil P
  all_first (x ∷ xs) ys h = All-cons P x xs (All-head P x (xs ++ ys) h) (all_first xs ys (All-tail P x (xs ++ ys) h))

  all_second : (xs ys : List Tag) → All P (xs ++ ys) → All P ys
  all_second [] ys h = h
  all_second (x ∷ xs) ys h = all_second xs ys (All-tail P x (xs ++ ys) h)

  all_given : (r : Option Tag) (xs : List Tag) → All P (option_to_list r ++ xs) → IfSome r P
  all_given None xs h = tt
  all_given (Some t) xs h = All-head P t xs h

  -- one came out, or none
  pub left : (r : Option Tag) (old new : List Tag) → AreAmong (option_to_list r ++ new) old → All P old → All P new
  left r old new among all = all_second (option_to_list r) new (kinds_kept P (option_to_list r ++ new) old among all)

  pub given : (r : Option Tag) (old new : List Tag) → AreAmong (option_to_list r ++ new) old → All P old → IfSome r P
  given r old new among all = all_given r new (kinds_kept P (option_to_list r ++ new) old among all)

  -- one came in
  pub taken : (t : Tag) (old new : List Tag) → AreAmong new (t ∷ old) → P t → All P old → All P new
  taken t old new among is all = kinds_kept P new (t ∷ old) among (All-cons P t old is all)

  -- some moved between a CPU and a depot
  pub both : (a b c d : List Tag) → AreAmong (c ++ d) (a ++ b) → All P a → All P b → All P c × All P d
  both a b c d among first second =
      let all = kinds_kept P (c ++ d) (a ++ b) among (All-append P a b first second) in
      (all_first c d all, all_second c d all)

  -- with a magazine of no round
  pub fresh : (m a b c d : List Tag) → m ≡ [] → AreAmong (c ++ d) (m ++ (a ++ b)) → All P a → All P b → All P c × All P d
  fresh m a b c d none among first second =
      let all = kinds_kept P (c ++ d) (m ++ (a ++ b)) among (All-append P m (a ++ b) (All-same P m [] none (All-nil P)) (All-append P a b first second)) in
      (all_first c d all, all_second c d all)

  pub among : (old new : List Tag) → AreAmong new old → All P old → All P new
  among old new is all = kinds_kept P new old is all

-- one more is such
pub all_pushed : {X : Type 0} (P : X → Type 0) (old mid new : List X) (x : X) → mid ≡ old → new ≡ mid ++ x ∷ [] → All P old → P x → All P new
all_pushed P old mid new x same more all is = All-same P new (mid ++ x ∷ []) more (All-push P mid x (All-same P mid old same all) is)

-- a list of what is made of keys goes on by what is made of one key more
pub made_pushed : {X K : Type 0} (f : K → X) (old mid new first : List X) (x : X) (last : List K) (k : K) → mid ≡ old → new ≡ mid ++ x ∷ [] → old ≡ first ++ map f last → x ≡ f k → new ≡ first ++ map f (last ++ k ∷ [])
made_pushed f old mid new first x last k same more was is =
    more ∙ ap (λ xs. xs ++ x ∷ []) (same ∙ was) ∙ append_assoc first (map f last) (x ∷ []) ∙ ap (λ y. first ++ (map f last ++ y ∷ [])) is ∙ ap (λ ys. first ++ ys) (sym (map-append f last (k ∷ [])))

-- and its key comes last
pub keys_pushed : {X K : Type 0} (f : X → K) (old mid new : List X) (x : X) (first last : List K) (k : K) → mid ≡ old → new ≡ mid ++ x ∷ [] → map f old ≡ first ++ last → f x ≡ k → map f new ≡ first ++ (last ++ k ∷ [])
keys_pushed f old mid new x first last k same more was is =
    ap (λ xs. map f xs) (more ∙ ap (λ xs. xs ++ x ∷ []) same) ∙ map-append f old (x ∷ []) ∙ ap (λ ks. ks ++ f x ∷ []) was ∙ ap (λ y. (first ++ last) ++ y ∷ []) is ∙ append_assoc first last (k ∷ [])
