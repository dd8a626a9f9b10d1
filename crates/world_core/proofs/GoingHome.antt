-- Segments that go home, one after another.
use Rattle.std.proofs.Common.{◌≡◌, ap, ◌∙◌, List, [], ◌∷◌, ◌++◌, flat_map, arith}
use Rattle.std.specs.Prelude.{sum_by}
use Rattle.std.proofs.lemmas.List.{append-nil}
use Rattle.std.proofs.lemmas.Grind.{flat_map-append}
use Rattle.std.proofs.lemmas.List.Sums.{sum_by-append, sum_by-cons}
use Rattle.deed_core.specs.Tag.{Tag}
use Rattle.deed_core.specs.Weights.{Loses}
use Rattle.stock.specs.Accounts.{Accounts}
use Rattle.stock.specs.Spaces.{SpaceState}
use Rattle.stock.proofs.LawProofs.{out_weighs}

-- one that is taken is out as before
pub one_ends : (spaces : List SpaceState) (before after : List Tag) (t : Tag) → Loses before after t → (others : List Tag) → Accounts spaces (before ++ others) → Accounts spaces (t ∷ (after ++ others))
one_ends spaces before after t loses others acc = out_weighs spaces (before ++ others) (t ∷ (after ++ others)) (λ f. omega (arith, sum_by-append f before others, sum_by-cons f t (after ++ others), sum_by-append f after others, loses f)) acc

-- the last of a list's segments
pub last_ends : {X : Type 0} (of : X → List Tag) (spaces : List SpaceState) (before after : List X) (x : X) → before ≡ after ++ x ∷ [] → (others : List Tag) → Accounts spaces (flat_map of before ++ others)
    → Accounts spaces (of x ++ (flat_map of after ++ others))
last_ends of spaces before after x is others acc =
    let all : flat_map of before ≡ flat_map of after ++ of x = ap (flat_map of) is ∙ flat_map-append of after (x ∷ []) ∙ ap (λ (ts : List Tag). flat_map of after ++ ts) (append-nil (of x)) in
    out_weighs spaces (flat_map of before ++ others) (of x ++ (flat_map of after ++ others))
    (λ f. omega (
      arith,
      sum_by-append f (flat_map of before) others,
      ap (sum_by f) all,
      sum_by-append f (flat_map of after) (of x),
      sum_by-append f (of x) (flat_map of after ++ others),
      sum_by-append f (flat_map of after) others,
    )) acc
