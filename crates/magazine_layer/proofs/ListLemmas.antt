-- What a depot's calls keep of its lists.
use Rattle.std.proofs.Common.{◌≡◌, ℕ, ◌+◌, ◌-◌, ◌<◌, ◌≤◌, List, [], ◌∷◌, ◌++◌, length, drop, get_or, All, arith, ap, sym, ◌∙◌, length-append, Some}
use Rattle.std.proofs.lemmas.List.{drop_more}
use Rattle.std.proofs.lemmas.List.Elements.{All-append, All-push, All-pop, All-rest, All-nil, All-head, All-weaker}
use Rattle.deed_core.specs.Tag.{Tag}
use Rattle.magazine_layer.specs.Magazines.{IsSize, MagazineState}
use Rattle.magazine_layer.specs.Depots.{DepotState, IsDepot, ListsHaveRoom, with_lists, after_resize, all_rounds, depot_rounds}

pub stocked_with : (full : List (List Tag)) (empty : ℕ) (d : DepotState) → All (λ m. length m ≡ d.size) full → IsDepot d → IsDepot (with_lists full empty d)
stocked_with full empty d whole stocked = record {
  sized = stocked.sized;
  whole = whole;
  some = stocked.some;
  full_stands = omega arith;
  empty_stands = omega arith;
}

-- of full magazines, the newest and the others
pub whole_pop : (size : ℕ) (full rest : List (List Tag)) (m : List Tag) → full ≡ rest ++ m ∷ [] → All (λ m. length m ≡ size) full → All (λ m. length m ≡ size) rest × (length m ≡ size)
whole_pop size full rest m is whole = let P : List Tag → Type 0 = λ m. length m ≡ size in All-pop P full rest (Some m) is whole

-- empty magazines, and one more
abbrev pub AllEmpty : ℕ → List MagazineState → Type 0
AllEmpty size empty = All (λ m. m ≡ record { size = size; rounds = [] }) empty

pub empty_push : (size : ℕ) (empty new : List MagazineState) (m : MagazineState) → new ≡ empty ++ m ∷ [] → m ≡ record { size = size; rounds = [] } → AllEmpty size empty → AllEmpty size new
empty_push size empty new m is one all = let P : MagazineState → Type 0 = λ m. m ≡ record { size = size; rounds = [] } in rw is (All-push P empty m all one)

pub empty_pop : (size : ℕ) (empty rest : List MagazineState) (m : MagazineState) → empty ≡ rest ++ m ∷ [] → AllEmpty size empty → AllEmpty size rest × (m ≡ record { size = size; rounds = [] })
empty_pop size empty rest m is all = let P : MagazineState → Type 0 = λ m. m ≡ record { size = size; rounds = [] } in All-pop P empty rest (Some m) is all

-- the room stays while full and empty magazines together are no more
pub room_swap : (f e o fr er or f' e' fr' er' : ℕ) → ListsHaveRoom f e o fr er or → f' + 1 ≡ f → e' ≡ e + 1 → fr' ≡ fr → er' ≡ er → ListsHaveRoom f' e' o fr' er' or
room_swap f e o fr er or f' e' fr' er' room one more same same' = record { for_full = omega arith; for_empty = omega arith; for_old = omega arith }

pub room_back : (f e o fr er or f' e' fr' er' : ℕ) → ListsHaveRoom f e o fr er or → f' ≡ f + 1 → e' + 1 ≡ e → fr' ≡ fr → er' ≡ er → ListsHaveRoom f' e' o fr' er' or
room_back f e o fr er or f' e' fr' er' room more one same same' = record { for_full = omega arith; for_empty = omega arith; for_old = omega arith }

pub room_put : (f e o fr er or f' e' o' fr' : ℕ) → f + e + 1 ≤ fr → f + e + 1 ≤ er → o + (f + e + 1) ≤ or → f' ≡ f + 1 → e' ≡ e → o' ≡ o → fr' ≡ fr → ListsHaveRoom f' e' o' fr' er or
room_put f e o fr er or f' e' o' fr' for_full for_empty for_old more same same' same'' = record { for_full = omega arith; for_empty = omega arith; for_old = omega arith }

pub room_first : (f e o fr er or f' fr' : ℕ) → ListsHaveRoom f e o fr er or → f' + 1 ≡ f → fr' ≡ fr → ListsHaveRoom f' e o fr' er or
room_first f e o fr er or f' fr' room one same = record { for_full = omega arith; for_empty = omega arith; for_old = omega arith }

pub room_old : (f e o fr er or o' or' : ℕ) → ListsHaveRoom f e o fr er or → o' + 1 ≡ o → or' ≡ or → ListsHaveRoom f e o' fr er or'
room_old f e o fr er or o' or' room one same = record { for_full = omega arith; for_empty = omega arith; for_old = omega arith }

pub room_resize : (f e o fr er or f' e' o' fr' er' or' : ℕ) → ListsHaveRoom f e o fr er or → f' ≡ 0 → e' ≡ 0 → o' ≡ o + f → fr' ≡ fr → er' ≡ er → or ≤ or' → ListsHaveRoom f' e' o' fr' er' or'
room_resize f e o fr er or f' e' o' fr' er' or' room none none' all same same' more = record { for_full = omega arith; for_empty = omega arith; for_old = omega arith }

pub whole_push : (size : ℕ) (full new : List (List Tag)) (m : List Tag) → new ≡ full ++ m ∷ [] → length m ≡ size → All (λ m. length m ≡ size) full → All (λ m. length m ≡ size) new
whole_push size full new m is one whole = let P : List Tag → Type 0 = λ m. length m ≡ size in rw is (All-push P full m whole one)

pub size_some : (m : ℕ) → IsSize m → 0 < m
size_some m size = grind arith

pub some_whole : (size : ℕ) (full : List (List Tag)) → IsSize size → All (λ m. length m ≡ size) full → All (λ m. 0 < length m) full
some_whole size full is whole = let P : List Tag → Type 0 = λ m. length m ≡ size in let Q : List Tag → Type 0 = λ m. 0 < length m in All-weaker P Q (λ m same. let some : 0 < size = size_some size is in omega arith) full whole

-- the oldest of an old size is taken out
pub stocked_old : (d : DepotState) (m : List Tag) (ms : List (List Tag)) (draining : List Tag) → d.old_full ≡ m ∷ ms → IsDepot d → IsDepot (record d { old_full = ms; draining = draining })
stocked_old d m ms draining is stocked =
    let P : List Tag → Type 0 = λ m. 0 < length m in
    record { sized = stocked.sized; whole = stocked.whole; some = All-rest P m ms d.old_full is stocked.some; full_stands = stocked.full_stands; empty_stands = stocked.empty_stands }

-- the oldest full one is
pub stocked_first : (d : DepotState) (m : List Tag) (ms : List (List Tag)) (draining : List Tag) → d.full ≡ m ∷ ms → 0 < d.full_reapable → IsDepot d → IsDepot (record d { full = ms; full_reapable = d.full_reapable - 1; draining = draining })
stocked_first d m ms draining is some stocked =
    let P : List Tag → Type 0 = λ m. length m ≡ d.size in
    let less : length ms + 1 ≡ length d.full = omega (arith, ap length is) in
    record { sized = stocked.sized; whole = All-rest P m ms d.full is stocked.whole; some = stocked.some; full_stands = omega (arith, stocked.full_stands); empty_stands = stocked.empty_stands }

-- the full ones are of an old size
pub stocked_resize : (d : DepotState) (m : ℕ) → IsSize m → IsDepot d → IsDepot (after_resize m d)
stocked_resize d m size stocked =
    let P : List Tag → Type 0 = λ m. 0 < length m in
    record { sized = size; whole = All-nil _; some = All-append P d.old_full d.full stocked.some (some_whole d.size d.full stocked.sized stocked.whole); full_stands = omega arith; empty_stands = omega arith }

-- magazines that have rounds have some together
pub some_rounds : (ms : List (List Tag)) → All (λ m. 0 < length m) ms → 0 < length ms → 0 < length (all_rounds ms)
some_rounds [] all some = some
some_rounds (m ∷ ms) all some =
    let P : List Tag → Type 0 = λ m. 0 < length m in
    let first : 0 < length m = All-head P m ms all in
    rw length-append (omega arith)

pub full_rounds : (d : DepotState) → IsDepot d → 0 < length d.full → depot_rounds d ≡ [] → ⊥
full_rounds d stocked some none =
    let rounds : 0 < length (all_rounds d.full) = some_rounds d.full (some_whole d.size d.full stocked.sized stocked.whole) some in
    let both : length (all_rounds d.old_full) + (length (all_rounds d.full) + length d.draining) ≡ 0 = simp length-append at (ap length none) in
    omega arith

pub old_rounds : (d : DepotState) → IsDepot d → 0 < length d.old_full → depot_rounds d ≡ [] → ⊥
old_rounds d stocked some none =
    let rounds : 0 < length (all_rounds d.old_full) = some_rounds d.old_full stocked.some some in
    let both : length (all_rounds d.old_full) + (length (all_rounds d.full) + length d.draining) ≡ 0 = simp length-append at (ap length none) in
    omega arith

-- of what is left of a list behind the first i, the next one and the others
pub next_of : {X : Type 0} (xs left rest : List X) (x : X) (i : ℕ) → i < length xs → left ≡ drop i xs → left ≡ x ∷ rest → (x ≡ get_or xs i x) × (rest ≡ drop (i + 1) xs)
next_of xs left rest x i within is next =
    let both : x ∷ rest ≡ get_or xs i x ∷ drop (i + 1) xs = sym next ∙ is ∙ drop_more xs i x within in
    (ap (λ ys. get_or ys 0 x) both, ap (drop 1) both)
