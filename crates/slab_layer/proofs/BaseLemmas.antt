-- Sorted lists of bases, where one comes or goes.
use Rattle.std.proofs.Common.{◌≡◌, ℕ, suc, ◌+◌, ◌<◌, ◌≤◌, Bool, true, false, cond, nat_lt, Some, None, slice_get, List, [], ◌∷◌, ◌++◌, length, All, insert, remove, refl, ap, ◌∙◌, arith}
use Rattle.std.specs.Bool.{beq}
use Rattle.std.specs.Prelude.{Any}
use Rattle.std.proofs.lemmas.Option.{same_Some}
use Rattle.std.proofs.lemmas.Bool.Decides.{nat_tests}
use Rattle.std.proofs.lemmas.List.Elements.{All-head, All-tail, All-weaker, All-cons}
use Rattle.sorted_rows.specs.Order.{place_below}
use Rattle.slab_layer.specs.Bases.{base_if, IsAround}

abbrev rank : ℕ → ℕ
rank b = b

-- so many stand before a base
pub place_here : (base : ℕ) (low high : List ℕ) → All (λ b. b < base) low → All (λ b. base ≤ b) high → place_below rank base (low ++ high) ≡ length low
place_here base [] [] below above = refl
place_here base [] (x ∷ xs) below above =
    let least : base ≤ x = All-head (λ b. base ≤ b) x xs above in
    let e : nat_lt x base ≡ false = grind (arith, nat_tests) in
    rw e refl
place_here base (x ∷ xs) high below above =
    let less : x < base = All-head (λ b. b < base) x xs below in
    let e : nat_lt x base ≡ true = grind (arith, nat_tests) in
    rw (e, place_here base xs high (All-tail (λ b. b < base) x xs below) above) (omega arith)

pub insert_between : (base : ℕ) (low high : List ℕ) → insert (low ++ high) (length low) base ≡ low ++ (base ∷ high)
insert_between base [] high = refl
insert_between base (x ∷ xs) high = ap (λ (ys : List ℕ). x ∷ ys) (insert_between base xs high)

pub remove_between : (base : ℕ) (low high : List ℕ) → remove (low ++ (base ∷ high)) (length low) ≡ low ++ high
remove_between base [] high = refl
remove_between base (x ∷ xs) high = ap (λ (ys : List ℕ). x ∷ ys) (remove_between base xs high)

above_or_there : (base : ℕ) (low high : List ℕ) → IsAround base low high → All (λ b. base ≤ b) high
above_or_there base low high around = All-weaker (λ b. base < b) (λ b. base ≤ b) (λ b less. omega (arith, less)) high around.above

-- a base comes
pub comes : (base : ℕ) (low high old new : List ℕ) → IsAround base low high → old ≡ low ++ high → new ≡ insert old (place_below rank base old) base → new ≡ low ++ (base ∷ high)
comes base low high old new around is put =
    let at : place_below rank base (low ++ high) ≡ length low = place_here base low high around.below (above_or_there base low high around) in
    put ∙ ap (λ (xs : List ℕ). insert xs (place_below rank base xs) base) is ∙ ap (λ (n : ℕ). insert (low ++ high) n base) at ∙ insert_between base low high

-- a base goes
pub goes : (base : ℕ) (low high old new : List ℕ) → IsAround base low high → old ≡ low ++ (base ∷ high) → new ≡ remove old (place_below rank base old) → new ≡ low ++ high
goes base low high old new around is left =
    let there : All (λ b. base ≤ b) (base ∷ high) = All-cons (λ b. base ≤ b) base high (omega arith) (above_or_there base low high around) in
    let at : place_below rank base (low ++ (base ∷ high)) ≡ length low = place_here base low (base ∷ high) around.below there in
    left ∙ ap (λ (xs : List ℕ). remove xs (place_below rank base xs)) is ∙ ap (remove (low ++ (base ∷ high))) at ∙ remove_between base low high

-- it is there
pub is_there : (base : ℕ) (low high : List ℕ) → Any (λ b. b ≡ base) (low ++ (base ∷ high))
is_there base [] high = (0, base, omega arith, refl, refl)
is_there base (x ∷ xs) high = let rest = is_there base xs high in (suc rest.0, rest.1, omega (arith, rest.2), rest.3, rest.4)

-- whether it is listed changes
pub was_other : (was is : Bool) → beq was is ≡ false → is ≡ false → was ≡ true
was_other true is differ none = refl
was_other false true differ none = cc
was_other false false differ none = cc

pub was_none : (was is : Bool) → beq was is ≡ false → is ≡ true → was ≡ false
was_none false is differ some = refl
was_none true true differ some = cc
was_none true false differ some = cc

-- a place in a list, where the base is listed or isn't
pub listed : (was : Bool) (base : ℕ) (low high old : List ℕ) → was ≡ true → old ≡ low ++ (base_if was base ++ high) → old ≡ low ++ (base ∷ high)
listed was base low high old some is = is ∙ rw some refl

pub unlisted : (was : Bool) (base : ℕ) (low high old : List ℕ) → was ≡ false → old ≡ low ++ (base_if was base ++ high) → old ≡ low ++ high
unlisted was base low high old none is = is ∙ rw none refl

-- the first of a list
pub first_none : (xs : List ℕ) → slice_get xs (place_below rank 0 xs) ≡ None → xs ≡ []
first_none [] none = refl
first_none (x ∷ xs) none = let e : nat_lt x 0 ≡ false = grind (arith, nat_tests) in let at : slice_get (x ∷ xs) (cond (nat_lt x 0) (1 + place_below rank 0 xs) 0) ≡ None = none in let at' = rw e at at in cc

pub first_some : (xs : List ℕ) (base : ℕ) → slice_get xs (place_below rank 0 xs) ≡ Some base → (rest : List ℕ) × (xs ≡ base ∷ rest)
first_some [] base some = cc
first_some (x ∷ xs) base some = let e : nat_lt x 0 ≡ false = grind (arith, nat_tests) in let at : slice_get (x ∷ xs) (cond (nat_lt x 0) (1 + place_below rank 0 xs) 0) ≡ Some base = some in let at' = rw e at at in (xs, ap (λ (b : ℕ). b ∷ xs) (same_Some x base at'))
