-- What covers each unit as often has as many units.
use Rattle.std.proofs.Common.{All, ◌≡◌, ℕ, zero, suc, min, ◌+◌, ◌-◌, ◌≤◌, refl, ⊎_elim, List, [], ◌∷◌, arith}
use Rattle.std.proofs.lemmas.List.Elements.{All-head, All-tail}
use Rattle.std.proofs.lemmas.List.Sums.{sum_by-cons}
use Rattle.deed_core.specs.Extent.{Extent, end_of}
use Rattle.deed_core.specs.Holding.{Holding}
use Rattle.deed_core.specs.Covering.{covers, covers_held, covering_held, units_in, units_held}
use Rattle.deed_core.proofs.LawProofs.{covers_is}

-- the sum of what a function gives below a number
sum_upto : ℕ → (ℕ → ℕ) → ℕ
sum_upto zero g = 0
sum_upto (suc n) g = sum_upto n g + g n

upto-same : (n : ℕ) (g h : ℕ → ℕ) → ((u : ℕ) → g u ≡ h u) → sum_upto n g ≡ sum_upto n h
unfolding sum_upto
upto-same zero g h same = refl
upto-same (suc n) g h same = omega (arith, upto-same n g h same, same n)

upto-plus : (n : ℕ) (g h : ℕ → ℕ) → sum_upto n (λ u. g u + h u) ≡ sum_upto n g + sum_upto n h
unfolding sum_upto
upto-plus zero g h = refl
upto-plus (suc n) g h = omega (arith, upto-plus n g h)

upto-none : (n : ℕ) → sum_upto n (λ u. 0) ≡ 0
unfolding sum_upto
upto-none zero = refl
upto-none (suc n) = omega (arith, upto-none n)

-- a range has as many units as it covers
upto-covers : (n : ℕ) (e : Extent) → sum_upto n (λ u. covers u e) ≡ min n (end_of e) - min n e.base
unfolding sum_upto
upto-covers zero e = omega arith
upto-covers (suc n) e = let before = upto-covers n e in ⊎_elim (λ c. omega (arith, before, c)) (λ c. ⊎_elim (λ le. omega (arith, before, c.0, le)) (λ le. omega (arith, before, c.0, le)) c.1) (covers_is n e)

bound_of : List Holding → ℕ
bound_of [] = 0
bound_of (x ∷ xs) = end_of x.range + bound_of xs

upto-covering : (n : ℕ) (xs : List Holding) → bound_of xs ≤ n → sum_upto n (λ u. covering_held u xs) ≡ units_held xs
unfolding bound_of
upto-covering n [] le = upto-none n
upto-covering n (x ∷ xs) le =
    let more : sum_upto n (λ u. covering_held u xs) ≡ units_held xs = upto-covering n xs (omega arith) in
    let parts : sum_upto n (λ u. covering_held u (x ∷ xs)) ≡ sum_upto n (λ u. covers u x.range + covering_held u xs) = upto-same n (λ u. covering_held u (x ∷ xs)) (λ u. covers u x.range + covering_held u xs) (λ u. sum_by-cons (covers_held u) x xs) in
    omega (arith, more, parts, upto-plus n (λ u. covers u x.range) (λ u. covering_held u xs), upto-covers n x.range, sum_by-cons units_in x xs)

pub as_long : (xs ys : List Holding) → ((u : ℕ) → covering_held u xs ≡ covering_held u ys) → units_held xs ≡ units_held ys
as_long xs ys same =
    let n : ℕ = bound_of xs + bound_of ys in
    omega (arith, upto-covering n xs (omega arith), upto-covering n ys (omega arith), upto-same n (λ u. covering_held u xs) (λ u. covering_held u ys) same)

-- ranges that end below a number, no two of which cover one unit, have no more units than that
upto-within : (n : ℕ) (xs : List Holding) → All (λ h. end_of h.range ≤ n) xs → sum_upto n (λ u. covering_held u xs) ≡ units_held xs
upto-within n [] within = upto-none n
upto-within n (x ∷ xs) within =
    let more : sum_upto n (λ u. covering_held u xs) ≡ units_held xs = upto-within n xs (All-tail (λ h. end_of h.range ≤ n) x xs within) in
    let first : end_of x.range ≤ n = All-head (λ h. end_of h.range ≤ n) x xs within in
    let parts : sum_upto n (λ u. covering_held u (x ∷ xs)) ≡ sum_upto n (λ u. covers u x.range + covering_held u xs) = upto-same n (λ u. covering_held u (x ∷ xs)) (λ u. covers u x.range + covering_held u xs) (λ u. sum_by-cons (covers_held u) x xs) in
    omega (arith, first, more, parts, upto-plus n (λ u. covers u x.range) (λ u. covering_held u xs), upto-covers n x.range, sum_by-cons units_in x xs)

upto-once : (n : ℕ) (g : ℕ → ℕ) → ((u : ℕ) → g u ≤ 1) → sum_upto n g ≤ n
unfolding sum_upto
upto-once zero g once = omega arith
upto-once (suc n) g once = omega (arith, upto-once n g once, once n)

pub few_units : (n : ℕ) (xs : List Holding) → All (λ h. end_of h.range ≤ n) xs → ((u : ℕ) → covering_held u xs ≤ 1) → units_held xs ≤ n
few_units n xs within once = omega (arith, upto-within n xs within, upto-once n (λ u. covering_held u xs) once)
