-- The covering numbers of a carve and of a merge.
use Rattle.std.proofs.Common.{◌≡◌, ℕ, zero, suc, min, ◌+◌, ◌-◌, ◌<◌, ◌≤◌, Bool, true, false, cond, nat_lt, refl, sym, ap, ◌∙◌, ⊎_elim, List, [], ◌∷◌, ◌++◌, length, get_or, remove, HoldsAt, Option, Some, None, arith}
use Rattle.std.proofs.lemmas.Bool.Decides.{nat_tests}
use Rattle.std.specs.Prelude.{sum_by}
use Rattle.std.proofs.lemmas.List.Sums.{sum_by-append, sum_by-cons, sum_by-remove}
use Rattle.std.specs.Option.{option_map_or}
use Rattle.deed_core.specs.Extent.{Extent, end_of}
use Rattle.deed_core.specs.Holding.{Holding}
use Rattle.deed_core.specs.Covering.{covers, covers_held, covering_held, units_held}
use Rattle.deed_core.proofs.LawProofs.{covers_is, covers_cut}
use Rattle.tag_arena.specs.Layout.{IsPartOf}
use Rattle.tag_arena.specs.Calls.{part, rest_between, rests}
use Rattle.tag_arena.specs.Neighbors.{Without, TakesLeft, TakesRight}

abbrev pub stretch : ℕ → ℕ → Extent
stretch low high = record { base = low; len = high - low }

-- no unit is in an empty one
covers_empty : (u low high : ℕ) → high ≤ low → covers u (stretch low high) ≡ 0
covers_empty u low high le = ⊎_elim (λ c. absurd (omega (arith, c, le))) (λ c. c.0) (covers_is u (stretch low high))

one-cond : (f : Holding → ℕ) (b : Bool) (x : Holding) → sum_by f (cond b (x ∷ []) []) ≡ cond b (f x) 0
one-cond f true x = omega (arith, sum_by-cons f x [])
one-cond f false x = refl

-- the units from low to high
pub covering-between : (u : ℕ) (r : Holding) (low high : ℕ) → covering_held u (rest_between r low high) ≡ covers u (stretch low high)
covering-between u r low high = one-cond (covers_held u) (nat_lt low high) (part r low (high - low)) ∙ by (nat_lt low high) refl
  where
    by : (b : Bool) → nat_lt low high ≡ b → cond b (covers_held u (part r low (high - low))) 0 ≡ covers u (stretch low high)
    by true e = refl
    by false e = sym (covers_empty u low high (grind (arith, nat_tests)))

-- a range covers what a piece of it and its rests do
pub covering-rests : (u : ℕ) (r piece : Holding) → IsPartOf r piece → covers u r.range ≡ covering_held u (rests r piece) + covers u piece.range
covering-rests u r piece held =
    let low : Extent = stretch r.range.base piece.range.base in
    let high : Extent = stretch (end_of piece.range) (end_of r.range) in
    let back : Extent = stretch piece.range.base (end_of r.range) in
    let first : covers u r.range ≡ covers u low + covers u back = covers_cut u low back r.range refl (omega (arith, held.from)) (omega (arith, held.from, held.to)) in
    let second : covers u back ≡ covers u piece.range + covers u high = covers_cut u piece.range high back refl refl (omega (arith, held.from, held.to)) in
    omega (
      arith,
      first,
      second,
      sum_by-append (covers_held u) (rest_between r r.range.base piece.range.base) (rest_between r (end_of piece.range) (end_of r.range)),
      covering-between u r r.range.base piece.range.base,
      covering-between u r (end_of piece.range) (end_of r.range),
    )

-- the free ranges of a carve cover what was free but the piece
pub covering-carved : (u : ℕ) (free : List Holding) (at : ℕ) (r piece : Holding) → at < length free → HoldsAt (λ x. x ≡ r) free at → IsPartOf r piece
    → covering_held u free ≡ covering_held u (remove free at ++ rests r piece) + covers u piece.range
covering-carved u free at r piece within here held =
    let out : covering_held u (remove free at) + covers_held u (get_or free at r) ≡ covering_held u free = sum_by-remove (covers_held u) free at r within in
    let same : covers_held u (get_or free at r) ≡ covers_held u r = ap (covers_held u) (here r) in
    omega (arith, out, same, sum_by-append (covers_held u) (remove free at) (rests r piece), covering-rests u r piece held)

-- one range taken out
pub covering-without : (u : ℕ) (old new : List Holding) (r : Holding) → Without old r new → covering_held u old ≡ covering_held u new + covers u r.range
covering-without u old new r w =
    let out : covering_held u (remove old w.0) + covers_held u (get_or old w.0 r) ≡ covering_held u old = sum_by-remove (covers_held u) old w.0 r w.1 in
    let same : covers_held u (get_or old w.0 r) ≡ covers_held u r = ap (covers_held u) (w.2 r) in
    let left : covering_held u (remove old w.0) ≡ covering_held u new = ap (covering_held u) (sym w.3) in
    omega (arith, out, same, left)

-- what is taken on the left covers the units from its base to the seam
pub covering-left : (u start base : ℕ) (old new : List Holding) (o : Option Holding) → TakesLeft start base old o new
    → covering_held u old ≡ covering_held u new + covers u (stretch (option_map_or (λ r. r.range.base) o base) base)
covering-left u start base old new None takes =
    let same : covering_held u new ≡ covering_held u old = ap (covering_held u) takes.0 in
    omega (arith, same, covers_empty u base base (omega arith))
covering-left u start base old new (Some r) takes =
    let out = covering-without u old new r takes.2 in
    let ends : r.range.base + (base - r.range.base) ≡ end_of r.range = omega (arith, takes.1) in
    let none : covers u (stretch base base) ≡ 0 = covers_empty u base base (omega arith) in
    let same : covers u r.range ≡ covers u (stretch r.range.base base) + covers u (stretch base base) = covers_cut u (stretch r.range.base base) (stretch base base) r.range refl (omega (arith, takes.1)) (omega (arith, takes.1)) in
    omega (arith, out, same, none)

-- and on the right
pub covering-right : (u end limit : ℕ) (old new : List Holding) (o : Option Holding) → TakesRight end limit old o new
    → covering_held u old ≡ covering_held u new + covers u (stretch end (option_map_or (λ r. end_of r.range) o end))
covering-right u end limit old new None takes =
    let same : covering_held u new ≡ covering_held u old = ap (covering_held u) takes.0 in
    omega (arith, same, covers_empty u end end (omega arith))
covering-right u end limit old new (Some r) takes =
    let out = covering-without u old new r takes.2 in
    let none : covers u (stretch end end) ≡ 0 = covers_empty u end end (omega arith) in
    let same : covers u r.range ≡ covers u (stretch end end) + covers u (stretch end (end_of r.range)) = covers_cut u (stretch end end) (stretch end (end_of r.range)) r.range (omega (arith, takes.1)) (omega arith) (omega (arith, takes.1)) in
    omega (arith, out, same, none)

-- a merged range covers its three parts
pub covering-merged : (u : ℕ) (piece merged : Holding) (low high : ℕ) → merged.range.base ≡ low → end_of merged.range ≡ high → low ≤ piece.range.base → end_of piece.range ≤ high
    → covers u merged.range ≡ covers u (stretch low piece.range.base) + covers u piece.range + covers u (stretch (end_of piece.range) high)
covering-merged u piece merged low high base_is end_is below above =
    let back : Extent = stretch piece.range.base high in
    let first : covers u merged.range ≡ covers u (stretch low piece.range.base) + covers u back = covers_cut u (stretch low piece.range.base) back merged.range (sym base_is) (omega (arith, below)) (omega (arith, below, above, end_is)) in
    let second : covers u back ≡ covers u piece.range + covers u (stretch (end_of piece.range) high) = covers_cut u piece.range (stretch (end_of piece.range) high) back refl refl (omega (arith, above)) in
    omega (arith, first, second)

-- a free, in covering numbers
pub covering-freed : (u : ℕ) (piece merged span : Holding) (old mid new : List Holding) (left right : Option Holding)
    → TakesLeft span.range.base piece.range.base old left mid → TakesRight (end_of piece.range) (end_of span.range) mid right new
    → merged.range.base ≡ option_map_or (λ r. r.range.base) left piece.range.base → end_of merged.range ≡ option_map_or (λ r. end_of r.range) right (end_of piece.range)
    → option_map_or (λ r. r.range.base) left piece.range.base ≤ piece.range.base → end_of piece.range ≤ option_map_or (λ r. end_of r.range) right (end_of piece.range)
    → covering_held u new + covers u merged.range ≡ covering_held u old + covers u piece.range
covering-freed u piece merged span old mid new left right takes_left takes_right base_is end_is below above =
    omega (
      arith,
      covering-left u span.range.base piece.range.base old mid left takes_left,
      covering-right u (end_of piece.range) (end_of span.range) mid new right takes_right,
      covering-merged u piece merged (option_map_or (λ r. r.range.base) left piece.range.base) (option_map_or (λ r. end_of r.range) right (end_of piece.range)) base_is end_is below above,
    )

-- the sum of what a function gives below a number
sum_upto : ℕ → (ℕ → ℕ) → ℕ
sum_upto zero g = 0
sum_upto (suc n) g = sum_upto n g + g n

upto-same : (n : ℕ) (g h : ℕ → ℕ) → ((u : ℕ) → g u ≡ h u) → sum_upto n g ≡ sum_upto n h
unfolding sum_upto
upto-same zero g h same = refl
upto-same (suc n) g h same = omega (arith, upto-same n g h same, same n)

upto-plus : (n : ℕ) (g h : ℕ → ℕ) → sum_upto n (λ u. g u + h u) ≡ sum_upto n g + sum_upto n h
unfolding sum_upto
upto-plus zero g h = refl
upto-plus (suc n) g h = omega (arith, upto-plus n g h)

upto-none : (n : ℕ) → sum_upto n (λ u. 0) ≡ 0
unfolding sum_upto
upto-none zero = refl
upto-none (suc n) = omega (arith, upto-none n)

-- a range has as many units as it covers
upto-covers : (n : ℕ) (e : Extent) → sum_upto n (λ u. covers u e) ≡ min n (end_of e) - min n e.base
unfolding sum_upto
upto-covers zero e = omega arith
upto-covers (suc n) e = let before = upto-covers n e in ⊎_elim (λ c. omega (arith, before, c)) (λ c. ⊎_elim (λ le. omega (arith, before, c.0, le)) (λ le. omega (arith, before, c.0, le)) c.1) (covers_is n e)

bound_of : List Holding → ℕ
bound_of [] = 0
bound_of (x ∷ xs) = end_of x.range + bound_of xs

upto-covering : (n : ℕ) (xs : List Holding) → bound_of xs ≤ n → sum_upto n (λ u. covering_held u xs) ≡ units_held xs
unfolding bound_of
upto-covering n [] le = upto-none n
upto-covering n (x ∷ xs) le =
    let more : sum_upto n (λ u. covering_held u xs) ≡ units_held xs = upto-covering n xs (omega arith) in
    let parts : sum_upto n (λ u. covering_held u (x ∷ xs)) ≡ sum_upto n (λ u. covers u x.range + covering_held u xs) = upto-same n (λ u. covering_held u (x ∷ xs)) (λ u. covers u x.range + covering_held u xs) (λ u. sum_by-cons (covers_held u) x xs) in
    omega (arith, more, parts, upto-plus n (λ u. covers u x.range) (λ u. covering_held u xs), upto-covers n x.range, sum_by-cons (λ (h : Holding). h.range.len) x xs)

-- lists that together cover what another covers have as many units
pub units_add : (free tags spans : List Holding) → ((u : ℕ) → covering_held u free + covering_held u tags ≡ covering_held u spans) → units_held free + units_held tags ≡ units_held spans
units_add free tags spans covers_all =
    let n : ℕ = bound_of free + (bound_of tags + bound_of spans) in
    omega (
      arith,
      upto-covering n free (omega arith),
      upto-covering n tags (omega arith),
      upto-covering n spans (omega arith),
      upto-plus n (λ u. covering_held u free) (λ u. covering_held u tags),
      upto-same n (λ u. covering_held u free + covering_held u tags) (λ u. covering_held u spans) covers_all,
    )
