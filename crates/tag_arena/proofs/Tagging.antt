-- The finite map of what is allocated in cells, after each change of the cells.
use Rattle.std.proofs.Common.{◌≡◌, ◌≢◌, ◌⊎◌, ℕ, zero, suc, ◌+◌, ◌≤◌, inl, inr, sym, ap, ◌∙◌, List, [], ◌∷◌, Option, None, Some, arith}
use Rattle.std.proofs.lemmas.Bool.{cases_eq}
use Rattle.std.specs.Ordering.{nat_cmp}
use Rattle.std.specs.Cmp.{nat_cmp_total}
use Rattle.std.specs.FinMap.{empty, get, insert, remove, len, same_map, nat_cmp-IsAntisymmetric, get-empty, len-empty}
use Rattle.deed_core.specs.Holding.{Holding}
use Rattle.tag_arena.specs.Cells.{allocated_at, AreOnce, SameCells, CellBecomes, IsAt, tags_in}
use Rattle.tag_arena.proofs.Ranges.{get_same, get_other, get_less, get_gone}
use Rattle.tag_arena.proofs.Allocations.{len_more, len_less, some_allocated}

-- what the map has at a base is allocated in a cell
pub cell_of : (cells : List (Option Holding)) (b : ℕ) (h : Holding) → get (tags_in cells) b ≡ Some h
    → (k : ℕ) × (allocated_at cells k ≡ Some h) × (h.range.base ≡ b)
unfolding tags_in
cell_of [] b h at = absurd (let some : None ≡ Some h = sym (get-empty nat_cmp b) ∙ at in cc)
cell_of (None ∷ rest) b h at = let w = cell_of rest b h at in (suc w.0, w.1, w.2)
cell_of (Some g ∷ rest) b h at =
    elim (cases_eq b g.range.base) [
      | inl e ↦
          let some : Some g ≡ Some h = sym (get_same (tags_in rest) g.range.base g) ∙ sym (ap (get (insert (tags_in rest) g.range.base g)) e) ∙ at in
          let same : g ≡ h = cc in
          (zero, some, sym (ap (λ (x : Holding). x.range.base) same) ∙ sym e)
      | inr ne ↦ let w = cell_of rest b h (sym (get_other (tags_in rest) g.range.base g b ne) ∙ at) in (suc w.0, w.1, w.2)
    ]

-- cells without the first
once_rest : (x : Option Holding) (rest : List (Option Holding)) → AreOnce (x ∷ rest) → AreOnce rest
once_rest x rest once = λ j k g h at_j at_k e. let same = once (suc j) (suc k) g h at_j at_k e in omega arith

-- what is allocated in a cell stands in the map at its base
pub tag_of : (cells : List (Option Holding)) → AreOnce cells → (k : ℕ) (h : Holding) → allocated_at cells k ≡ Some h → get (tags_in cells) h.range.base ≡ Some h
unfolding tags_in
tag_of [] once k h at = absurd (let some : None ≡ Some h = at in cc)
tag_of (None ∷ rest) once zero h at = absurd (let some : None ≡ Some h = at in cc)
tag_of (None ∷ rest) once (suc k) h at = tag_of rest (once_rest None rest once) k h at
tag_of (Some g ∷ rest) once zero h at =
    let some : Some g ≡ Some h = at in
    let same : g ≡ h = cc in
    sym (ap (λ (x : Holding). get (insert (tags_in rest) g.range.base g) x.range.base) same) ∙ get_same (tags_in rest) g.range.base g ∙ some
tag_of (Some g ∷ rest) once (suc k) h at =
    elim (cases_eq h.range.base g.range.base) [
      | inl e ↦ absurd (let same = once (suc k) zero h g at (λ i. Some g) e in omega arith)
      | inr ne ↦ get_other (tags_in rest) g.range.base g h.range.base ne ∙ tag_of rest (once_rest (Some g) rest once) k h at
    ]

-- the same, by the base
pub tag_at : (cells : List (Option Holding)) → AreOnce cells → (k b : ℕ) (h : Holding) → allocated_at cells k ≡ Some h → h.range.base ≡ b → get (tags_in cells) b ≡ Some h
tag_at cells once k b h at e = sym (ap (get (tags_in cells)) e) ∙ tag_of cells once k h at

-- where no cell has a range that begins at a base, the map has none there
pub none_there : (cells : List (Option Holding)) (b : ℕ) → ((k : ℕ) → ¬ IsAt b k cells) → get (tags_in cells) b ≡ None
none_there cells b none = by (get (tags_in cells) b) (λ h at. let w = cell_of cells b h at in none w.0 (h, w.1, w.2))
  where
    by : (o : Option Holding) → ((h : Holding) → o ≡ Some h → ⊥) → o ≡ None
    by None never = λ i. None
    by (Some h) never = absurd (never h (λ i. Some h))

-- where the map has none, no cell has a range that begins there
pub not_there : (cells : List (Option Holding)) → AreOnce cells → (b : ℕ) → get (tags_in cells) b ≡ None → (k : ℕ) (h : Holding) → allocated_at cells k ≡ Some h → h.range.base ≢ b
not_there cells once b none k h at e = let some : None ≡ Some h = sym none ∙ tag_at cells once k b h at e in cc

-- two options with the same content
same_option : (m n : Option Holding) → ((h : Holding) → m ≡ Some h → n ≡ Some h) → ((h : Holding) → n ≡ Some h → m ≡ Some h) → m ≡ n
same_option (Some h) n to from = sym (to h (λ i. Some h))
same_option None (Some h) to from = from h (λ i. Some h)
same_option None None to from = λ i. None

-- the same stays allocated in each cell
module _ (old new : List (Option Holding)) (once : AreOnce old) (same : SameCells old new) where
  -- still no two begin at one base
  pub once_same : AreOnce new
  once_same = λ j k g h at_j at_k e. once j k g h (sym (same j) ∙ at_j) (sym (same k) ∙ at_k) e

  -- the map is the same
  pub tags_same : tags_in new ≡ tags_in old
  tags_same = same_map nat_cmp_total nat_cmp-IsAntisymmetric (tags_in new) (tags_in old) (λ q.
      same_option (get (tags_in new) q) (get (tags_in old) q)
      (λ h at. let w = cell_of new q h at in tag_at old once w.0 q h (sym (same w.0) ∙ w.1) w.2)
      (λ h at. let w = cell_of old q h at in tag_at new once_same w.0 q h (same w.0 ∙ w.1) w.2))

-- what is true of the count and the cells stays so
pub sound_same : (count : ℕ) (old new : List (Option Holding)) → SameCells old new → (count ≡ len (tags_in old)) × AreOnce old → (count ≡ len (tags_in new)) × AreOnce new
sound_same count old new same sound = (sound.0 ∙ sym (ap len (tags_same old new sound.1 same)), once_same old new sound.1 same)

-- a range is allocated in a cell with nothing in it, and none stood at its base
module _ (old new : List (Option Holding)) (k : ℕ) (h : Holding) (once : AreOnce old) (becomes : CellBecomes old new k (Some h))
    (vacant : allocated_at old k ≡ None) (absent : get (tags_in old) h.range.base ≡ None) where
  -- what is allocated in a cell is the new range, or was there before
  put_cases : (j : ℕ) (g : Holding) → allocated_at new j ≡ Some g → ((j ≡ k) × (g ≡ h)) ⊎ ((j ≢ k) × (allocated_at old j ≡ Some g))
  put_cases j g at =
      elim (cases_eq j k) [
        | inl e ↦ inl (e, (let some : Some g ≡ Some h = sym at ∙ ap (allocated_at new) e ∙ becomes.changed in cc))
        | inr ne ↦ inr (ne, sym (becomes.others j ne) ∙ at)
      ]

  -- each range before stays
  put_keeps : (j : ℕ) (g : Holding) → allocated_at old j ≡ Some g → allocated_at new j ≡ Some g
  put_keeps j g at =
      elim (cases_eq j k) [
        | inl e ↦ absurd (let some : None ≡ Some g = sym vacant ∙ sym (ap (allocated_at old) e) ∙ at in cc)
        | inr ne ↦ becomes.others j ne ∙ at
      ]

  -- still no two begin at one base
  pub once_put : AreOnce new
  once_put = λ i j f g at_i at_j e.
      elim (put_cases i f at_i) [
        | inl p ↦ elim (put_cases j g at_j) [
          | inl q ↦ p.0 ∙ sym q.0
          | inr q ↦ absurd (not_there old once h.range.base absent j g q.1 (sym e ∙ ap (λ (x : Holding). x.range.base) p.1))
        ]
        | inr p ↦ elim (put_cases j g at_j) [
          | inl q ↦ absurd (not_there old once h.range.base absent i f p.1 (e ∙ ap (λ (x : Holding). x.range.base) q.1))
          | inr q ↦ once i j f g p.1 q.1 e
        ]
      ]

  -- the map is the same at another base
  other_put : (q : ℕ) → q ≢ h.range.base → get (tags_in new) q ≡ get (tags_in old) q
  other_put q ne = same_option (get (tags_in new) q) (get (tags_in old) q)
      (λ g at.
      let w = cell_of new q g at in
      elim (put_cases w.0 g w.1) [
        | inl p ↦ absurd (ne (sym w.2 ∙ ap (λ (x : Holding). x.range.base) p.1))
        | inr p ↦ tag_at old once w.0 q g p.1 w.2
      ])
      (λ g at. let w = cell_of old q g at in tag_at new once_put w.0 q g (put_keeps w.0 g w.1) w.2)

  -- the map has the range as well
  pub tags_put : tags_in new ≡ insert (tags_in old) h.range.base h
  tags_put = same_map nat_cmp_total nat_cmp-IsAntisymmetric (tags_in new) (insert (tags_in old) h.range.base h) (λ q.
      elim (cases_eq q h.range.base) [
        | inl e ↦ tag_at new once_put k q h becomes.changed (sym e) ∙ sym (get_same (tags_in old) h.range.base h) ∙ sym (ap (get (insert (tags_in old) h.range.base h)) e)
        | inr ne ↦ other_put q ne ∙ sym (get_other (tags_in old) h.range.base h q ne)
      ])

  -- what is true of the count and the cells stays so
  pub sound_put : (count : ℕ) → count ≡ len (tags_in old) → (count + 1 ≡ len (tags_in new)) × AreOnce new
  sound_put count is = (let more = ap len tags_put ∙ len_more (tags_in old) h.range.base h absent in omega (arith, more, is), once_put)

-- what is allocated in a cell is so no more
module _ (old new : List (Option Holding)) (k : ℕ) (h : Holding) (once : AreOnce old) (becomes : CellBecomes old new k None)
    (held : allocated_at old k ≡ Some h) where
  -- what is allocated in a cell was there before, and is no range at that base
  left_before : (j : ℕ) (g : Holding) → allocated_at new j ≡ Some g → (j ≢ k) × (allocated_at old j ≡ Some g)
  left_before j g at =
      elim (cases_eq j k) [
        | inl e ↦ absurd (let some : None ≡ Some g = sym becomes.changed ∙ sym (ap (allocated_at new) e) ∙ at in cc)
        | inr ne ↦ (ne, sym (becomes.others j ne) ∙ at)
      ]

  -- still no two begin at one base
  pub once_taken : AreOnce new
  once_taken = λ i j f g at_i at_j e. once i j f g (left_before i f at_i).1 (left_before j g at_j).1 e

  -- no range at that base is left
  gone_there : (j : ℕ) → ¬ IsAt h.range.base j new
  gone_there j is =
      let w = left_before j is.0 is.1 in
      w.0 (once j k is.0 h w.1 held is.2)

  -- a range at another base stays
  stays_there : (j : ℕ) (g : Holding) → allocated_at old j ≡ Some g → g.range.base ≢ h.range.base → allocated_at new j ≡ Some g
  stays_there j g at ne =
      elim (cases_eq j k) [
        | inl e ↦ absurd (
            let some : Some h ≡ Some g = sym held ∙ sym (ap (allocated_at old) e) ∙ at in
            let same : g ≡ h = cc in
            ne (ap (λ (x : Holding). x.range.base) same))
        | inr apart ↦ becomes.others j apart ∙ at
      ]

  -- the map is the same at another base
  other_taken : (q : ℕ) → q ≢ h.range.base → get (tags_in new) q ≡ get (tags_in old) q
  other_taken q ne = same_option (get (tags_in new) q) (get (tags_in old) q)
      (λ g at. let w = cell_of new q g at in tag_at old once w.0 q g (left_before w.0 g w.1).1 w.2)
      (λ g at. let w = cell_of old q g at in tag_at new once_taken w.0 q g (stays_there w.0 g w.1 (λ e. ne (sym w.2 ∙ e))) w.2)

  -- the map is without the range
  pub tags_taken : tags_in new ≡ remove (tags_in old) h.range.base
  tags_taken = same_map nat_cmp_total nat_cmp-IsAntisymmetric (tags_in new) (remove (tags_in old) h.range.base) (λ q.
      elim (cases_eq q h.range.base) [
        | inl e ↦ ap (get (tags_in new)) e ∙ none_there new h.range.base gone_there ∙ sym (get_gone (tags_in old) h.range.base h) ∙ sym (ap (get (remove (tags_in old) h.range.base)) e)
        | inr ne ↦ other_taken q ne ∙ sym (get_less (tags_in old) h.range.base h q ne)
      ])

  -- what is true of the count and the cells stays so
  pub sound_taken : (count less : ℕ) → count ≡ len (tags_in old) → less + 1 ≡ count → (less ≡ len (tags_in new)) × AreOnce new
  sound_taken count less is one =
      let there = tag_of old once k h held in
      let fewer = ap (λ m. len m + 1) tags_taken ∙ len_less (tags_in old) h.range.base h there in
      (omega (arith, fewer, is, one), once_taken)

-- no cell, no range
pub tags_none : (cells : List (Option Holding)) → cells ≡ [] → tags_in cells ≡ empty
unfolding tags_in
tags_none cells is = ap tags_in is

-- what is true of the count and the cells holds of none
pub sound_none : (cells : List (Option Holding)) → cells ≡ [] → (0 ≡ len (tags_in cells)) × AreOnce cells
sound_none cells is = (
  sym (ap len (tags_none cells is) ∙ len-empty nat_cmp Holding),
  λ j k g h at_j at_k e. absurd (let some : None ≡ Some g = sym (ap (λ (x : List (Option Holding)). allocated_at x j) is) ∙ at_j in cc),
)

-- cells in which the same stays, twice
pub same_twice : (old mid new : List (Option Holding)) → SameCells old mid → SameCells mid new → SameCells old new
same_twice old mid new first then_same k = then_same k ∙ first k

-- where a range is allocated in a cell, there is one
pub counted : (cells : List (Option Holding)) → AreOnce cells → (k : ℕ) (h : Holding) → allocated_at cells k ≡ Some h → 1 ≤ len (tags_in cells)
counted cells once k h at = some_allocated (tags_in cells) h.range.base h (tag_of cells once k h at)
