-- Which pieces cover a unit.
use Rattle.std.proofs.Common.{◌≡◌, ◌≢◌, ◌⊎◌, ⊎_elim, ℕ, ◌+◌, ◌≤◌, ◌==◌, eq-eqb, Bool, true, false, List, [], ◌∷◌, ◌++◌, sym, refl, ap, inl, inr, arith}
use Rattle.std.specs.Prelude.{if◌then◌else◌}
use Rattle.std.proofs.lemmas.Bool.Decides.{eqb_tells}
use Rattle.std.proofs.lemmas.List.Sums.{sum_by-cons, sum_by-append}
use Rattle.deed_core.specs.Extent.{Extent, IsRange, Overlap, end_of, part_below, part_from, union}
use Rattle.deed_core.specs.Covering.{covers}
use Rattle.deed_core.proofs.LawProofs.{covers_is, covers_cut, overlap_covers_twice, sum_by-smaller}
use Rattle.deed_table.specs.declared.views.Piece.{Piece}
use Rattle.deed_table.specs.Piece.{piece_at, extent_of, covers_of, covering_of, one_if_of, count_of, low_pieces, high_pieces, merged_pieces, CutsFirst, Touch, CoverOnce}

-- 1 where it is true
abbrev pub one_if : Bool → ℕ
one_if b = if b then 1 else 0

-- no number is one of none
pub none_covered : (u : ℕ) (e : Extent) → e.len ≡ 0 → covers u e ≡ 0
none_covered u e none = grind (arith, covers_is u e)

-- a piece covers what the two parts of it cover
pieces_cut : (root unit r : ℕ) (a b e : Extent) → a.base ≡ e.base → end_of a ≡ b.base → end_of b ≡ end_of e
    → covers_of root unit (piece_at r a) + covers_of root unit (piece_at r b) ≡ covers_of root unit (piece_at r e)
pieces_cut root unit r a b e first meet last = by (root == r)
  where
    by : (x : Bool) → (if x then covers unit a else 0) + (if x then covers unit b else 0) ≡ (if x then covers unit e else 0)
    by true = sym (covers_cut unit a b e first meet last)
    by false = refl

-- what is cut covers the same
pub covering_cut : (root unit at : ℕ) (ps : List Piece) → CutsFirst at ps → covering_of root unit (low_pieces at ps) + covering_of root unit (high_pieces at ps) ≡ covering_of root unit ps
covering_cut root unit at [] inside = refl
covering_cut root unit at (p ∷ ps) inside =
    let f = covers_of root unit in
    let e = extent_of p in
    let c = pieces_cut root unit p.root (part_below at e) (part_from at e) e refl (omega arith) (omega arith) in
    omega (arith, c, sum_by-cons f p ps, sum_by-cons f (piece_at p.root (part_from at e)) ps)

-- what is made one covers the same
pub covering_merged : (root unit : ℕ) (ps qs : List Piece) → Touch ps qs → covering_of root unit (merged_pieces ps qs) ≡ covering_of root unit ps + covering_of root unit qs
covering_merged root unit [] qs touch = omega arith
covering_merged root unit (p ∷ ps) [] touch = omega arith
covering_merged root unit (p ∷ ps) (q ∷ qs) touch =
    let f = covers_of root unit in
    let both = union (extent_of p) (extent_of q) in
    let c = pieces_cut root unit p.root (extent_of p) (extent_of q) both refl touch.meets (omega (arith, touch.meets)) in
    let d : f q ≡ f (piece_at p.root (extent_of q)) = ap (λ (r : ℕ). f (piece_at r (extent_of q))) (sym touch.root) in
    omega (arith, c, d, sum_by-append f ps qs, sum_by-cons f p ps, sum_by-cons f q qs, sum_by-cons f (piece_at p.root both) (ps ++ qs))

-- a unit is covered by no more pieces than there are of the root
pub covering_le : (root unit : ℕ) (ps : List Piece) → covering_of root unit ps ≤ count_of root ps
covering_le root unit ps = sum_by-smaller (covers_of root unit) (one_if_of root) ps (λ p. by (root == p.root) p)
  where
    by : (x : Bool) (p : Piece) → (if x then covers unit (extent_of p) else 0) ≤ one_if x
    by true p = grind (arith, covers_is unit (extent_of p))
    by false p = omega arith

one_equal : (a b : ℕ) → ((one_if (a == b) ≡ 1) × (a ≡ b)) ⊎ ((one_if (a == b) ≡ 0) × (a ≢ b))
one_equal a b = ⊎_elim (λ t. inl (ap one_if t.0, t.1)) (λ t. inr (ap one_if t.0, t.1)) (eqb_tells a b)

-- a number is one of one where it is that one
pub one_covered : (u : ℕ) (e : Extent) → e.len ≡ 1 → covers u e ≡ one_if (u == e.base)
one_covered u e one = grind (arith, covers_is u e, one_equal u e.base)

-- two ranges of one root that cover no unit twice do not overlap
pub apart_once : (root : ℕ) (a b : Extent) → IsRange a → IsRange b → CoverOnce (piece_at root a ∷ piece_at root b ∷ []) → ¬ Overlap a b
apart_once root a b some_a some_b once meet =
    let same : (root == root) ≡ true = eq-eqb root root refl in
    let is : (unit : ℕ) (e : Extent) → covers_of root unit (piece_at root e) ≡ covers unit e = λ unit e. ap (λ (x : Bool). if x then covers unit e else 0) same in
    let at : (unit : ℕ) → covers unit a + covers unit b ≤ 1 = λ unit. let o = once root unit in let x = is unit a in let y = is unit b in omega arith in
    let twice = (overlap_covers_twice a b some_a.some some_b.some).0 meet in
    let most = at twice.0 in
    absurd (omega (arith, twice.1, most))
