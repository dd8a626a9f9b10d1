-- The spans that a setup gives an arena are apart and whole, as they are in the setup.
use Rattle.std.proofs.Common.{◌≡◌, ℕ, suc, zero, ◌+◌, ◌<◌, ◌==◌, Bool, true, false, cond, refl, sym, subst, ap, ◌∙◌, inl, inr, List, [], ◌∷◌, ◌++◌, get_or, All, AllPairs, Some, None, arith, eqb-true}
use Rattle.std.specs.Prelude.{slice_get}
use Rattle.std.proofs.lemmas.Bool.{cases_lt}
use Rattle.std.proofs.lemmas.Option.{slice_get_within, get_or_from_slice_get}
use Rattle.deed_core.specs.Extent.{Extent, Overlap}
use Rattle.deed_core.specs.Holding.{Holding, Apart}
use Rattle.deed_core.proofs.LawProofs.{all_at, slice_get_one}
use Rattle.arena_tree.specs.declared.trees.TreeArena.{TreeArena}
use Rattle.arena_tree.specs.declared.setups.OwnedSpan.{OwnedSpan}
use Rattle.arena_tree.specs.Settings.{Clash, IsOwned, span_count}
use Rattle.arena_tree.specs.Trees.{IsWholeRange}
use Rattle.stock.specs.Setups.{deeds_after, deeds_owned, root_number}

module _ (k : ℕ) where
  -- the range is that of a span of the arena's
  pub record IsOneOf (spans : List OwnedSpan) (h : Holding) : Type 0 where
    pub index : ℕ
    pub span : OwnedSpan
    pub at : slice_get spans index ≡ Some span
    pub own : span.arena ≡ k
    pub range : h.range ≡ span.range

  -- the ranges are of two, in their order
  pub record AreTwoOf (spans : List OwnedSpan) (g h : Holding) : Type 0 where
    pub first : IsOneOf spans g
    pub second : IsOneOf spans h
    pub order : first.index < second.index

  abbrev later : (o : OwnedSpan) (spans : List OwnedSpan) (h : Holding) → IsOneOf spans h → IsOneOf (o ∷ spans) h
  later o spans h is = record { index = suc is.index; span = is.span; at = is.at; own = is.own; range = is.range }

  both_later : (o : OwnedSpan) (spans : List OwnedSpan) (g h : Holding) → AreTwoOf spans g h → AreTwoOf (o ∷ spans) g h
  both_later o spans g h are = record { first = later o spans g are.first; second = later o spans h are.second; order = omega (arith, are.order) }

  abbrev deed_of : List OwnedSpan → OwnedSpan → Holding
  deed_of before o = record { root = root_number o.arena (span_count o.arena before); range = o.range }

  abbrev here : (before spans : List OwnedSpan) (o : OwnedSpan) (h : Holding) → (o.arena == k) ≡ true → deed_of before o ≡ h → IsOneOf (o ∷ spans) h
  here before spans o h own same = record { index = 0; span = o; at = refl; own = eqb-true o.arena k own; range = ap (λ (x : Holding). x.range) (sym same) }

  -- by whether the first span is of the arena
  one_by : (before spans : List OwnedSpan) (o : OwnedSpan) (h : Holding) (rest : List Holding) → ((i : ℕ) → slice_get rest i ≡ Some h → IsOneOf spans h)
      → (b : Bool) → (o.arena == k) ≡ b → (i : ℕ) → slice_get (cond b (deed_of before o ∷ rest) rest) i ≡ Some h → IsOneOf (o ∷ spans) h
  one_by before spans o h rest one true own zero at = here before spans o h own (let e : Some (deed_of before o) ≡ Some h = at in cc)
  one_by before spans o h rest one true own (suc i) at = later o spans h (one i at)
  one_by before spans o h rest one false other i at = later o spans h (one i at)

  pub one_of : (before spans : List OwnedSpan) (i : ℕ) (h : Holding) → slice_get (deeds_owned k spans (deeds_after before spans)) i ≡ Some h → IsOneOf spans h
  one_of before [] i h at = absurd (let e : None ≡ Some h = at in cc)
  one_of before (o ∷ spans) i h at = one_by before spans o h (deeds_owned k spans (deeds_after (before ++ o ∷ []) spans)) (λ j there. one_of (before ++ o ∷ []) spans j h there) (o.arena == k) refl i at

  two_by : (before spans : List OwnedSpan) (o : OwnedSpan) (g h : Holding) (rest : List Holding) → ((j : ℕ) → slice_get rest j ≡ Some h → IsOneOf spans h)
      → ((i j : ℕ) → i < j → slice_get rest i ≡ Some g → slice_get rest j ≡ Some h → AreTwoOf spans g h)
      → (b : Bool) → (o.arena == k) ≡ b → (i j : ℕ) → i < j → slice_get (cond b (deed_of before o ∷ rest) rest) i ≡ Some g → slice_get (cond b (deed_of before o ∷ rest) rest) j ≡ Some h → AreTwoOf (o ∷ spans) g h
  two_by before spans o g h rest one two true own i zero lt at there = absurd (omega (arith, lt))
  two_by before spans o g h rest one two true own zero (suc j) lt at there = record {
    first = here before spans o g own (let e : Some (deed_of before o) ≡ Some g = at in cc);
    second = later o spans h (one j there);
    order = omega arith;
  }
  two_by before spans o g h rest one two true own (suc i) (suc j) lt at there = both_later o spans g h (two i j (omega (arith, lt)) at there)
  two_by before spans o g h rest one two false other i j lt at there = both_later o spans g h (two i j lt at there)

  pub two_of : (before spans : List OwnedSpan) (i j : ℕ) (g h : Holding) → i < j → slice_get (deeds_owned k spans (deeds_after before spans)) i ≡ Some g → slice_get (deeds_owned k spans (deeds_after before spans)) j ≡ Some h → AreTwoOf spans g h
  two_of before [] i j g h lt at there = absurd (let e : None ≡ Some h = there in cc)
  two_of before (o ∷ spans) i j g h lt at there =
      two_by before spans o g h (deeds_owned k spans (deeds_after (before ++ o ∷ []) spans)) (λ m got. one_of (before ++ o ∷ []) spans m h got)
      (λ m n less got also. two_of (before ++ o ∷ []) spans m n g h less got also) (o.arena == k) refl i j lt at there

-- ranges that share no unit
not_shared : (a b : Holding) → ¬ Overlap a.range b.range → Apart a b
not_shared a b not = elim (cases_lt a.range.base (b.range.base + b.range.len)) [
  | inr high ↦ inr high
  | inl low ↦ elim (cases_lt b.range.base (a.range.base + a.range.len)) [
    | inr high ↦ inl high
    | inl over ↦ absurd (not (low, over))
  ]
]

module _ (arenas : List TreeArena) (spans : List OwnedSpan) (owned : All (IsOwned arenas) spans) (apart : AllPairs (λ a b. ¬ Clash a b) spans) (k : ℕ) (x : TreeArena) (at : slice_get arenas k ≡ Some x) where
  abbrev own : List Holding
  own = deeds_owned k spans (deeds_after [] spans)

  -- an arena that owns one is a root
  pub root_owns : (i : ℕ) (h : Holding) → slice_get own i ≡ Some h → x.source ≡ None
  root_owns i h there =
      let one = one_of k [] spans i h there in
      let is = all_at (IsOwned arenas) spans one.index one.span owned one.at in
      let same : is.0 ≡ x = slice_get_one arenas k is.0 x (ap (slice_get arenas) (sym one.own) ∙ is.1.here) at in
      ap (λ (y : TreeArena). y.source) (sym same) ∙ is.1.root

  pub own_whole : (i : ℕ) (h : Holding) → slice_get own i ≡ Some h → IsWholeRange x.quantum h.range
  own_whole i h there =
      let one = one_of k [] spans i h there in
      let is = all_at (IsOwned arenas) spans one.index one.span owned one.at in
      let same : is.0 ≡ x = slice_get_one arenas k is.0 x (ap (slice_get arenas) (sym one.own) ∙ is.1.here) at in
      subst (IsWholeRange x.quantum) (sym one.range) (subst (λ (y : TreeArena). IsWholeRange y.quantum one.span.range) same is.2)

  pub own_apart : (i j : ℕ) (g h : Holding) → i < j → slice_get own i ≡ Some g → slice_get own j ≡ Some h → Apart g h
  own_apart i j g h lt first second =
      let two = two_of k [] spans i j g h lt first second in
      let a : OwnedSpan = two.first.span in
      let b : OwnedSpan = two.second.span in
      let pair = apart two.first.index two.second.index a two.order (slice_get_within spans two.second.index b two.second.at) in
      let one = get_or_from_slice_get spans two.first.index a a two.first.at in
      let other = get_or_from_slice_get spans two.second.index b a two.second.at in
      let clear : ¬ Clash a b = subst (λ (z : OwnedSpan). ¬ Clash z b) one (subst (λ (z : OwnedSpan). ¬ Clash (get_or spans two.first.index a) z) other pair) in
      not_shared g h (λ over. clear (two.first.own ∙ sym two.second.own, subst (λ (e : Extent). Overlap e b.range) two.first.range (subst (λ (e : Extent). Overlap g.range e) two.second.range over)))
