-- Slabs by ascending base, and the choice among them.
use Rattle.std.proofs.Common.{◌≡◌, inl, inr, ℕ, ◌<◌, ◌≤◌, Bool, true, false, cond, nat_lt, zero, suc, List, [], ◌∷◌, length, get_or, map, All, AllPairs, refl, sym, ap, ◌∙◌, arith, subst}
use Rattle.std.specs.Prelude.{Contains}
use Rattle.std.specs.List.{filter}
use Rattle.std.specs.List.Sorted.{IsPartitionedBy}
use Rattle.std.proofs.lemmas.Bool.Decides.{nat_tests}
use Rattle.std.proofs.lemmas.Bool.{cases_lt, cases_order, cases_Bool}
use Rattle.std.proofs.lemmas.List.{get_or_default, get_or_read}
use Rattle.std.proofs.lemmas.List.Elements.{All-get_or, All-nil, All-cons}
use Rattle.slab_layer.specs.Slab.{SlabState, IsAllOut, IsComplete, IsPartial, IsLowestIdle}
use Rattle.slab_layer.specs.Cache.{IsBelow}
use Rattle.slab_layer.specs.declared.standings.Standing.{Standing}
use Rattle.slab_layer.specs.Standings.{standing_of}
use Rattle.slab_layer.specs.Bases.{bases_where}
use Rattle.slab_layer.specs.Calls.{StandsAt, IsLowest, IsNext}
use Rattle.slab_layer.proofs.PassingLemmas.{some_false, no_true}

-- the first of its kind is the lowest
pub lowest_here : (P : SlabState → Type 0) (slabs : List SlabState) (i : ℕ) (s : SlabState) → AllPairs IsBelow slabs → i < length slabs → s ≡ get_or slabs i s → P s
    → ((k : ℕ) (d : SlabState) → k < i → P (get_or slabs k d) → ⊥) → IsLowest P i s slabs
lowest_here P slabs i s ascending within is so below = record {
  stands = record { within = within; is = sym is };
  so = so;
  least = λ k d in_slabs has. elim (cases_order k i) [
    | inl here ↦
        let e : get_or slabs k d ≡ s = ap (λ (n : ℕ). get_or slabs n d) here ∙ sym (get_or_read slabs i s within is d) in
        rw e (omega arith)
    | inr other ↦ elim other [
      | inl before ↦ absurd (below k d before has)
      | inr after ↦
          let e : s ≡ get_or slabs i d = get_or_read slabs i s within is d in
          let up : IsBelow (get_or slabs i d) (get_or slabs k d) = ascending i k d after in_slabs in
          rw e (omega (arith, up))
    ]
  ];
}

-- one of two readings of a place
pub same_slab : (i : ℕ) (s t : SlabState) (slabs : List SlabState) → StandsAt i s slabs → t ≡ get_or slabs i t → t ≡ s
same_slab i s t slabs stands is = is ∙ get_or_default slabs i t s stands.within ∙ stands.is

-- neither partial nor complete
all_out : (xs : List Bool) → (Contains xs true × Contains xs false → ⊥) → (All (λ b. b ≡ true) xs → ⊥) → All (λ b. b ≡ false) xs
all_out xs not_partial not_complete k d within = elim (cases_Bool (get_or xs k d)) [
  | inl here ↦ absurd (not_partial ((k, within, get_or_default xs k true d within ∙ here), some_false xs not_complete))
  | inr away ↦ away
]

pub all_are_out : (slabs : List SlabState) → All (λ s. IsPartial s → ⊥) slabs → All (λ s. IsComplete s → ⊥) slabs → All IsAllOut slabs
all_are_out slabs not_partial not_complete k d within = all_out (get_or slabs k d).home (not_partial k d within) (not_complete k d within)

-- the slab that gives the next chunk has one
pub next_stands : (i : ℕ) (s : SlabState) (slabs : List SlabState) → IsNext i s slabs → StandsAt i s slabs
next_stands i s slabs next = elim next [ inl a ↦ a.stands | inr b ↦ b.1.stands ]

pub next_has_idle : (i : ℕ) (s : SlabState) (slabs : List SlabState) → IsNext i s slabs → 0 < length s.home → All (λ b. b ≡ false) s.home → ⊥
next_has_idle i s slabs next some out = elim next [
  | inl a ↦ no_true s.home out a.so.0
  | inr b ↦ let f : get_or s.home 0 false ≡ false = out 0 false some in let t : get_or s.home 0 false ≡ true = b.1.so 0 false some in cc
]

pub not_all_out : (i j : ℕ) (s : SlabState) (slabs : List SlabState) → StandsAt i s slabs → IsLowestIdle j s.home → All IsAllOut slabs → ⊥
not_all_out i j s slabs stands idle out =
    let here : IsAllOut s = subst (λ (t : SlabState). IsAllOut t) stands.is (All-get_or IsAllOut slabs i s stands.within out) in
    let f : get_or s.home j false ≡ false = here j false idle.within in
    let t = idle.idle in
    cc

pub not_none_complete : (i : ℕ) (s : SlabState) (slabs : List SlabState) → IsLowest IsComplete i s slabs → All (λ t. IsComplete t → ⊥) slabs → ⊥
not_none_complete i s slabs lowest none =
    none i s lowest.stands.within (subst (λ (t : SlabState). IsComplete t) (sym lowest.stands.is) lowest.so)

-- slabs by ascending base are halved by a test of the base
pub parted : (base : ℕ) (slabs : List SlabState) → AllPairs IsBelow slabs → IsPartitionedBy (λ s. nat_lt s.span.range.base base) slabs
parted base slabs ascending i j d reach within low = elim (cases_lt i j) [
  | inl before ↦ let up : IsBelow (get_or slabs i d) (get_or slabs j d) = ascending i j d before within in let less : (get_or slabs j d).span.range.base < base = grind (arith, nat_tests) in let under : (get_or slabs i d).span.range.base < base = omega (arith, up, less) in grind (arith, nat_tests)
  | inr other ↦ let e : i ≡ j = omega arith in rw e low
]

-- where slabs are cut by a base
pub record IsCut (base i : ℕ) (slabs : List SlabState) : Type 0 where
  pub within : i ≤ length slabs
  pub below : (k : ℕ) (d : SlabState) → k < i → (get_or slabs k d).span.range.base < base
  pub above : i < length slabs → (d : SlabState) → base ≤ (get_or slabs i d).span.range.base

-- from there on none begins below the base
pub from_cut : (base i : ℕ) (slabs : List SlabState) → AllPairs IsBelow slabs → IsCut base i slabs → (k : ℕ) (d : SlabState) → i ≤ k → k < length slabs → base ≤ (get_or slabs k d).span.range.base
from_cut base i slabs ascending cut k d reach within = elim (cases_lt i k) [
  | inl behind ↦ let up : IsBelow (get_or slabs i d) (get_or slabs k d) = ascending i k d behind within in omega (arith, up, cut.above (omega arith) d)
  | inr other ↦ let e : i ≡ k = omega arith in subst (λ (n : ℕ). base ≤ (get_or slabs n d).span.range.base) e (cut.above (omega arith) d)
]

-- the first slab that passes, and its base
pub record IsFirst (has : Standing → Bool) (base i : ℕ) (s : SlabState) (slabs : List SlabState) : Type 0 where
  pub within : i < length slabs
  pub is : s ≡ get_or slabs i s
  pub passes : has (standing_of s) ≡ true
  pub base_is : s.span.range.base ≡ base
  pub before : (k : ℕ) (d : SlabState) → k < i → has (standing_of (get_or slabs k d)) ≡ false

none_before : (has : Standing → Bool) (s : SlabState) (ss : List SlabState) (i : ℕ) → has (standing_of s) ≡ false → ((k : ℕ) (d : SlabState) → k < i → has (standing_of (get_or ss k d)) ≡ false) → (k : ℕ) (d : SlabState) → k < suc i → has (standing_of (get_or (s ∷ ss) k d)) ≡ false
none_before has s ss i out rest zero d before = out
none_before has s ss i out rest (suc k) d before = rest k d (omega arith)

first_listed : (has : Standing → Bool) (base : ℕ) (rest : List ℕ) (slabs : List SlabState) → bases_where has slabs ≡ base ∷ rest → (i : ℕ) × (s : SlabState) × IsFirst has base i s slabs
first_listed has base rest [] first = cc
first_listed has base rest (s ∷ ss) first = elim (has (standing_of s)) as (λ b. has (standing_of s) ≡ b → map (λ (x : SlabState). x.span.range.base) (cond b (s ∷ filter (λ (y : SlabState). has (standing_of y)) ss) (filter (λ (y : SlabState). has (standing_of y)) ss)) ≡ base ∷ rest → (i : ℕ) × (r : SlabState) × IsFirst has base i r (s ∷ ss)) [
  | true ↦ λ e listed. (0, s, record { within = omega arith; is = refl; passes = e; base_is = ap (λ (bs : List ℕ). get_or bs 0 0) listed; before = λ k d before. absurd (omega arith) })
  | false ↦ λ e listed. let r = first_listed has base rest ss listed in (suc r.0, r.1, record { within = omega (arith, r.2.within); is = r.2.is; passes = r.2.passes; base_is = r.2.base_is; before = none_before has s ss r.0 e r.2.before })
] refl first

-- where a base that is listed is cut off, its slab stands
pub cut_at : (has : Standing → Bool) (base i : ℕ) (rest : List ℕ) (slabs : List SlabState) → AllPairs IsBelow slabs → All (λ s. 0 < s.span.range.len) slabs → bases_where has slabs ≡ base ∷ rest → IsCut base i slabs → (s : SlabState) × IsLowest (λ t. has (standing_of t) ≡ true) i s slabs
cut_at has base i rest slabs ascending some listed cut =
    let f = first_listed has base rest slabs listed in
    let s = f.1 in
    let first = f.2 in
    let lowest : IsLowest (λ t. has (standing_of t) ≡ true) f.0 s slabs = lowest_here (λ t. has (standing_of t) ≡ true) slabs f.0 s ascending first.within first.is first.passes (λ k d before passes. let out = first.before k d before in cc) in
    let same : f.0 ≡ i = elim (cases_order f.0 i) [
      | inl here ↦ here
      | inr other ↦ elim other [
        | inl before ↦ let low = cut.below f.0 s before in let at = ap (λ (r : SlabState). r.span.range.base) first.is in absurd (omega (arith, low, at, first.base_is))
        | inr after ↦
            let high = cut.above (omega (arith, first.within)) s in
            let up : IsBelow (get_or slabs i s) (get_or slabs f.0 s) = ascending i f.0 s after first.within in
            let units = some i s (omega (arith, first.within)) in
            let at = ap (λ (r : SlabState). r.span.range.base) first.is in
            absurd (omega (arith, high, up, units, at, first.base_is))
      ]
    ] in
    (s, subst (λ (n : ℕ). IsLowest (λ t. has (standing_of t) ≡ true) n s slabs) same lowest)

-- none is listed where none passes
pub none_listed : (has : Standing → Bool) (slabs : List SlabState) → bases_where has slabs ≡ [] → All (λ s. has (standing_of s) ≡ false) slabs
none_listed has [] none = All-nil (λ s. has (standing_of s) ≡ false)
none_listed has (s ∷ ss) none = elim (has (standing_of s)) as (λ b. has (standing_of s) ≡ b → map (λ (x : SlabState). x.span.range.base) (cond b (s ∷ filter (λ (y : SlabState). has (standing_of y)) ss) (filter (λ (y : SlabState). has (standing_of y)) ss)) ≡ [] → All (λ x. has (standing_of x) ≡ false) (s ∷ ss)) [
  | true ↦ λ e listed. cc
  | false ↦ λ e listed. All-cons (λ x. has (standing_of x) ≡ false) s ss e (none_listed has ss listed)
] refl none
