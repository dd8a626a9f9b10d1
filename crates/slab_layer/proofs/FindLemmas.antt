-- Which slab a range can lie in, or share a unit with.
use Rattle.std.proofs.Common.{◌≡◌, inl, inr, ℕ, suc, ◌<◌, ◌≤◌, List, length, get_or, All, AllPairs, sym, ap, ◌∙◌, arith, subst}
use Rattle.std.specs.Prelude.{Any}
use Rattle.std.proofs.lemmas.Bool.{cases_lt}
use Rattle.std.proofs.lemmas.List.{get_or_default}
use Rattle.deed_core.specs.Extent.{Extent, Overlap, end_of}
use Rattle.deed_core.specs.Holding.{Holding}
use Rattle.slab_layer.specs.Slab.{SlabState, IsSlab, chunk_at}
use Rattle.slab_layer.specs.Cache.{IsBelow}
use Rattle.slab_layer.proofs.SearchLemmas.{IsCut, from_cut}
use Rattle.slab_layer.proofs.MineLemmas.{chunk_inside}

-- a slab that goes on to the range's end begins before it, and no other begins in between
last_before : (slabs : List SlabState) (i k : ℕ) (end : ℕ) (d : SlabState) → AllPairs IsBelow slabs → IsCut end i slabs → k < length slabs → (get_or slabs k d).span.range.base < end → end ≤ end_of (get_or slabs k d).span.range → suc k ≡ i
last_before slabs i k end d ascending cut within low reach = elim (cases_lt k i) [
  | inl before ↦ elim (cases_lt (suc k) i) [
    | inl more ↦
        let next : IsBelow (get_or slabs k d) (get_or slabs (suc k) d) = ascending k (suc k) d (omega arith) (omega (arith, cut.within)) in
        absurd (omega (arith, next, cut.below (suc k) d more))
    | inr last ↦ omega arith
  ]
  | inr behind ↦ absurd (omega (arith, from_cut end i slabs ascending cut k d (omega arith) within))
]

-- a chunk that covers a range lies in the last slab that begins before the range's end
pub in_last : (slabs : List SlabState) (i k j root : ℕ) (e : Extent) (d : SlabState) → AllPairs IsBelow slabs → All IsSlab slabs → IsCut (end_of e) i slabs → k < length slabs → j < length (get_or slabs k d).home → ◌≡◌ {A = Holding} (chunk_at (get_or slabs k d) j) (record { root = root; range = e }) → suc k ≡ i
in_last slabs i k j root e d ascending shapes cut within place is =
    let s : SlabState = get_or slabs k d in
    let slab : IsSlab s = shapes k d within in
    let inside = chunk_inside s j slab place in
    let same : (chunk_at s j).range ≡ e = ap (λ (h : Holding). h.range) is in
    let base : s.span.range.base ≤ e.base = subst (λ (x : Extent). s.span.range.base ≤ x.base) same inside.0 in
    let end : end_of e ≤ end_of s.span.range = subst (λ (x : Extent). end_of x ≤ end_of s.span.range) same inside.1 in
    let units : 0 < e.len = subst (λ (x : Extent). 0 < x.len) same slab.some in
    last_before slabs i k (end_of e) d ascending cut within (omega (arith, base, units)) end

pub none_found : (slabs : List SlabState) (i root : ℕ) (e : Extent) → AllPairs IsBelow slabs → All IsSlab slabs → IsCut (end_of e) i slabs → (1 ≤ i → ⊥)
    → All (λ s. (j : ℕ) → j < length s.home → ◌≡◌ {A = Holding} (chunk_at s j) (record { root = root; range = e }) → ⊥) slabs
none_found slabs i root e ascending shapes cut none k d within j place is = none (omega (arith, in_last slabs i k j root e d ascending shapes cut within place is))

pub not_in_last : (slabs : List SlabState) (i p root : ℕ) (e : Extent) (s : SlabState) → AllPairs IsBelow slabs → All IsSlab slabs → IsCut (end_of e) i slabs → suc p ≡ i → s ≡ get_or slabs p s
    → ((j : ℕ) → j < length s.home → ◌≡◌ {A = Holding} (chunk_at s j) (record { root = root; range = e }) → ⊥)
    → All (λ r. (j : ℕ) → j < length r.home → ◌≡◌ {A = Holding} (chunk_at r j) (record { root = root; range = e }) → ⊥) slabs
not_in_last slabs i p root e s ascending shapes cut last is none k d within j place here =
    let at : suc k ≡ i = in_last slabs i k j root e d ascending shapes cut within place here in
    let same : k ≡ p = omega (arith, at) in
    let s_is : get_or slabs k d ≡ s = ap (λ (n : ℕ). get_or slabs n d) same ∙ get_or_default slabs p d s (omega (arith, same)) ∙ sym is in
    none j (subst (λ (r : SlabState). j < length r.home) s_is place) (subst (λ (r : SlabState). ◌≡◌ {A = Holding} (chunk_at r j) (record { root = root; range = e })) s_is here)

-- so with a range that shares a unit with a slab
pub none_shared : (slabs : List SlabState) (i : ℕ) (e : Extent) → AllPairs IsBelow slabs → IsCut (end_of e) i slabs → (1 ≤ i → ⊥) → Any (λ s. Overlap s.span.range e) slabs → ⊥
none_shared slabs i e ascending cut none any =
    let high = from_cut (end_of e) i slabs ascending cut any.0 any.1 (omega (arith, none)) any.2 in
    let base = ap (λ (r : SlabState). r.span.range.base) any.3 in
    omega (arith, high, base, any.4)

pub shared_in_last : (slabs : List SlabState) (i p : ℕ) (e : Extent) (s : SlabState) → AllPairs IsBelow slabs → IsCut (end_of e) i slabs → suc p ≡ i → s ≡ get_or slabs p s → Any (λ r. Overlap r.span.range e) slabs → Overlap s.span.range e
shared_in_last slabs i p e s ascending cut last is any =
    let r : SlabState = any.1 in
    let at : r ≡ get_or slabs any.0 r = sym any.3 in
    let base = ap (λ (x : SlabState). x.span.range.base) at in
    let low = cut.below p s (omega (arith, last)) in
    let low_s = ap (λ (x : SlabState). x.span.range.base) is in
    elim (cases_lt any.0 p) [
      | inl before ↦
          let up : IsBelow (get_or slabs any.0 r) (get_or slabs p r) = ascending any.0 p r before (omega (arith, last, cut.within)) in
          let up' : end_of r.span.range ≤ s.span.range.base = subst (λ (x : SlabState). end_of x.span.range ≤ s.span.range.base) any.3 (subst (λ (x : SlabState). end_of (get_or slabs any.0 r).span.range ≤ x.span.range.base) (get_or_default slabs p r s (omega (arith, last, cut.within)) ∙ sym is) up) in
          (omega (arith, low, low_s), omega (arith, up', any.4))
      | inr other ↦ elim (cases_lt p any.0) [
        | inl behind ↦ let high = from_cut (end_of e) i slabs ascending cut any.0 r (omega (arith, last, behind)) any.2 in absurd (omega (arith, high, base, any.4))
        | inr here ↦
            let same : any.0 ≡ p = omega (arith, other, here) in
            let r_is : r ≡ s = at ∙ ap (λ (n : ℕ). get_or slabs n r) same ∙ get_or_default slabs p r s (omega (arith, last, cut.within)) ∙ sym is in
            subst (λ (x : SlabState). Overlap x.span.range e) r_is any.4
      ]
    ]
