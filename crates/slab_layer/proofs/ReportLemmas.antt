-- The sums over the slabs of a cache.
use Rattle.std.proofs.Common.{◌≡◌, inl, inr, ℕ, suc, ◌+◌, ◌<◌, ◌≤◌, ◌^◌, Bool, not, List, [], ◌∷◌, All, AllPairs, refl, ap, arith, if◌then◌else◌}
use Rattle.std.specs.Prelude.{sum_by}
use Rattle.std.specs.List.{flat_map}
use Rattle.std.specs.Option.{option_to_list}
use Rattle.std.proofs.lemmas.List.Sums.{sum_by-cons}
use Rattle.std.proofs.lemmas.List.Elements.{All-cons, All-head, All-tail, All-weaker}
use Rattle.deed_core.specs.Extent.{end_of}
use Rattle.deed_core.specs.Holding.{Holding}
use Rattle.deed_core.specs.Covering.{covers, covers_held, covers_tag, covering_held, covering_tags, units_held}
use Rattle.deed_core.proofs.LawProofs.{covers_is, sum_by-flat_map, sum_by-map}
use Rattle.slab_layer.specs.Slab.{SlabState, IsSlab, chunk_at, gap_of, tail_of, idle_chunks_by, chunks_out_by, deeds_in, items_where}
use Rattle.slab_layer.specs.Cache.{SlabCacheState, IsBelow, IsOfSize, IsSoundCache, chunk_of, chunk_tag, span_tag, deeds_of, chunks_out, span_tags, idle_deeds, gaps, tails}
use Rattle.slab_layer.proofs.PassingLemmas.{sum_by-items_where-cons}
use Rattle.slab_layer.proofs.ListLemmas.{both_nil}
use Rattle.slab_layer.proofs.MoveLemmas.{sum_by-kept, tile, slab_of_size}

-- what lies in the cache, by its parts
sums_of : (idle gap tail all : SlabState → ℕ) (slabs : List SlabState) → ((s : SlabState) → all s ≡ gap s + idle s + tail s) → sum_by idle slabs + sum_by gap slabs + sum_by tail slabs ≡ sum_by all slabs
sums_of idle gap tail all [] e = refl
sums_of idle gap tail all (s ∷ ss) e =
    let here = e s in
    let rest = sums_of idle gap tail all ss e in
    omega (arith, here, rest, sum_by-cons idle s ss, sum_by-cons gap s ss, sum_by-cons tail s ss, sum_by-cons all s ss)

pub kept_units : (c : SlabCacheState) → units_held (idle_deeds c) + units_held (gaps c) + units_held (tails c) ≡ units_held (deeds_of c)
kept_units c =
    let len : Holding → ℕ = λ h. h.range.len in
    let all = sums_of (λ s. sum_by len (idle_chunks_by (chunk_at s) s)) (λ s. sum_by len (option_to_list (gap_of s))) (λ s. sum_by len (option_to_list (tail_of s))) (λ s. sum_by len (deeds_in s)) c.slabs (λ s. sum_by-kept len s) in
    omega (arith, all, sum_by-flat_map len (λ s. idle_chunks_by (chunk_at s) s) c.slabs, sum_by-flat_map len (λ s. option_to_list (gap_of s)) c.slabs, sum_by-flat_map len (λ s. option_to_list (tail_of s)) c.slabs, sum_by-flat_map len deeds_in c.slabs)

-- the same chunks, seen in two ways
same_passing : {X Y : Type 0} (g : X → ℕ) (h : Y → ℕ) (f : ℕ → X) (e : ℕ → Y) (test : Bool → Bool) (i : ℕ) (xs : List Bool) → ((k : ℕ) → g (f k) ≡ h (e k)) → sum_by g (items_where test f i xs) ≡ sum_by h (items_where test e i xs)
same_passing g h f e test i [] same = refl
same_passing g h f e test i (x ∷ xs) same =
    let here = ap (λ (n : ℕ). if test x then n else 0) (same i) in
    let rest = same_passing g h f e test (i + 1) xs same in
    omega (arith, here, rest, sum_by-items_where-cons g test f i x xs, sum_by-items_where-cons h test e i x xs)

tiles : (u : ℕ) (c : SlabCacheState) (slabs : List SlabState) → All IsSlab slabs
    → sum_by (λ s. covering_held u (deeds_in s)) slabs + sum_by (λ s. covering_tags u (chunks_out_by (chunk_tag c.arena c.k s) s)) slabs ≡ sum_by (λ s. covers_tag u (span_tag c.arena s)) slabs
tiles u c [] all = refl
tiles u c (s ∷ ss) all =
    let here = tile u s (All-head IsSlab s ss all) in
    let seen : covering_tags u (chunks_out_by (chunk_tag c.arena c.k s) s) ≡ covering_held u (chunks_out_by (chunk_at s) s) = same_passing (covers_tag u) (covers_held u) (chunk_tag c.arena c.k s) (chunk_at s) not 0 s.home (λ k. refl) in
    let rest = tiles u c ss (All-tail IsSlab s ss all) in
    omega (arith, here, seen, rest, sum_by-cons (λ x. covering_held u (deeds_in x)) s ss, sum_by-cons (λ x. covering_tags u (chunks_out_by (chunk_tag c.arena c.k x) x)) s ss, sum_by-cons (λ x. covers_tag u (span_tag c.arena x)) s ss)

pub tiled : (c : SlabCacheState) → IsSoundCache c → (u : ℕ) → covering_held u (deeds_of c) + covering_tags u (chunks_out c) ≡ covering_tags u (span_tags c)
tiled c sound u =
    let all = tiles u c c.slabs (All-weaker (IsOfSize c.slab_size (chunk_of c)) IsSlab (λ s size. slab_of_size c s sound size) c.slabs sound.slabs) in
    omega (arith, all, sum_by-flat_map (covers_held u) deeds_in c.slabs, sum_by-flat_map (covers_tag u) (λ s. chunks_out_by (chunk_tag c.arena c.k s) s) c.slabs, sum_by-map (covers_tag u) (span_tag c.arena) c.slabs)

-- nothing lies in the cache exactly where nothing lies in any slab
pub none_kept : (slabs : List SlabState) → All (λ s. deeds_in s ≡ []) slabs → flat_map deeds_in slabs ≡ []
none_kept [] none = refl
none_kept (s ∷ ss) none = rw (All-head (λ x. deeds_in x ≡ []) s ss none, none_kept ss (All-tail (λ x. deeds_in x ≡ []) s ss none)) refl

pub kept_none : (slabs : List SlabState) → flat_map deeds_in slabs ≡ [] → All (λ s. deeds_in s ≡ []) slabs
kept_none [] none = λ k d within. absurd (omega arith)
kept_none (s ∷ ss) none =
    let parts = both_nil (deeds_in s) (flat_map deeds_in ss) none in
    All-cons (λ x. deeds_in x ≡ []) s ss parts.0 (kept_none ss parts.1)

-- slabs by ascending base have no unit in common
once_from : (u m : ℕ) (slabs : List SlabState) → All (λ s. m ≤ s.span.range.base) slabs → AllPairs IsBelow slabs
    → (sum_by (λ s. covers u s.span.range) slabs ≤ 1) × (u < m → sum_by (λ s. covers u s.span.range) slabs ≡ 0)
once_from u m [] above ascending = (omega arith, λ low. refl)
once_from u m (s ∷ ss) above ascending =
    let here = All-head (λ x. m ≤ x.span.range.base) s ss above in
    let next : All (λ x. end_of s.span.range ≤ x.span.range.base) ss = λ k d within. ascending 0 (suc k) d (omega arith) (omega arith) in
    let rest = once_from u (end_of s.span.range) ss next (λ i j d before within. ascending (suc i) (suc j) d (omega arith) (omega arith)) in
    let all = sum_by-cons (λ x. covers u x.span.range) s ss in
    elim (covers_is u s.span.range) [
      | inl in_it ↦ let none = rest.1 in_it.2 in (omega (arith, all, none, in_it.0), λ low. absurd (omega (arith, here, in_it.1)))
      | inr not_in ↦ (omega (arith, all, rest.0, not_in.0), λ low. let none = rest.1 (omega (arith, here)) in omega (arith, all, none, not_in.0))
    ]

pub once : (c : SlabCacheState) → IsSoundCache c → (u : ℕ) → covering_tags u (span_tags c) ≤ 1
once c sound u =
    let all = (once_from u 0 c.slabs (λ k d within. omega arith) sound.ascending).0 in
    omega (arith, all, sum_by-map (covers_tag u) (span_tag c.arena) c.slabs)
