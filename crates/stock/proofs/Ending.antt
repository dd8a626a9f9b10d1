-- A stock ends where nothing is out of it.
use Rattle.std.proofs.Common.{◌≡◌, ℕ, suc, zero, ◌+◌, ◌<◌, ◌≤◌, refl, sym, subst, ap, ◌∙◌, inl, inr, List, [], ◌∷◌, ◌++◌, map, length, All, Contains, Option, Some, None, arith}
use Rattle.std.specs.Prelude.{slice_get, sum_by}
use Rattle.std.proofs.lemmas.Bool.{cases_lt}
use Rattle.std.proofs.lemmas.Option.{slice_get_within}
use Rattle.std.proofs.lemmas.List.{append-nil}
use Rattle.std.proofs.lemmas.List.Elements.{All-contains}
use Rattle.std.proofs.lemmas.List.Sums.{sum_by-cons}
use Rattle.deed_core.specs.Extent.{IsRange}
use Rattle.std.specs.FinMap.{get}
use Rattle.deed_core.specs.Holding.{Holding}
use Rattle.deed_core.specs.Tag.{Tag}
use Rattle.deed_core.specs.Covering.{covering_held}
use Rattle.deed_core.specs.Selections.{came_direct}
use Rattle.deed_core.specs.Weights.{of_arena}
use Rattle.deed_core.proofs.LawProofs.{all_at, all_from, sum_none, part_of_sum, sum_by-parts}
use Rattle.tag_arena.specs.ArenaState.{ArenaState, IsSoundArena, spans_of, ranges_of, tags_of, direct_tag}
use Rattle.tag_arena.specs.Layout.{IsPartOf, IsRun, IsAllocated}
use Rattle.tag_arena.proofs.LawProofs.{goes_empty, allocated_stand, free_are_longest_runs}
use Rattle.slab_layer.specs.Cache.{chunks_out, span_tag, span_tags, chunk_tag}
use Rattle.slab_layer.specs.Slab.{SlabState, deeds_in, chunks_out_by}
use Rattle.slab_layer.proofs.LawProofs.{reaped_out_is_empty}
use Rattle.std.specs.List.{flat_map}
use Rattle.stock.specs.Spaces.{SpaceState, QuantumCacheState}
use Rattle.stock.specs.Stocks.{IsFrom, IsStock}
use Rattle.stock.specs.Accounts.{weight_allocated, weight_imported, slabs_in, chunks_in, rounds_in, slabs, chunks, rounds, Accounts, IsAccounted}
use Rattle.stock.specs.Endings.{IsBareCache, IsBare, IsReapedCache, IsReaped, IsTakenOut, EndsOnceReaped, EndsWithNothingOut}
use Rattle.stock.proofs.Exporting.{arena_there, allocated_of}
use Rattle.stock.proofs.Lengths.{as_long}
use Rattle.stock.proofs.Bare.{no_spans}

-- what weighs nothing is nothing
nothing : {X : Type 0} (xs : List X) → sum_by (λ x. 1) xs ≡ 0 → xs ≡ []
nothing [] none = refl
nothing (x ∷ xs) none = absurd (omega (arith, none, sum_by-cons (λ y. 1) x xs))

none_has : {X : Type 0} (xs : List X) (x : X) → xs ≡ [] → Contains xs x → ⊥
none_has xs x none has = omega (arith, has.1, ap (λ ys. length ys) none)

no_member : {X : Type 0} (xs : List X) → ((x : X) → Contains xs x → ⊥) → xs ≡ []
no_member [] out = refl
no_member (x ∷ xs) out = absurd (out x (0, omega arith, refl))

-- an arena of which nothing is allocated
module _ (a : ArenaState) (sound : IsSoundArena a) (none : tags_of a ≡ []) where
  not_allocated : (u : ℕ) → IsAllocated a.allocated u → ⊥
  not_allocated u al =
      let base = (sound.divided.whole.tags_inside al.0 al.1 al.2).0 in
      let stands = subst (λ b. get a.allocated b ≡ Some al.1) (sym base) al.2 in
      none_has (tags_of a) (direct_tag a.id al.1) none ((allocated_stand a (direct_tag a.id al.1) sound).1 (record { arena = refl; route = refl; stands = stands }))

  -- a free range is a whole span
  whole : (r : Holding) → Contains a.free r → Contains (spans_of a) r
  whole r has =
      let long = (free_are_longest_runs a sound r).0 has in
      let inside = long.run.inside in
      let s = inside.1 in
      let part : IsPartOf s r = inside.4 in
      let some : 0 < s.range.len = (All-contains (λ h. IsRange h.range) (spans_of a) s sound.divided.spans (inside.0, inside.2, inside.3)).some in
      let run : IsRun (spans_of a) a.allocated s = record { some = some; inside = (inside.0, s, inside.2, inside.3, record { root = refl; from = omega arith; to = omega arith }); free = λ u c al. not_allocated u al } in
      let same : s ≡ r = long.longest s run (record { from = part.from; to = part.to }) in
      subst (λ (h : Holding). Contains (spans_of a) h) same (inside.0, inside.2, inside.3)

  ranges_none : ranges_of a.allocated ≡ []
  ranges_none = no_map (ranges_of a.allocated) none
    where
      no_map : (hs : List Holding) → map (direct_tag a.id) hs ≡ [] → hs ≡ []
      no_map [] e = refl
      no_map (h ∷ hs) e = absurd (omega (arith, ap (λ (ts : List Tag). length ts) e))

  -- where no owned span is wholly free, there is no span
  pub no_span_left : All (λ h. ¬ Contains a.free h) a.owned → spans_of a ≡ []
  no_span_left taken =
      let own : a.imported ≡ [] = (goes_empty a sound none).0 in
      let spans : spans_of a ≡ a.owned = ap (λ (ts : List Tag). a.owned ++ map (λ (t : Tag). t.holding) ts) own ∙ append-nil a.owned in
      let free : a.free ≡ [] = no_member a.free (λ r has. All-contains (λ h. ¬ Contains a.free h) a.owned r taken (subst (λ (hs : List Holding). Contains hs r) spans (whole r has)) has) in
      no_spans a sound (sym (as_long [] (spans_of a) (λ u. omega (arith, sound.divided.covers u, ap (covering_held u) free, ap (covering_held u) ranges_none))))

pub from_lower : (o : Option ℕ) (t : Tag) (k : ℕ) → IsFrom o t → ((p : ℕ) → o ≡ Some p → p < k) → t.arena < k
from_lower None t k from before = absurd from
from_lower (Some p) t k from before = (let lt = before p refl in omega (arith, lt, from))

module _ (spaces : List SpaceState) (stock : IsStock spaces) (a : Accounts spaces []) (reaped : All IsReaped spaces) where
  cache_at : (k : ℕ) (s : SpaceState) → slice_get spaces k ≡ Some s → (j : ℕ) (c : QuantumCacheState) → slice_get s.caches j ≡ Some c → IsReapedCache c
  cache_at k s at j c among = all_at IsReapedCache s.caches j c (all_at IsReaped spaces k s reaped at) among

  no_rounds : (f : Tag → ℕ) → sum_by (rounds f) spaces ≡ 0
  no_rounds f = sum_none (rounds f) spaces (λ k s at. sum_none (rounds_in f) s.caches (λ j c among. ap (sum_by f) (cache_at k s at j c among).rounds))

  -- no chunk is out, so that no slab is left
  no_slab : (k : ℕ) (s : SpaceState) → slice_get spaces k ≡ Some s → (j : ℕ) (c : QuantumCacheState) → slice_get s.caches j ≡ Some c → c.slab.slabs ≡ []
  no_slab k s at j c among =
      let one : Tag → ℕ = λ t. 1 in
      reaped_out_is_empty c.slab (cache_at k s at j c among).slabs
      (nothing (chunks_out c.slab) (omega (arith, a.chunks_out one, no_rounds one, part_of_sum (chunks one) spaces k s at, part_of_sum (chunks_in one) s.caches j c among)))

  no_slabs : (f : Tag → ℕ) → sum_by (slabs f) spaces ≡ 0
  no_slabs f = sum_none (slabs f) spaces (λ k s at. sum_none (slabs_in f) s.caches (λ j c among. ap (λ (ss : List SlabState). sum_by f (map (span_tag c.slab.arena) ss)) (no_slab k s at j c among)))

  -- where no later arena has anything allocated, none imported from this one
  none_imported : (k : ℕ) → ((j : ℕ) (x : SpaceState) → slice_get spaces j ≡ Some x → k < j → tags_of x.arena ≡ [])
      → sum_by (weight_imported (of_arena k (λ t. 1))) spaces ≡ 0
  none_imported k above = sum_none (weight_imported (of_arena k (λ t. 1))) spaces (λ j x there.
      let is = stock j x there in
      elim (cases_lt k j) [
        | inl later ↦ ap (sum_by (of_arena k (λ t. 1))) (goes_empty x.arena is.sound (above j x there later)).0
        | inr before ↦ sum_none (of_arena k (λ t. 1)) x.arena.imported (λ i t here.
            let lt = from_lower x.source t j (all_at (IsFrom x.source) x.arena.imported i t is.imported here) is.before in
            arena_there k (λ y. 1) t (λ e. omega (arith, lt, e, before)))
      ])

  -- from the last arena down, none has anything allocated
  pub none_allocated : (m k : ℕ) (s : SpaceState) → slice_get spaces k ≡ Some s → length spaces ≤ k + m → tags_of s.arena ≡ []
  none_allocated zero k s at few = absurd (omega (arith, few, slice_get_within spaces k s at))
  none_allocated (suc m) k s at few =
      let one : Tag → ℕ = λ t. 1 in
      let above = none_imported k (λ j x there later. none_allocated m j x there (omega (arith, later, few))) in
      nothing (tags_of s.arena) (omega (arith, allocated_of spaces stock k s one at, a.exports (of_arena k one), no_slabs (of_arena k one), above))

pub ends_once_reaped : EndsOnceReaped
ends_once_reaped spaces accounted reaped taken = all_from IsBare spaces (λ k s at.
    let is = accounted.stock k s at in
    record {
      spans = no_span_left s.arena is.sound (none_allocated spaces accounted.stock accounted.accounts reaped (length spaces) k s at (omega arith)) (all_at IsTakenOut spaces k s taken at);
      caches = all_from IsBareCache s.caches (λ j c among. record {
        slab = ap (λ (ss : List SlabState). flat_map deeds_in ss) (no_slab spaces accounted.stock accounted.accounts reaped k s at j c among);
        depot = (cache_at spaces accounted.stock accounted.accounts reaped k s at j c among).rounds;
      });
    })

-- and the other way round
module _ (spaces : List SpaceState) (out : List Tag) (accounted : IsAccounted spaces out) (bare : All IsBare spaces) where
  bare_at : (k : ℕ) (s : SpaceState) → slice_get spaces k ≡ Some s → IsBare s
  bare_at k s at = all_at IsBare spaces k s bare at

  no_tags : (k : ℕ) (s : SpaceState) → slice_get spaces k ≡ Some s → tags_of s.arena ≡ []
  no_tags k s at = no_member (tags_of s.arena) (λ t has.
      let sound = (accounted.stock k s at).sound in
      let inside = (sound.divided.whole.tags_inside t.holding.range.base t.holding ((allocated_stand s.arena t sound).0 has).stands).2 in
      none_has (spans_of s.arena) inside.1 (bare_at k s at).spans (inside.0, inside.2, inside.3))

  no_allocated : (f : Tag → ℕ) → sum_by (weight_allocated f) spaces ≡ 0
  no_allocated f = sum_none (weight_allocated f) spaces (λ k s at. ap (sum_by f) (no_tags k s at))

  no_chunks : (f : Tag → ℕ) → sum_by (chunks f) spaces ≡ 0
  no_chunks f = sum_none (chunks f) spaces (λ k s at. sum_none (chunks_in f) s.caches (λ j c among.
      let one : Tag → ℕ = λ t. 1 in
      let tags : span_tags c.slab ≡ [] = nothing (span_tags c.slab) (omega (arith, no_allocated one, accounted.accounts.exports one, part_of_sum (slabs one) spaces k s at, part_of_sum (slabs_in one) s.caches j c among)) in
      ap (λ (ss : List SlabState). sum_by f (flat_map (λ x. chunks_out_by (chunk_tag c.slab.arena c.slab.k x) x) ss)) (no_slabs_by (span_tag c.slab.arena) c.slab.slabs tags)))
    where
      no_slabs_by : (g : SlabState → Tag) (ss : List SlabState) → map g ss ≡ [] → ss ≡ []
      no_slabs_by g [] e = refl
      no_slabs_by g (x ∷ ss) e = absurd (omega (arith, ap (λ (ts : List Tag). length ts) e))

  pub nothing_out : out ≡ []
  nothing_out =
      let one : Tag → ℕ = λ t. 1 in
      nothing out (omega (arith, no_allocated one, no_chunks one, accounted.accounts.exports one, accounted.accounts.chunks_out one, sum_by-parts came_direct one out))

pub ends_with_nothing_out : EndsWithNothingOut
ends_with_nothing_out spaces out accounted bare = nothing_out spaces out accounted bare
