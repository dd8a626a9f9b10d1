-- What is left of arenas of which nothing is leased and nothing cached.
use Rattle.std.proofs.Common.{◌≡◌, ℕ, suc, zero, ◌+◌, ◌<◌, ◌≤◌, Bool, true, false, refl, sym, subst, ap, ◌∙◌, List, [], ◌∷◌, ◌++◌, map, length, get_or, Contains, Option, Some, None, arith}
use Rattle.std.specs.Prelude.{slice_get, sum_by, filter, cond}
use Rattle.std.specs.FinMap.{get}
use Rattle.std.proofs.lemmas.Option.{slice_get_within}
use Rattle.std.proofs.lemmas.Bool.Decides.{Decides-eqb}
use Rattle.std.proofs.lemmas.List.{length-append, get_or_append_left}
use Rattle.std.proofs.lemmas.List.Elements.{All-contains}
use Rattle.std.proofs.lemmas.List.Sums.{sum_by-cons}
use Rattle.deed_core.specs.Extent.{IsRange}
use Rattle.deed_core.specs.Holding.{Holding}
use Rattle.deed_core.specs.Tag.{Tag}
use Rattle.deed_core.specs.Weights.{weight_where, of_cached}
use Rattle.deed_core.specs.Selections.{came_direct}
use Rattle.deed_core.proofs.LawProofs.{all_at, sum_none, part_of_sum, sum_by-filter, sum_by-flat_map}
use Rattle.tag_arena.specs.ArenaState.{ArenaState, IsSoundArena, spans_of, ranges_of, tags_of, direct_tag}
use Rattle.tag_arena.specs.Layout.{IsRun}
use Rattle.tag_arena.proofs.LawProofs.{goes_empty, allocated_stand}
use Rattle.slab_layer.specs.Slab.{SlabState}
use Rattle.slab_layer.specs.Cache.{chunks_out, span_tag, span_tags}
use Rattle.slab_layer.proofs.LawProofs.{reaped_out_is_empty}
use Rattle.stock.specs.Spaces.{SpaceState, QuantumCacheState}
use Rattle.stock.specs.Accounts.{chunks, chunks_in, rounds, rounds_in}
use Rattle.stock.specs.Endings.{IsReaped, IsReapedCache}
use Rattle.stock.specs.Sums.{held_of}
use Rattle.tag_arena.specs.Spanned.{holdings_of}
use Rattle.stock_audit.specs.Outside.{segments_out}
use Rattle.stock.specs.OwnCaches.{all_own_rounds}
use Rattle.stock_audit.specs.Chains.{is_source, is_child_of, spans_of_children, spans_of_slabs}
use Rattle.stock_audit.proofs.LawProofs.{allocated_is_out}
use Rattle.lease_machine.specs.Picture.{Picture, IsPicture, held_outside}
use Rattle.lease_machine.specs.RoomLaws.{NothingIsKept}

one : {X : Type 0} → X → ℕ
one x = 1

-- what weighs nothing is nothing
nothing : {X : Type 0} (xs : List X) → sum_by (λ x. 1) xs ≡ 0 → xs ≡ []
nothing [] none = refl
nothing (x ∷ xs) none = absurd (omega (arith, none, sum_by-cons (λ y. 1) x xs))

child_source : (o : Option ℕ) (k : ℕ) → is_source k o ≡ true → o ≡ Some k
child_source None k is = absurd (let e : false ≡ true = is in cc)
child_source (Some q) k is = ap Some ((Decides-eqb q k).0 is)

only_none : {X : Type 0} (test : X → Bool) (f : X → ℕ) (x : X) → (test x ≡ true → f x ≡ 0) → weight_where test f x ≡ 0
only_none test f x none = by (test x) none
  where
    by : (b : Bool) → (b ≡ true → f x ≡ 0) → cond b (f x) 0 ≡ 0
    by true none = none refl
    by false none = refl

module _ (d : Picture) (is : IsPicture d) (kept : NothingIsKept d) where
  all_in : segments_out (held_outside d) ≡ []
  all_in = ap (λ (ts : List Tag). ts ++ all_own_rounds (held_outside d).cpus) kept.leases ∙ kept.rounds

  cache_at : (k : ℕ) (s : SpaceState) → slice_get d.spaces k ≡ Some s → (j : ℕ) (c : QuantumCacheState) → slice_get s.caches j ≡ Some c → IsReapedCache c
  cache_at k s at j c among = all_at IsReapedCache s.caches j c (all_at IsReaped d.spaces k s kept.reaped at) among

  no_rounds : (f : Tag → ℕ) → sum_by (rounds f) d.spaces ≡ 0
  no_rounds f = sum_none (rounds f) d.spaces (λ k s at. sum_none (rounds_in f) s.caches (λ j c among. ap (sum_by f) (cache_at k s at j c among).rounds))

  -- no chunk is out, so that there is no slab
  no_slab : (k : ℕ) (s : SpaceState) → slice_get d.spaces k ≡ Some s → (j : ℕ) (c : QuantumCacheState) → slice_get s.caches j ≡ Some c → c.slab.slabs ≡ []
  no_slab k s at j c among =
      let f : Tag → ℕ = λ t. 1 in
      let total : sum_by (chunks f) d.spaces ≡ sum_by (of_cached f) (segments_out (held_outside d)) + sum_by (rounds f) d.spaces = is.held.units.accounts.chunks_out f in
      let none : sum_by (of_cached f) (segments_out (held_outside d)) ≡ 0 = ap (sum_by (of_cached f)) all_in in
      reaped_out_is_empty c.slab (cache_at k s at j c among).slabs
      (nothing (chunks_out c.slab) (omega (arith, total, none, no_rounds f, part_of_sum (chunks f) d.spaces k s at, part_of_sum (chunks_in f) s.caches j c among)))

  no_slabs : (k : ℕ) (s : SpaceState) → slice_get d.spaces k ≡ Some s → (f : Holding → ℕ) → sum_by f (spans_of_slabs s) ≡ 0
  no_slabs k s at f = sum_by-flat_map f (λ (c : QuantumCacheState). holdings_of (span_tags c.slab)) s.caches
      ∙ sum_none (λ (c : QuantumCacheState). sum_by f (holdings_of (span_tags c.slab))) s.caches (λ j c among.
      ap (λ (ss : List SlabState). sum_by f (holdings_of (map (span_tag c.slab.arena) ss))) (no_slab k s at j c among))

  no_tags : (a : ArenaState) → ranges_of a.allocated ≡ [] → tags_of a ≡ []
  no_tags a none = ap (map (direct_tag a.id)) none

  -- where no later arena has anything allocated, none has a span of this one
  no_children : (k : ℕ) → ((j : ℕ) (x : SpaceState) → slice_get d.spaces j ≡ Some x → k < j → ranges_of x.arena.allocated ≡ []) → (f : Holding → ℕ) → sum_by f (spans_of_children k d.spaces) ≡ 0
  no_children k above f =
      let weigh : SpaceState → ℕ = λ x. sum_by f (spans_of x.arena) in
      sum_by-flat_map f (λ (x : SpaceState). spans_of x.arena) (filter (is_child_of k) d.spaces)
      ∙ sum_by-filter (is_child_of k) weigh d.spaces
      ∙ sum_none (weight_where (is_child_of k) weigh) d.spaces (λ j x at. only_none (is_child_of k) weigh x (λ child.
      let from : x.source ≡ Some k = child_source x.source k child in
      let part = is.held.units.parts j x at in
      let own : x.arena.owned ≡ [] = part.owned k from in
      let none : x.arena.imported ≡ [] = (goes_empty x.arena part.sound (no_tags x.arena (above j x at (part.before k from)))).0 in
      ap (λ (hs : List Holding). sum_by f (hs ++ map (λ (t : Tag). t.holding) x.arena.imported)) own ∙ ap (λ (ts : List Tag). sum_by f (map (λ (t : Tag). t.holding) ts)) none))

  -- from the last arena down, none has anything allocated
  none_allocated : (m k : ℕ) (s : SpaceState) → slice_get d.spaces k ≡ Some s → length d.spaces ≤ k + m → ranges_of s.arena.allocated ≡ []
  none_allocated zero k s at few = absurd (omega (arith, few, slice_get_within d.spaces k s at))
  none_allocated (suc m) k s at few =
      let f : Holding → ℕ = λ h. 1 in
      let children = no_children k (λ j x there later. none_allocated m j x there (omega (arith, later, few))) f in
      let out : sum_by f (held_of k (filter came_direct (segments_out (held_outside d)))) ≡ 0 = ap (λ (ts : List Tag). sum_by f (held_of k (filter came_direct ts))) all_in in
      nothing (ranges_of s.arena.allocated) (omega (arith, allocated_is_out d.spaces (held_outside d) is.held.units k s at f, out, no_slabs k s at f, children))

  -- so each span is a run of free units
  pub span_is_run : (k : ℕ) (s : SpaceState) → slice_get d.spaces k ≡ Some s → (span : Holding) → Contains s.arena.owned span → IsRun (spans_of s.arena) s.arena.allocated span
  span_is_run k s at span own =
      let sound : IsSoundArena s.arena = (is.held.units.parts k s at).sound in
      let none : tags_of s.arena ≡ [] = no_tags s.arena (none_allocated (length d.spaces) k s at (omega arith)) in
      let more : List Holding = map (λ (t : Tag). t.holding) s.arena.imported in
      let within : own.0 < length (spans_of s.arena) = omega (arith, own.1, length-append s.arena.owned more) in
      let here : get_or (spans_of s.arena) own.0 span ≡ span = get_or_append_left s.arena.owned more span own.0 own.1 ∙ own.2 in
      let among : Contains (spans_of s.arena) span = (own.0, within, here) in
      record {
        some = (All-contains (λ h. IsRange h.range) (spans_of s.arena) span sound.divided.spans among).some;
        inside = (own.0, span, within, here, record { root = refl; from = omega arith; to = omega arith });
        free = λ u over taken. (
            let base = (sound.divided.whole.tags_inside taken.0 taken.1 taken.2).0 in
            let stands = subst (λ b. get s.arena.allocated b ≡ Some taken.1) (sym base) taken.2 in
            let has : Contains (tags_of s.arena) (direct_tag s.arena.id taken.1) = (allocated_stand s.arena (direct_tag s.arena.id taken.1) sound).1 (record { arena = refl; route = refl; stands = stands }) in
            omega (arith, has.1, ap (λ (ts : List Tag). length ts) none)
            );
      }
