-- The units in caches are those of the spans of slabs, and of chunks that are out.
use Rattle.std.proofs.Common.{◌≡◌, ℕ, ◌+◌, ◌*◌, ◌^◌, ◌≤◌, suc, List, [], ◌∷◌, ◌++◌, Some, length, filter, refl, sym, ap, subst, ◌∙◌, arith}
use Rattle.std.specs.Prelude.{slice_get, sum_by}
use Rattle.std.proofs.lemmas.List.{length-map}
use Rattle.std.proofs.lemmas.List.Elements.{All-weaker}
use Rattle.std.proofs.lemmas.List.Sums.{sum_by-append, sum_by-cons}
use Rattle.deed_core.specs.Covering.{covers_held, units_in, units_held}
use Rattle.deed_core.specs.Extent.{IsRange, end_of}
use Rattle.deed_core.specs.Holding.{Holding}
use Rattle.deed_core.specs.Selections.{came_direct}
use Rattle.deed_core.specs.Tag.{Tag}
use Rattle.deed_core.proofs.LawProofs.{sum_by-map, sum_by-flat_map, sum_alike, sum_add}
use Rattle.tag_arena.specs.ArenaState.{ranges_of, spans_of}
use Rattle.tag_arena.proofs.LawProofs.{spans_once}
use Rattle.slab_layer.specs.Cache.{span_tag, span_tags}
use Rattle.stock.specs.Setups.{plan_for}
use Rattle.stock.specs.Spaces.{SpaceState, QuantumCacheState, plan_of}
use Rattle.stock.specs.Sums.{held_of}
use Rattle.tag_arena.specs.Spanned.{holdings_of}
use Rattle.stock_audit.specs.Accounted.{IsAccountedFor}
use Rattle.stock_audit.specs.Audits.{sums_of_arena}
use Rattle.stock_audit.specs.Chains.{spans_of_slabs}
use Rattle.stock_audit.specs.Outside.{Outside, segments_out}
use Rattle.stock_audit.proofs.LawProofs.{audit_adds_up, allocated_is_out, exported_is_children}
use Rattle.lease_machine.specs.Picture.{held_outside}
use Rattle.lease_machine.specs.Operators.{cached_units}
use Rattle.lease_machine.specs.ReapLaws.{CachedUnitsFit}
use Rattle.lease_machine.proofs.Lengths.{as_long, few_units}
use Rattle.lease_machine.proofs.Takings.{slab_units, slab_units_of}

-- the spans of an arena's slabs, by length
spans_weigh : (s : SpaceState) → sum_by units_in (spans_of_slabs s) ≡ slab_units_of s
spans_weigh s = sum_by-flat_map units_in (λ (c : QuantumCacheState). holdings_of (span_tags c.slab)) s.caches ∙ sum_alike (λ (c : QuantumCacheState). sum_by units_in (holdings_of (span_tags c.slab))) slab_units s.caches (λ k c at. each c)
  where
    each : (c : QuantumCacheState) → sum_by units_in (holdings_of (span_tags c.slab)) ≡ slab_units c
    each c = sum_by-map units_in (λ (t : Tag). t.holding) (span_tags c.slab) ∙ sum_by-map (λ (t : Tag). units_in t.holding) (span_tag c.slab.arena) c.slab.slabs

-- what of an arena is out, and didn't come from a cache, and all that is out but rounds
direct_out : Outside → ℕ → ℕ
direct_out out k = units_held (held_of k (filter came_direct (segments_out out)))

not_rounds : Outside → ℕ → ℕ
not_rounds out k = units_held (held_of k out.leases) + units_held (held_of k out.hands)

abbrev in_caches : List SpaceState → Outside → SpaceState → ℕ
in_caches spaces out s = (sums_of_arena spaces out s).slab + (sums_of_arena spaces out s).magazine

module _ (spaces : List SpaceState) (out : Outside) (accounted : IsAccountedFor spaces out) where
  home : (k : ℕ) (s : SpaceState) → slice_get spaces k ≡ Some s → s.arena.id ≡ k
  home k s at = (accounted.parts k s at).id

  of_space : (k : ℕ) (s : SpaceState) → slice_get spaces k ≡ Some s → in_caches spaces out s + not_rounds out s.arena.id ≡ direct_out out s.arena.id + slab_units_of s
  unfolding direct_out not_rounds
  of_space k s at =
      let here : slice_get spaces s.arena.id ≡ Some s = ap (slice_get spaces) (home k s at) ∙ at in
      let all = audit_adds_up spaces out accounted k s at in
      let allocated = allocated_is_out spaces out accounted s.arena.id s here units_in in
      let exported = exported_is_children spaces out accounted s.arena.id s here units_in in
      let divided : units_held (s.arena.free ++ ranges_of s.arena.allocated) ≡ units_held (spans_of s.arena) =
      as_long (s.arena.free ++ ranges_of s.arena.allocated) (spans_of s.arena) (λ u. sum_by-append (covers_held u) s.arena.free (ranges_of s.arena.allocated) ∙ (accounted.parts k s at).sound.divided.covers u) in
      let parts = sum_by-append units_in s.arena.free (ranges_of s.arena.allocated) in
      omega (arith, all, allocated, exported, divided, parts, spans_weigh s)

  caches_weigh : sum_by (in_caches spaces out) spaces + sum_by (λ s. not_rounds out s.arena.id) spaces ≡ sum_by (λ s. direct_out out s.arena.id) spaces + sum_by slab_units_of spaces
  caches_weigh =
      let same = sum_alike (λ s. in_caches spaces out s + not_rounds out s.arena.id) (λ s. direct_out out s.arena.id + slab_units_of s) spaces of_space in
      let first = sum_add (in_caches spaces out) (λ s. not_rounds out s.arena.id) spaces in
      let second = sum_add (λ s. direct_out out s.arena.id) slab_units_of spaces in
      omega (arith, same, first, second)

-- what is weighed by the numbers of arenas alone
by_number : (f : ℕ → ℕ) (n : ℕ) (xs ys : List SpaceState) → length xs ≡ length ys → ((k : ℕ) (s : SpaceState) → slice_get xs k ≡ Some s → s.arena.id ≡ n + k) → ((k : ℕ) (s : SpaceState) → slice_get ys k ≡ Some s → s.arena.id ≡ n + k)
    → sum_by (λ (s : SpaceState). f s.arena.id) xs ≡ sum_by (λ (s : SpaceState). f s.arena.id) ys
by_number f n [] [] same first second = refl
by_number f n [] (y ∷ ys) same first second = absurd (omega (arith, same))
by_number f n (x ∷ xs) [] same first second = absurd (omega (arith, same))
by_number f n (x ∷ xs) (y ∷ ys) same first second =
    let one : x.arena.id ≡ y.arena.id = first 0 x refl ∙ sym (second 0 y refl) in
    let rest = by_number f (n + 1) xs ys (omega (arith, same)) (λ k s at. omega (arith, first (suc k) s at)) (λ k s at. omega (arith, second (suc k) s at)) in
    omega (arith, rest, ap f one, sum_by-cons (λ (s : SpaceState). f s.arena.id) x xs, sum_by-cons (λ (s : SpaceState). f s.arena.id) y ys)

-- where what is out is as it was, the units in caches went by as many as those of slabs
pub units_gone : (old new : List SpaceState) (out : Outside) (units : ℕ) → IsAccountedFor old out → IsAccountedFor new out → length new ≡ length old → sum_by slab_units_of old ≡ sum_by slab_units_of new + units
    → sum_by (in_caches old out) old ≡ sum_by (in_caches new out) new + units
units_gone old new out units before after same gone =
    let ids : (f : ℕ → ℕ) → sum_by (λ (s : SpaceState). f s.arena.id) new ≡ sum_by (λ (s : SpaceState). f s.arena.id) old = λ f. by_number f 0 new old same (λ k s at. omega (arith, home new out after k s at)) (λ k s at. omega (arith, home old out before k s at)) in
    omega (arith, caches_weigh old out before, caches_weigh new out after, ids (direct_out out), ids (not_rounds out), gone)

-- a sum of so many, none of which is greater
sum_most : {X : Type 0} (f : X → ℕ) (most : ℕ) (xs : List X) → ((k : ℕ) (x : X) → slice_get xs k ≡ Some x → f x ≤ most) → sum_by f xs ≤ most * length xs
sum_most f most [] each = omega arith
sum_most f most (x ∷ xs) each =
    let rest = sum_most f most xs (λ k y at. each (suc k) y at) in
    let times : most * suc (length xs) ≡ most * length xs + most = omega arith in
    omega (arith, rest, times, each 0 x refl, sum_by-cons f x xs)

pub cached_units_fit : CachedUnitsFit
cached_units_fit d held =
    let most = sum_most (in_caches d.spaces (held_outside d)) (2 ^ 62) d.spaces each in
    let count : length d.spaces ≡ length d.tree = sym (length-map d.spaces plan_of) ∙ (ap length held.plans ∙ length-map d.tree plan_for) in
    subst (λ n. cached_units d ≤ 2 ^ 62 * n) count most
  where
    each : (k : ℕ) (s : SpaceState) → slice_get d.spaces k ≡ Some s → in_caches d.spaces (held_outside d) s ≤ 2 ^ 62
    each k s at =
        let sound = (held.units.parts k s at).sound in
        let all = audit_adds_up d.spaces (held_outside d) held.units k s at in
        let few = few_units (2 ^ 62) (spans_of s.arena) (All-weaker (λ (h : Holding). IsRange h.range) (λ (h : Holding). end_of h.range ≤ 2 ^ 62) (λ h is. is.below) (spans_of s.arena) sound.divided.spans) (spans_once s.arena sound) in
        omega (arith, all, few)
