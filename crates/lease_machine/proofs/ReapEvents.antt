-- What the events of a reaping do to the units of slabs, and to depots.
use Rattle.std.proofs.Common.{◌≡◌, ℕ, ◌+◌, ◌-◌, ◌<◌, zero, suc, List, [], ◌∷◌, Option, Some, None, Result, Ok, map, drop, inl, inr, refl, sym, ap, subst, ◌∙◌, arith}
use Rattle.std.specs.Prelude.{slice_get, sum_by}
use Rattle.std.specs.List.{remove}
use Rattle.std.proofs.lemmas.List.Sums.{sum_by-cons}
use Rattle.deed_core.proofs.LawProofs.{slice_get_here, sum_by-map}
use Rattle.deed_core.specs.Tag.{Tag}
use Rattle.slab_layer.specs.Cache.{SlabCacheState}
use Rattle.slab_layer.specs.Calls.{ReapOf, Reaps}
use Rattle.slab_layer.specs.Slab.{SlabState}
use Rattle.magazine_layer.specs.Calls.{DepotReapOf}
use Rattle.magazine_layer.specs.Depots.{DepotState, Begins, after_trim}
use Rattle.arena_tree.specs.declared.part_faults.GivenFault.{GivenFault}
use Rattle.slab_layer.specs.declared.faults.PutFault.{PutFault}
use Rattle.arena_tree.specs.declared.part_faults.Stopped.{Stopped}
use Rattle.stock.specs.Spaces.{SpaceState, with_depot, with_slab}
use Rattle.local_parts.specs.SharedSteps.{DoesFree, DoesPut, DoesReap, DoesDepotReap}
use Rattle.lease_machine.specs.Moves.{outline_of}
use Rattle.lease_machine.specs.Operators.{after_reap}
use Rattle.lease_machine.proofs.DrainLaws.{put_outline}
use Rattle.lease_machine.proofs.Takings.{Takes, takes_none, cache_takes, arena_takes, span_units, slab_units}

same_takes : (old new : List SpaceState) → new ≡ old → Takes 0 old new
same_takes old new same = subst (Takes 0 old) (sym same) (takes_none old)

pub free_takes : (old new : List SpaceState) (t : Tag) (a : Result (Option Tag) (GivenFault Tag Tag)) → DoesFree old t a new → Takes 0 old new
free_takes old new t a does = elim does.2 [
  | inl on ↦ arena_takes old new t.arena on.space on.arena on.at on.after
  | inr none ↦ same_takes old new none.2
]

-- a chunk that is put back leaves the outlines
outline_units : (xs : List SlabState) → sum_by span_units (map outline_of xs) ≡ sum_by span_units xs
outline_units xs = sum_by-map span_units outline_of xs

pub put_takes : (old new : List SpaceState) (t : Tag) (a : Result (Unit {0}) (GivenFault (PutFault Tag) Tag)) → DoesPut old t a new → Takes 0 old new
put_takes old new t a does = elim does.2 [
  | inl on ↦
      let o = on.2 in
      let same = put_outline t does.0 o.cache.slab o.slab o.does in
      let slabs : map outline_of o.slab.slabs ≡ map outline_of o.cache.slab.slabs = ap (λ (z : SlabCacheState). z.slabs) same in
      let weigh : slab_units o.cache ≡ slab_units (with_slab o.slab o.cache) + 0 =
      omega (arith, outline_units o.slab.slabs, outline_units o.cache.slab.slabs, ap (sum_by span_units) slabs) in
      cache_takes old new t.arena on.0 o.space o.cache (with_slab o.slab o.cache) o.at o.among o.after 0 weigh refl
  | inr none ↦ same_takes old new none.2
]

-- reaping leaves of a depot what it left of it before
drop_one : {X : Type 0} (n : ℕ) (x : X) (xs : List X) → 0 < n → drop n (x ∷ xs) ≡ drop (n - 1) xs
drop_one zero x xs some = absurd (omega (arith, some))
drop_one (suc n) x xs some = let e : suc n - 1 ≡ n = omega arith in ap (λ m. drop m xs) (sym e)

begins_alike : (d e : DepotState) → Begins d e → after_reap e ≡ after_reap d
begins_alike d e begins = elim begins [
  | inl same ↦ ap after_reap same.1
  | inr more ↦ elim more [
    | inl old ↦ ap after_reap old.rest
    | inr full ↦
        let left : drop (d.full_reapable - 1) e.full ≡ drop d.full_reapable d.full = sym (ap (drop d.full_reapable) full.oldest ∙ drop_one d.full_reapable e.draining e.full full.some) in
        ap after_reap full.rest ∙ ap (λ xs. record d { full = xs; full_reapable = 0; empty = d.empty - d.empty_reapable; empty_reapable = 0; old_full = []; draining = [] }) left
  ]
]

trim_alike : (d : DepotState) → after_reap (after_trim d) ≡ after_reap d
trim_alike d =
    let same : d.empty - d.empty_reapable - 0 ≡ d.empty - d.empty_reapable = omega arith in
    ap (λ n. record d { full = drop d.full_reapable d.full; full_reapable = 0; empty = n; empty_reapable = 0; old_full = []; draining = [] }) same

reap_alike : (r : Option Tag) (d e : DepotState) → DepotReapOf d r e → after_reap e ≡ after_reap d
reap_alike (Some t) d e is = ap after_reap is.2.rest ∙ (begins_alike (after_trim d) is.0 is.1 ∙ trim_alike d)
reap_alike None d e is = ap after_reap is.1 ∙ trim_alike d

pub depot_takes : (old new : List SpaceState) (k c : ℕ) (a : Result (Option Tag) Stopped) → DoesDepotReap old k c a new → Takes 0 old new
depot_takes old new k c a does = elim does.2 [
  | inl on ↦
      let o = on.2 in
      cache_takes old new k on.0 o.space o.cache (with_depot o.depot o.cache) o.at o.among o.after 0 (omega arith) (reap_alike does.0 o.cache.depot o.depot o.does)
  | inr none ↦ same_takes old new none.1.1
]

-- what is left weighs so much less
removed_weighs : (xs : List SlabState) (i : ℕ) (s : SlabState) → slice_get xs i ≡ Some s → sum_by span_units xs ≡ sum_by span_units (remove xs i) + span_units s
removed_weighs [] i s at = absurd (let e : None ≡ Some s = at in cc)
removed_weighs (x ∷ xs) zero s at =
    let is : x ≡ s = (let e : Some x ≡ Some s = at in cc) in
    omega (arith, ap span_units is, sum_by-cons span_units x xs)
removed_weighs (x ∷ xs) (suc i) s at = let rest = removed_weighs xs i s at in omega (arith, rest, sum_by-cons span_units x xs, sum_by-cons span_units x (remove xs i))

slab_weighs : (c new : SlabCacheState) (t : Tag) (i : ℕ) (s : SlabState) → Reaps i s c new t → sum_by span_units c.slabs ≡ sum_by span_units new.slabs + t.holding.range.len
slab_weighs c new t i s did =
    let stood : slice_get c.slabs i ≡ Some s = slice_get_here c.slabs i s did.lowest.stands.within (sym did.lowest.stands.is) in
    omega (arith, removed_weighs c.slabs i s stood, ap (λ (z : SlabCacheState). sum_by span_units z.slabs) did.after, ap (λ (z : Tag). z.holding.range.len) did.tag)

module _ (old new : List SpaceState) (k c : ℕ) where
  pub slab_none_takes : DoesReap old k c (Ok None) new → Takes 0 old new
  slab_none_takes does = elim does.2 [
    | inl on ↦
        let o = on.2 in
        let did : ReapOf o.cache.slab None o.slab = subst (λ r. ReapOf o.cache.slab r o.slab) nothing o.does in
        let weigh : slab_units o.cache ≡ slab_units (with_slab o.slab o.cache) + 0 = omega (arith, ap (λ (z : SlabCacheState). sum_by span_units z.slabs) did.1) in
        cache_takes old new k on.0 o.space o.cache (with_slab o.slab o.cache) o.at o.among o.after 0 weigh refl
    | inr none ↦ same_takes old new none.1.1
  ]
    where
      nothing : does.0 ≡ None
      nothing = let e : Ok None ≡ Ok does.0 = does.1 in cc

  pub slab_some_takes : (t : Tag) → DoesReap old k c (Ok (Some t)) new → Takes t.holding.range.len old new
  slab_some_takes t does = elim does.2 [
    | inl on ↦
        let o = on.2 in
        let did : (i : ℕ) × (s : SlabState) × Reaps i s o.cache.slab o.slab t = subst (λ r. ReapOf o.cache.slab r o.slab) something o.does in
        cache_takes old new k on.0 o.space o.cache (with_slab o.slab o.cache) o.at o.among o.after t.holding.range.len
        (slab_weighs o.cache.slab o.slab t did.0 did.1 did.2) refl
    | inr none ↦ absurd (let e : Some t ≡ None = sym something ∙ none.1.0 in cc)
  ]
    where
      something : does.0 ≡ Some t
      something = let e : Ok (Some t) ≡ Ok does.0 = does.1 in cc
