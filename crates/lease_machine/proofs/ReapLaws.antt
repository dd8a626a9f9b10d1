-- What a reaping comes to for a picture.
use Rattle.std.proofs.Common.{All, ◌≡◌, ℕ, ◌+◌, ◌-◌, ◌*◌, ◌<◌, ◌≤◌, zero, suc, List, [], ◌∷◌, ◌++◌, Some, None, Ok, drop, find, length, map, inl, inr, refl, sym, ap, subst, ◌∙◌, append_assoc, arith}
use Rattle.std.specs.Prelude.{slice_get}
use Rattle.std.proofs.lemmas.List.{append-nil, length-map}
use Rattle.deed_core.proofs.LawProofs.{all_from}
use Rattle.arena_tree.specs.declared.limits.TheConstants.{MOST_CACHES}
use Rattle.magazine_layer.specs.Depots.{DepotState, CanReap}
use Rattle.stock.specs.Setups.{plan_for}
use Rattle.stock.specs.Spaces.{SpaceState, QuantumCacheState, IsCacheAt, plan_of}
use Rattle.quantum_cache.specs.declared.reaps.Reaping.{Reaping}
use Rattle.quantum_cache.specs.Laws.{reap_left}
use Rattle.quantum_cache.specs.Reaps.{reap_plan}
use Rattle.quantum_cache.proofs.LawProofs.{reap_handles}
use Rattle.local_parts.specs.States.{LocalState}
use Rattle.local_calls.specs.Looks.{finds_in_spaces}
use Rattle.local_calls.specs.Reaped.{HasNoneToReap, NoneToReap}
use Rattle.local_calls.specs.Runs.{RunsTo}
use Rattle.local_calls.proofs.LawProofs.{reap_leaves_nothing, reap_takes_few_looks}
use Rattle.lease_machine.specs.Held.{with_parts}
use Rattle.lease_machine.specs.Moves.{ReturnAll, arenas_with, outlines_of, slab_outlines}
use Rattle.lease_machine.specs.Operators.{IsReapedOut, PartsAlone, ReapsAll, after_reap, cached_units, depots_of, depots_after_reap, outlines_after_reap, slabs_after_reap, spans_of_cache, spans_to_go}
use Rattle.lease_machine.specs.Picture.{NumberedCpu, Picture, SameSetup, held_outside, is_cpu, IsHeld}
use Rattle.lease_machine.specs.ReapLaws.{ReapedTo, ReapReaps, ReapsNone, ReapsSome, ReapingsAdd}
use Rattle.lease_machine.proofs.CachedUnits.{units_gone}
use Rattle.lease_machine.proofs.FreeLaws.{cpus_same, parts_are, selected_then}
use Rattle.lease_machine.proofs.HeldLaws.{local, reach, there_is}
use Rattle.lease_machine.proofs.ReapCaches.{no_rounds, none_goes, none_there}
use Rattle.lease_machine.proofs.ReapOrder.{Went, cache_count, goes_nothing, return_all_then, with_own}
use Rattle.lease_machine.proofs.ReapPlans.{reap_went}
use Rattle.lease_machine.proofs.ReapWalks.{Leaves, reap_leaves}
use Rattle.lease_machine.proofs.XallocLaws.{held_same}

-- what gives the same of each
map_alike : {X Y : Type 0} (f g : X → Y) (xs : List X) → ((k : ℕ) (x : X) → slice_get xs k ≡ Some x → f x ≡ g x) → map f xs ≡ map g xs
map_alike f g [] each = refl
map_alike f g (x ∷ xs) each = (let rest = map_alike f g xs (λ k y at. each (suc k) y at) in let first = each 0 x refl in λ i. first i ∷ rest i)

-- a depot of which nothing may be reaped is as reaping leaves it
settled : (d : DepotState) → ¬ CanReap d → d.empty_reapable ≡ 0 → after_reap d ≡ d
settled d none empty =
    let draining : d.draining ≡ [] = none_there d.draining (λ some. none (inl some)) in
    let old : d.old_full ≡ [] = none_there d.old_full (λ some. none (inr (inl some))) in
    let reapable : d.full_reapable ≡ 0 = by d.full_reapable (λ some. none (inr (inr some))) in
    let full : drop d.full_reapable d.full ≡ d.full = ap (λ n. drop n d.full) reapable in
    let left : d.empty - d.empty_reapable ≡ d.empty = omega (arith, empty) in
    λ i. record {
      size = d.size;
      full = full i;
      full_reapable = sym reapable i;
      empty = left i;
      empty_reapable = sym empty i;
      old_full = sym old i;
      draining = sym draining i;
    }
  where
    by : (n : ℕ) → ¬ (0 < n) → n ≡ 0
    by zero not_some = refl
    by (suc n) not_some = absurd (not_some (omega arith))

all_settled : (spaces : List SpaceState) → NoneToReap spaces → map depots_of spaces ≡ map depots_after_reap spaces
all_settled spaces none = map_alike depots_of depots_after_reap spaces (λ k s at. sym (in_space k s at))
  where
    in_space : (k : ℕ) (s : SpaceState) → slice_get spaces k ≡ Some s → depots_after_reap s ≡ depots_of s
    in_space k s at = each s.caches (λ j c among. none k j c (record { space = s; at = at; among = among }))
      where
        each : (cs : List QuantumCacheState) → ((j : ℕ) (c : QuantumCacheState) → slice_get cs j ≡ Some c → HasNoneToReap c) → map after_reap (map (λ (c : QuantumCacheState). c.depot) cs) ≡ map (λ (c : QuantumCacheState). c.depot) cs
        each [] has = refl
        each (c ∷ cs) has =
            let here = has 0 c refl in
            let first = settled c.depot here.rounds here.empty in
            let rest = each cs (λ j x among. has (suc j) x among) in
            λ i. first i ∷ rest i

all_out : (spaces : List SpaceState) → NoneToReap spaces → All (λ (s : SpaceState). All IsReapedOut s.caches) spaces
all_out spaces none = all_from (λ (s : SpaceState). All IsReapedOut s.caches) spaces (λ k s at. all_from IsReapedOut s.caches (λ j c among. (let has = none k j c (record { space = s; at = at; among = among }) in record { rounds = has.rounds; slabs = has.slabs })))

-- nothing goes, and all slabs stay
module _ (spaces : List SpaceState) (none : NoneToReap spaces) where
  nothing : (k j : ℕ) (c : QuantumCacheState) → IsCacheAt spaces k j c → (spans_of_cache c ≡ []) × (slabs_after_reap c ≡ slab_outlines c)
  nothing k j c there = let has = none k j c there in none_goes c (no_rounds c.depot has.rounds) has.slabs

  all_went : spans_to_go spaces ≡ []
  all_went = goes_nothing spaces (λ k j c there. (nothing k j c there).0)

  all_stay : map outlines_of spaces ≡ map outlines_after_reap spaces
  all_stay = map_alike outlines_of outlines_after_reap spaces (λ k s at. map_alike slab_outlines slabs_after_reap s.caches (λ j c among. sym (nothing k j c (record { space = s; at = at; among = among })).1))

-- so that what was reaped is all that was to be
some_is_all : (units : ℕ) (old new : Picture) → ReapsSome units old new → NoneToReap new.spaces → ReapsAll units old new
some_is_all units old new some none = record {
  parts = some.parts;
  units_are = some.units_are;
  depots = all_settled new.spaces none ∙ some.depots;
  slabs = all_stay new.spaces none ∙ some.slabs;
  returns = (
      let whole : some.went ≡ spans_to_go old.spaces = sym (some.first ∙ (ap (λ ts. some.went ++ ts) (all_went new.spaces none) ∙ append-nil some.went)) in
      subst (λ ts. ReturnAll ts (arenas_with old.spaces new.spaces) new.spaces) whole (subst (ReturnAll some.went (arenas_with old.spaces new.spaces)) (with_own new.spaces) (some.returns new.spaces))
      );
  left = all_out new.spaces none;
}

module _ (d : Picture) (limit : ℕ) (s : LocalState) (r : Reaping) (held : IsHeld [] d) (c : NumberedCpu) (found : find (is_cpu d.selected) d.cpus ≡ Some c) (run : RunsTo d.tree (reap_plan d.tree limit) (reach d d.selected c found None held) s (Ok r)) where
  abbrev was : LocalState
  was = reach d d.selected c found None held

  leaves : Leaves r.units was s
  leaves = reap_leaves d.tree limit r was s run

  went : Went d.spaces s.spaces
  went = reap_went d.tree held.tree limit r was s held.units.parts held.plans run

  after : IsHeld [] (with_parts s d) × SameSetup d (with_parts s d)
  after = held_same reap_left (reap_plan d.tree limit) d d.selected c found None held (reap_handles d.tree limit) s (Ok r) run leaves.cpu

  abbrev plain : Picture
  plain = record d { spaces = s.spaces }

  plain_is : plain ≡ with_parts s d
  plain_is =
      let cpus = sym (cpus_same d c found held.cpus.numbers s leaves.cpu) in
      λ i. record { tree = d.tree; spaces = s.spaces; cpus = cpus i; selected = d.selected; book = d.book }

  held_plain : IsHeld [] plain
  held_plain = subst (IsHeld []) (sym plain_is) after.0

  same_length : length s.spaces ≡ length d.spaces
  same_length = sym (length-map s.spaces cache_count) ∙ (ap length went.counts ∙ length-map d.spaces cache_count)

  units : cached_units d ≡ cached_units plain + r.units
  units = units_gone d.spaces s.spaces (held_outside d) r.units held.units held_plain.units same_length leaves.takes.weigh

  reaps_some : ReapsSome r.units d plain
  reaps_some = record { parts = refl; units_are = units; depots = leaves.takes.depots; slabs = went.slabs; went = went.went; first = went.first; returns = went.returns }

  looks : limit + finds_in_spaces s.spaces ≤ r.left + finds_in_spaces d.spaces + 2 * MOST_CACHES * length d.tree
  looks =
      let few = reap_takes_few_looks d.tree limit was s r (local d d.selected c found None held) run in
      let count : length d.spaces ≡ length d.tree = sym (length-map d.spaces plan_of) ∙ (ap length held.plans ∙ length-map d.tree plan_for) in
      omega (arith, few, count)

  pub reaped : ReapedTo limit d r s
  reaped = record {
    some = subst (ReapsSome r.units d) plain_is reaps_some;
    all = λ some. subst (ReapsAll r.units d) plain_is (some_is_all r.units d plain reaps_some (reap_leaves_nothing d.tree limit was s r (local d d.selected c found None held) run some));
    held = after.0;
    setup = after.1;
    parts = (let cpu = sym (selected_then d c found s) in λ i. record { spaces = s.spaces; cpu = cpu i });
    fewer = looks;
  }

pub reap_reaps : ReapReaps
reap_reaps d limit s r held run =
    let c = there_is (find (is_cpu d.selected) d.cpus) held.cpus.there in
    reaped d limit s r held c.0 c.1 (subst (λ (z : LocalState). RunsTo d.tree (reap_plan d.tree limit) z s (Ok r)) (parts_are d c.0 c.1) run)

-- one reaping after another
pub reaps_none : ReapsNone
reaps_none d = record { parts = refl; units_are = omega arith; depots = refl; slabs = refl; went = []; first = refl; returns = λ others. refl }

pub reapings_add : ReapingsAdd
reapings_add m n d e f one = (some, all)
  where
    parts_then : PartsAlone e f → PartsAlone d f
    parts_then second = second ∙ ap (λ (z : Picture). record z { spaces = f.spaces }) one.parts

    some : ReapsSome n e f → ReapsSome (m + n) d f
    some two = record {
      parts = parts_then two.parts;
      units_are = omega (arith, one.units_are, two.units_are);
      depots = two.depots ∙ one.depots;
      slabs = two.slabs ∙ one.slabs;
      went = one.went ++ two.went;
      first = one.first ∙ (ap (λ ts. one.went ++ ts) two.first ∙ sym (append_assoc one.went two.went (spans_to_go f.spaces)));
      returns = λ others. return_all_then one.went two.went (arenas_with d.spaces others) (arenas_with e.spaces others) (arenas_with f.spaces others) (one.returns others) (two.returns others);
    }

    all : ReapsAll n e f → ReapsAll (m + n) d f
    all two = record {
      parts = parts_then two.parts;
      units_are = omega (arith, one.units_are, two.units_are);
      depots = two.depots ∙ one.depots;
      slabs = two.slabs ∙ one.slabs;
      returns = subst (λ ts. ReturnAll ts (arenas_with d.spaces f.spaces) f.spaces) (sym one.first) (return_all_then one.went (spans_to_go e.spaces) (arenas_with d.spaces f.spaces) (arenas_with e.spaces f.spaces) f.spaces (one.returns f.spaces) two.returns);
      left = two.left;
    }
