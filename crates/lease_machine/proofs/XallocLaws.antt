-- What becomes of a constrained request.
-- what a list of steps leaves is held
use Rattle.arena_tree.specs.Plans.{Handles, Plan}
use Rattle.arena_tree.specs.declared.part_faults.PartFault.{PartFault}
use Rattle.tag_arena.specs.declared.faults.ArenaFault.{ArenaFault}
use Rattle.arena_tree.specs.declared.part_faults.PartFault.TheVariants as asking
use Rattle.tag_arena.specs.declared.faults.ArenaFault.TheVariants as carving
use Rattle.arena_tree.specs.declared.trees.TreeArena.{TreeArena}
use Rattle.deed_core.proofs.LawProofs.{mapped, slice_get_mapped}
use Rattle.deed_core.specs.Request.{Fits, IsGood, IsPlain}
use Rattle.deed_core.specs.Tag.{Tag}
use Rattle.deed_core.specs.declared.requests.Request.{Request}
use Rattle.lease_machine.proofs.ClimbSteps.{Carvings, carves_has, does_carve, quantum_at}
use Rattle.lease_machine.proofs.FreeLaws.{cpus_same, fits_before, parts_are, seen}
use Rattle.lease_machine.proofs.HeldLaws.{Everywhere, FitsIn, hands_of, held_then, reach, same_setup, there_is}
use Rattle.lease_machine.proofs.Lasting.{all_last, run_lasts}
use Rattle.lease_machine.specs.CallLaws.{IsCarvedFor, XallocCarves}
use Rattle.lease_machine.specs.Held.{with_caches_of, with_parts}
use Rattle.lease_machine.specs.Picture.{NumberedCpu, Picture, SameSetup, is_cpu, IsHeld}
use Rattle.local_calls.specs.Runs.{RunsTo}
use Rattle.local_parts.proofs.LawProofs.{plan_conserves, plan_keeps_setup, plan_keeps_stock}
use Rattle.local_parts.specs.SharedSteps.{DoesCarve}
use Rattle.local_parts.specs.States.{LocalState}
use Rattle.quantum_cache.proofs.LawProofs.{xalloc_handles}
use Rattle.quantum_cache.specs.Allocs.{xalloc_plan}
use Rattle.quantum_cache.specs.Laws.{carve_left}
use Rattle.std.proofs.Common.{Err, None, Ok, Option, Result, Some, [], ap, find, inl, inr, map, refl, slice_get, subst, sym, ℕ, ◌∙◌, ◌≡◌}
use Rattle.stock.specs.Setups.{plan_for}
use Rattle.stock.specs.Spaces.{SpaceState, plan_of, plans_of}
use Rattle.stock.specs.Stocks.{IsStock}

module _ {A : Type 0} (left : A → Option Tag) (p : Plan A) (d : Picture) (n : ℕ) (c : NumberedCpu) (found : find (is_cpu n) d.cpus ≡ Some c) (hand : Option Tag) (held : IsHeld (hands_of hand) d) (handles : Handles left p hand) (s : LocalState) (a : A) (run : RunsTo d.tree p (reach d n c found hand held) s a) where
  pub last_after : all_last s.spaces ≡ all_last d.spaces
  last_after = run_lasts d.tree p (reach d n c found hand held) s a run

  pub law_after : IsStock s.spaces
  law_after = plan_keeps_stock A p (reach d n c found hand held) s a (seen d.tree p (reach d n c found hand held) s a run) held.units.parts

  pub held_after : Everywhere (FitsIn s.spaces) s.cpu → IsHeld (hands_of (left a)) (record d { spaces = s.spaces; cpus = map (with_caches_of n s.cpu) d.cpus }) × SameSetup d (record d { spaces = s.spaces; cpus = map (with_caches_of n s.cpu) d.cpus })
  held_after fits =
      let was = reach d n c found hand held in
      let path = seen d.tree p was s a run in
      let conserves = plan_conserves A left p hand handles was s a path in
      let setup = plan_keeps_setup A p was s a path in (
        held_then d n c found hand held s (left a) law_after conserves setup last_after fits,
        same_setup d n c found hand held s (left a) law_after conserves setup last_after fits,
      )

  -- where the CPU's caches are as they were
  pub held_same : s.cpu ≡ c.caches → IsHeld (hands_of (left a)) (record d { spaces = s.spaces; cpus = map (with_caches_of n s.cpu) d.cpus }) × SameSetup d (record d { spaces = s.spaces; cpus = map (with_caches_of n s.cpu) d.cpus })
  held_same same = held_after (subst (λ rows. Everywhere (FitsIn s.spaces) rows) (sym same) (fits_before d n c found hand held s.spaces last_after))

module _ (d : Picture) (index : ℕ) (x : TreeArena) (q : Request) (s : LocalState) (held : IsHeld [] d) (here : slice_get d.tree index ≡ Some x) (c : NumberedCpu) (found : find (is_cpu d.selected) d.cpus ≡ Some c) where
  -- nothing changed
  pub picture_same : s.spaces ≡ d.spaces → s.cpu ≡ c.caches → with_parts s d ≡ d
  picture_same spaces cpu =
      let cpus = cpus_same d c found held.cpus.numbers s cpu in
      λ i. record { tree = d.tree; spaces = spaces i; cpus = cpus i; selected = d.selected; book = d.book }

  pub good_here : (P : ℕ → Type 0) (y : SpaceState) → slice_get d.spaces index ≡ Some y → P y.arena.quantum → P x.quantum
  good_here P y at is = subst P (quantum_at d.tree d.spaces index x y held.plans here at) is

  pub space_here : (y : SpaceState) × (slice_get d.spaces index ≡ Some y)
  space_here =
      let one : slice_get (plans_of d.spaces) index ≡ Some (plan_for x) = ap (λ ps. slice_get ps index) held.plans ∙ slice_get_mapped plan_for d.tree index x here in
      let m = mapped plan_of d.spaces index (plan_for x) one in
      (m.0, m.1)

  module _ (constrained : ¬ IsPlain q) (a : Result Tag (PartFault ArenaFault)) (run : RunsTo d.tree (xalloc_plan index q) (reach d d.selected c found None held) s a) where
    cpu_same : s.cpu ≡ c.caches
    cpu_same = ap (λ (z : LocalState). z.cpu) (sym run.3.0) ∙ run.2.step.does.1

    carvings : Carvings d.spaces s.spaces index q held.units.parts a
    carvings = subst (λ (z : LocalState). Carvings d.spaces z.spaces index q held.units.parts a) run.3.0 (does_carve d.spaces run.0.spaces index q held.units.parts a (subst (λ z. DoesCarve d.spaces index q z run.0.spaces) run.3.1 run.2.step.does.0))

    by : (b : Result Tag (PartFault ArenaFault)) → a ≡ b → Carvings d.spaces s.spaces index q held.units.parts b → IsCarvedFor index x q d b (with_parts s d)
    by (Ok t) is on =
        let after = held_same carve_left (xalloc_plan index q) d d.selected c found None held (xalloc_handles index q) s a run cpu_same in
        let home : on.space.arena.id ≡ index = (held.units.parts index on.space on.at).id in (
          good_here (λ n. IsGood n q) on.space on.at on.does.good,
          inr (inr (constrained, carves_has d.spaces s.spaces index q t held.units.parts on)),
          record {
            arena = ap (λ (z : Tag). z.arena) on.does.segment ∙ home;
            fits = good_here (λ n. Fits n q t.holding.range.base t.holding.range.len) on.space on.at on.does.fits;
            from = inl (constrained, on, cpus_same d c found held.cpus.numbers s cpu_same);
            names = (refl, refl);
          },
          subst (λ z. IsHeld (hands_of (carve_left z)) (with_parts s d)) is after.0,
          after.1,
        )
    by (Err (asking.Refused carving.BadRequest)) is on =
        let y = space_here in
        (good_here (λ n. ¬ IsGood n q) y.0 y.1 (on.0 y.0 y.1), picture_same on.1 cpu_same)
    by (Err (asking.Refused carving.NoFit)) is on =
        let y = space_here in (
          good_here (λ n. IsGood n q) y.0 y.1 (on.0 y.0 y.1),
          record {
            none = λ can. elim can [
              | inl cached ↦ constrained cached.0.0
              | inr more ↦ elim more [
                | inl plain ↦ constrained plain.0
                | inr has ↦ on.1 has.1
              ]
            ];
            spaces = on.2;
            cpus = inl (cpus_same d c found held.cpus.numbers s cpu_same);
            names = (refl, refl);
          },
          picture_same on.2 cpu_same,
        )
    by (Err (asking.Refused carving.NoMemory)) is on =
        let y = space_here in (
          good_here (λ n. IsGood n q) y.0 y.1 (on.0 y.0 y.1),
          inr (inr (constrained, on.1)),
          inl (constrained, inl on.2, cpus_same d c found held.cpus.numbers s cpu_same),
          picture_same on.2 cpu_same,
        )
    by (Err asking.Stopped) is on = on

    pub carved_for : IsCarvedFor index x q d a (with_parts s d)
    carved_for = by a refl carvings

pub xalloc_carves : XallocCarves
xalloc_carves d index x q s a held here constrained run =
    let c = there_is (find (is_cpu d.selected) d.cpus) held.cpus.there in
    carved_for d index x q s held here c.0 c.1 constrained a (subst (λ (z : LocalState). RunsTo d.tree (xalloc_plan index q) z s a) (parts_are d c.0 c.1) run)
