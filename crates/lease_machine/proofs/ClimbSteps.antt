-- What a carve and a climb come to.
-- the arenas' quanta are the tree's
use Rattle.arena_tree.proofs.LawProofs.{path_split}
use Rattle.arena_tree.specs.Chains.{amount_of}
use Rattle.arena_tree.specs.Climbs.{ClimbEnd, ReturnEnd, climb_plan, give_back_plan, on_add, on_carve, on_free, on_import, memory_refusal, return_plan}
use Rattle.arena_tree.specs.Events.{AddCarve, Carve}
use Rattle.arena_tree.specs.Plans.{Done}
use Rattle.arena_tree.specs.Trees.{nodes_of}
use Rattle.arena_tree.specs.declared.levels.Level.{Level}
use Rattle.arena_tree.specs.declared.part_faults.PartFault.{PartFault}
use Rattle.arena_tree.specs.declared.part_faults.GivenFault.{GivenFault}
use Rattle.arena_tree.specs.declared.part_faults.PartFault.TheVariants as asking
use Rattle.arena_tree.specs.declared.part_faults.GivenFault.TheVariants as giving
use Rattle.tag_arena.specs.declared.faults.SpanFault.TheVariants as adding
use Rattle.arena_tree.specs.declared.trees.TreeArena.{TreeArena}
use Rattle.deed_core.proofs.LawProofs.{set_same, slice_get_mapped, slice_get_one}
use Rattle.deed_core.specs.Request.{IsGood, plain_of}
use Rattle.deed_core.specs.Tag.{Tag}
use Rattle.deed_core.specs.declared.requests.Request.{Request}
use Rattle.lease_machine.proofs.Focus.{there}
use Rattle.lease_machine.proofs.FreeLaws.{returns_so}
use Rattle.local_calls.specs.NoFits.{HasBase, HasBaseUp}
use Rattle.lease_machine.specs.Moves.{CarvesAt, Climbs, ClimbsInVain, ImportsAt, Returns}
use Rattle.local_calls.specs.Runs.{RunsTo, SoundStep}
use Rattle.local_parts.specs.SharedSteps.{DoesCarve}
use Rattle.local_parts.specs.States.{LocalState}
use Rattle.arena_tree.specs.Tags.{wording_of}
use Rattle.std.proofs.Common.{Err, List, None, Ok, Option, Result, Some, [], ap, inl, inr, refl, set, slice_get, subst, sym, ℕ, ◌∙◌, ◌∷◌, ◌≡◌, ◌⊎◌}
use Rattle.stock.specs.Setups.{plan_for, plans_for}
use Rattle.stock.specs.Spaces.{SpacePlan, SpaceState, plan_of, plans_of, with_arena}
use Rattle.stock.specs.Steps.{OnArena}
use Rattle.stock.specs.Stocks.{IsStock}
use Rattle.tag_arena.proofs.LawProofs.{carves_exactly, choice_serves}
use Rattle.tag_arena.specs.ArenaState.{ArenaState}
use Rattle.tag_arena.specs.Outcomes.{CarveOf, ImportOf, WasImported}
use Rattle.tag_arena.specs.Place.{Serves}
use Rattle.tag_arena.specs.declared.faults.ArenaFault.{ArenaFault}
use Rattle.tag_arena.specs.declared.faults.SpanFault.{SpanFault}
use Rattle.tag_arena.specs.declared.faults.ArenaFault.TheVariants as arena_fault
use Rattle.arena_tree.specs.declared.part_faults.ClimbFault.TheVariants as climbing
use Rattle.arena_tree.specs.declared.part_faults.ReturnFault.TheVariants as returning

pub quantum_at : (tree : List TreeArena) (spaces : List SpaceState) (k : ℕ) (x : TreeArena) (s : SpaceState) → plans_of spaces ≡ plans_for tree → slice_get tree k ≡ Some x → slice_get spaces k ≡ Some s → s.arena.quantum ≡ x.quantum
quantum_at tree spaces k x s plans here at =
    let one : slice_get (plans_of spaces) k ≡ Some (plan_of s) = slice_get_mapped plan_of spaces k s at in
    let two : slice_get (plans_of spaces) k ≡ Some (plan_for x) = ap (λ ps. slice_get ps k) plans ∙ slice_get_mapped plan_for tree k x here in
    ap (λ (p : SpacePlan). p.quantum) (slice_get_one (plans_of spaces) k (plan_of s) (plan_for x) one two)

-- a carve by its answer
module _ (old new : List SpaceState) (k : ℕ) (q : Request) (law : IsStock old) where
  abbrev pub Carvings : Result Tag (PartFault ArenaFault) → Type 0
  Carvings (Ok t) = CarvesAt k q t old new
  Carvings (Err (asking.Refused arena_fault.BadRequest)) = ((s : SpaceState) → slice_get old k ≡ Some s → ¬ IsGood s.arena.quantum q) × (new ≡ old)
  Carvings (Err (asking.Refused arena_fault.NoFit)) = ((s : SpaceState) → slice_get old k ≡ Some s → IsGood s.arena.quantum q) × (¬ HasBase old k q) × (new ≡ old)
  Carvings (Err (asking.Refused arena_fault.NoMemory)) = ((s : SpaceState) → slice_get old k ≡ Some s → IsGood s.arena.quantum q) × HasBase old k q × (new ≡ old)
  Carvings (Err asking.Stopped) = ⊥

  same_arena : (P : ArenaState → ArenaState → Type 0) (on : OnArena k P old new) → on.arena ≡ on.space.arena → new ≡ old
  same_arena P on is = on.after ∙ (ap (λ a. set old k (with_arena a on.space)) is ∙ set_same old k on.space on.at)

  carved_so : (r : Result Tag ArenaFault) → OnArena k (λ a b. CarveOf a q r b) old new → Carvings (wording_of asking.Refused r)
  carved_so (Ok t) on = record { space = on.space; at = on.at; arena = on.arena; after = on.after; does = on.does }
  carved_so (Err arena_fault.BadRequest) on =
      let bad = (carves_exactly on.space.arena on.arena q (Err arena_fault.BadRequest) (law k on.space on.at).sound on.does).bad.0 refl in
      ((λ s at. subst (λ (z : SpaceState). ¬ IsGood z.arena.quantum q) (slice_get_one old k on.space s on.at at) bad), same_arena _ on on.does.1)
  carved_so (Err arena_fault.NoFit) on =
      let none = (carves_exactly on.space.arena on.arena q (Err arena_fault.NoFit) (law k on.space on.at).sound on.does).none.0 refl in (
        (λ s at. subst (λ (z : SpaceState). IsGood z.arena.quantum q) (slice_get_one old k on.space s on.at at) none.0),
        (λ has. none.1 has.2.0 (subst (λ (z : SpaceState). Serves z.arena.quantum q z.arena.free has.2.0) (slice_get_one old k has.0 on.space has.1 on.at) has.2.1)),
        same_arena _ on on.does.1,
      )
  carved_so (Err arena_fault.NoMemory) on =
      let some = (carves_exactly on.space.arena on.arena q (Err arena_fault.NoMemory) (law k on.space on.at).sound on.does).some.0 (inr refl) in (
        (λ s at. subst (λ (z : SpaceState). IsGood z.arena.quantum q) (slice_get_one old k on.space s on.at at) some.0),
        (on.space, on.at, some.1),
        same_arena _ on on.does.1,
      )

  pub does_carve : (a : Result Tag (PartFault ArenaFault)) → DoesCarve old k q a new → Carvings a
  does_carve a does = subst Carvings (sym does.1) (carved_so does.0 does.2)

-- what was carved had a base, and is good
pub carves_has : (old new : List SpaceState) (k : ℕ) (q : Request) (t : Tag) → IsStock old → CarvesAt k q t old new → HasBase old k q
carves_has old new k q t law on = (on.space, on.at, (t.holding.range.base, choice_serves on.space.arena q t.holding.range.base (law k on.space on.at).sound on.does.chosen))

pub climbs_has : (chain : List Level) (n : ℕ) (t : Tag) (old new : List SpaceState) → IsStock old → Climbs chain n t old new → HasBaseUp old chain n
climbs_has [] n t old new law climbs = absurd climbs
climbs_has (l ∷ up) n t old new law climbs = elim climbs [
  | inl carves ↦ inl (carves_has old new l.id (plain_of n) t law carves)
  | inr imports ↦ inr (climbs_has up (amount_of l up n) imports.1.0 old imports.1.1 law imports.1.2)
]

-- a climb by its answer
abbrev pub Climbings : List Level → ℕ → ClimbEnd → List SpaceState → List SpaceState → Type 0
Climbings chain n (Ok t) old new = Climbs chain n t old new
Climbings chain n (Err (climbing.Refused arena_fault.BadRequest)) old new = new ≡ old
Climbings chain n (Err (climbing.Refused arena_fault.NoFit)) old new = (¬ HasBaseUp old chain n) × (new ≡ old)
Climbings chain n (Err (climbing.Refused arena_fault.NoMemory)) old new = HasBaseUp old chain n × ClimbsInVain chain n old new
Climbings chain n (Err (climbing.Stuck t)) old new = Unit {0}
Climbings chain n (Err (climbing.Stopped o)) old new = Unit {0}

module _ (arenas : List TreeArena) where
  -- no event on the way changes the CPU
  returns_cpu : (chain : List Level) (t : Tag) (old new : LocalState) (a : ReturnEnd) → RunsTo arenas (return_plan chain t) old new a → new.cpu ≡ old.cpu
  returns_cpu [] t old new a path = ap (λ (s : LocalState). s.cpu) (sym path.0)
  returns_cpu (l ∷ up) t old new a path = by path.1 path.3 (λ whole. returns_cpu up whole path.0 new a)
    where
      by : (x : Result (Option Tag) (GivenFault Tag Tag)) → RunsTo arenas (on_free (return_plan up) x) path.0 new a → ((whole : Tag) → RunsTo arenas (return_plan up whole) path.0 new a → new.cpu ≡ path.0.cpu) → new.cpu ≡ old.cpu
      by (Ok None) end again = ap (λ (s : LocalState). s.cpu) (sym end.0) ∙ path.2.step.does.1
      by (Ok (Some whole)) end again = again whole end ∙ path.2.step.does.1
      by (Err (giving.Refused y)) end again = ap (λ (s : LocalState). s.cpu) (sym end.0) ∙ path.2.step.does.1
      by (Err (giving.Stopped y)) end again = ap (λ (s : LocalState). s.cpu) (sym end.0) ∙ path.2.step.does.1

  pub gives_back_cpu : (up : List Level) (t : Tag) (old new : LocalState) (a : ClimbEnd) → RunsTo arenas (give_back_plan up t) old new a → new.cpu ≡ old.cpu
  gives_back_cpu up t old new a path =
      let split = path_split (SoundStep (nodes_of arenas)) (return_plan up t) (λ r. Done (memory_refusal r)) old new a path in
      ap (λ (s : LocalState). s.cpu) (sym split.3.0) ∙ returns_cpu up t old split.0 split.1 split.2

  pub climb_cpu : (chain : List Level) (n : ℕ) (old new : LocalState) (a : ClimbEnd) → RunsTo arenas (climb_plan chain n) old new a → new.cpu ≡ old.cpu
  climb_cpu [] n old new a path = ap (λ (s : LocalState). s.cpu) (sym path.0)
  climb_cpu (l ∷ up) n old new a path = carved path.1 path.3 (climb_cpu up (amount_of l up n))
    where
      ended : path.0 ≡ new → new.cpu ≡ old.cpu
      ended is = ap (λ (s : LocalState). s.cpu) (sym is) ∙ path.2.step.does.1

      added : (m k : LocalState) (x : Result Tag (GivenFault (SpanFault Tag) Tag)) → k.cpu ≡ m.cpu → RunsTo arenas (on_add up x) k new a → new.cpu ≡ m.cpu
      added m k (Ok t) same end = ap (λ (s : LocalState). s.cpu) (sym end.0) ∙ same
      added m k (Err (giving.Refused (adding.NoMemory t))) same end = gives_back_cpu up t k new a end ∙ same
      added m k (Err (giving.Refused (adding.Overlaps t))) same end = ap (λ (s : LocalState). s.cpu) (sym end.0) ∙ same
      added m k (Err (giving.Refused (adding.NotAligned t))) same end = ap (λ (s : LocalState). s.cpu) (sym end.0) ∙ same
      added m k (Err (giving.Stopped t)) same end = ap (λ (s : LocalState). s.cpu) (sym end.0) ∙ same

      imported : (m : LocalState) (r : ClimbEnd) → RunsTo arenas (on_import up l.id n r) m new a → new.cpu ≡ m.cpu
      imported m (Ok span) last = added m last.0 last.1 last.2.step.does.1 last.3
      imported m (Err f) last = ap (λ (s : LocalState). s.cpu) (sym last.0)

      carved : (x : Result Tag (PartFault ArenaFault)) → RunsTo arenas (on_carve (climb_plan up (amount_of l up n)) up l.id n x) path.0 new a → ((s t : LocalState) (b : ClimbEnd) → RunsTo arenas (climb_plan up (amount_of l up n)) s t b → t.cpu ≡ s.cpu) → new.cpu ≡ old.cpu
      carved (Ok t) rest again = ended rest.0
      carved (Err (asking.Refused arena_fault.BadRequest)) rest again = ended rest.0
      carved (Err (asking.Refused arena_fault.NoMemory)) rest again = ended rest.0
      carved (Err asking.Stopped) rest again = ended rest.0
      carved (Err (asking.Refused arena_fault.NoFit)) rest again =
          let split = path_split (SoundStep (nodes_of arenas)) (climb_plan up (amount_of l up n)) (on_import up l.id n) path.0 new a rest in
          imported split.0 split.1 split.3 ∙ (again path.0 split.0 split.1 split.2 ∙ path.2.step.does.1)

  -- what was climbed for and given back: done, or stuck
  returned : (r : ReturnEnd) → ((r ≡ Ok tt) × (memory_refusal r ≡ Err (climbing.Refused arena_fault.NoMemory))) ⊎ ((y : Tag) × ((memory_refusal r ≡ Err (climbing.Stuck y)) ⊎ (memory_refusal r ≡ Err (climbing.Stopped (Some y)))))
  returned (Ok u) = inl (refl, refl)
  returned (Err (returning.Stuck y)) = inr (y, inl refl)
  returned (Err (returning.Stopped y)) = inr (y, inr refl)

  abbrev pub IsStuck : ClimbEnd → Type 0
  IsStuck a = (y : Tag) × ((a ≡ Err (climbing.Stuck y)) ⊎ (a ≡ Err (climbing.Stopped (Some y))))

  pub gives_back : (up : List Level) (t : Tag) (old new : LocalState) (a : ClimbEnd) → RunsTo arenas (give_back_plan up t) old new a → ((a ≡ Err (climbing.Refused arena_fault.NoMemory)) × Returns new.spaces t old.spaces) ⊎ IsStuck a
  gives_back up t old new a path =
      let split = path_split (SoundStep (nodes_of arenas)) (return_plan up t) (λ r. Done (memory_refusal r)) old new a path in
      elim (returned split.1) [
        | inl ok ↦
            let back = returns_so arenas up t old split.0 (subst (RunsTo arenas (return_plan up t) old split.0) ok.0 split.2) in
            inl (sym split.3.1 ∙ ok.1, subst (λ (s : LocalState). Returns s.spaces t old.spaces) split.3.0 back.0)
        | inr stuck ↦ inr (stuck.0, elim stuck.1 [ inl e ↦ inl (sym split.3.1 ∙ e) | inr e ↦ inr (sym split.3.1 ∙ e) ])
      ]

  -- a climb that ended stuck or stopped says nothing
  nothing_said : (chain : List Level) (n : ℕ) (a : ClimbEnd) (old new : List SpaceState) → IsStuck a → Climbings chain n a old new
  nothing_said chain n a old new is = elim is.1 [
    | inl e ↦ subst (λ z. Climbings chain n z old new) (sym e) tt
    | inr e ↦ subst (λ z. Climbings chain n z old new) (sym e) tt
  ]

  -- a span that came, and what the arena did with it
  module _ (l : Level) (up : List Level) (n : ℕ) (span : Tag) (old : List SpaceState) (m new : LocalState) (a : ClimbEnd) (law : IsStock old) (none : ¬ HasBase old l.id (plain_of n)) (upper : Climbs up (amount_of l up n) span old m.spaces) where
    told : (r : Result Tag (SpanFault Tag)) (t : Tag) → Ok t ≡ wording_of {F = GivenFault (SpanFault Tag) Tag} giving.Refused r → r ≡ Ok t
    told (Ok y) t e = (let x : Ok t ≡ Ok y = e in let same : t ≡ y = cc in ap Ok (sym same))
    told (Err f) t e = absurd (let x : Ok t ≡ Err (giving.Refused f) = e in cc)

    refusal_same : (new : List SpaceState) (r : Result Tag (SpanFault Tag)) (x : GivenFault (SpanFault Tag) Tag) → Err x ≡ wording_of giving.Refused r → OnArena l.id (λ a b. ImportOf a span (plain_of n) r b) m.spaces new → new ≡ m.spaces
    refusal_same new (Ok y) x e there = absurd (let z : Err x ≡ Ok y = e in cc)
    refusal_same new (Err f) x e there = there.after ∙ (ap (λ b. set m.spaces l.id (with_arena b there.space)) there.does.1 ∙ set_same m.spaces l.id there.space there.at)

    vain : (chain : List Level) → Climbs chain (amount_of l up n) span old m.spaces → Returns new.spaces span m.spaces → ClimbsInVain chain (amount_of l up n) old new.spaces
    vain [] climbs returns = absurd climbs
    vain (z ∷ zs) climbs returns = inr (inl (span, m.spaces, climbs, returns))

    added_so : (x : Result Tag (GivenFault (SpanFault Tag) Tag)) (k : LocalState) → SoundStep (nodes_of arenas) m (AddCarve l.id span n) x k → RunsTo arenas (on_add up x) k new a → Climbings (l ∷ up) n a old new.spaces
    added_so (Ok t) k add end =
        let r = told add.step.does.0.0 t add.step.does.0.1 in
        let imports : ImportsAt l.id span n t m.spaces new.spaces = subst (λ (s : LocalState). OnArena l.id (λ a b. WasImported a span (plain_of n) t b) m.spaces s.spaces) end.0 (subst (λ z. OnArena l.id (λ a b. ImportOf a span (plain_of n) z b) m.spaces k.spaces) r add.step.does.0.2) in
        subst (λ z. Climbings (l ∷ up) n z old new.spaces) end.1 (inr (none, (span, m.spaces, upper, imports)))
    added_so (Err (giving.Refused (adding.NoMemory y))) k add end =
        let same : y ≡ span = add.sound.1 in
        let state : k.spaces ≡ m.spaces = refusal_same k.spaces add.step.does.0.0 (giving.Refused (adding.NoMemory y)) add.step.does.0.1 add.step.does.0.2 in
        elim (gives_back up y k new a end) [
          | inl back ↦
              let returns : Returns new.spaces span m.spaces = subst (λ t. Returns new.spaces t m.spaces) same (subst (λ xs. Returns new.spaces y xs) state back.1) in
              subst (λ z. Climbings (l ∷ up) n z old new.spaces) (sym back.0) (inr (climbs_has up (amount_of l up n) span old m.spaces law upper), inr (inr (none, vain up upper returns)))
          | inr stuck ↦ nothing_said (l ∷ up) n a old new.spaces stuck
        ]
    added_so (Err (giving.Refused (adding.Overlaps y))) k add end = nothing_said (l ∷ up) n a old new.spaces (y, inl (sym end.1))
    added_so (Err (giving.Refused (adding.NotAligned y))) k add end = nothing_said (l ∷ up) n a old new.spaces (y, inl (sym end.1))
    added_so (Err (giving.Stopped y)) k add end = nothing_said (l ∷ up) n a old new.spaces (y, inr (sym end.1))

  -- what came of the climb above, once nothing had a base here
  module _ (l : Level) (up : List Level) (n : ℕ) (old : List SpaceState) (new : LocalState) (a : ClimbEnd) (law : IsStock old) (none : ¬ HasBase old l.id (plain_of n)) where
    imported_so : (r : ClimbEnd) (m : LocalState) → Climbings up (amount_of l up n) r old m.spaces → RunsTo arenas (on_import up l.id n r) m new a → Climbings (l ∷ up) n a old new.spaces
    imported_so (Ok span) m first last = added_so l up n span old m new a law none first last.1 last.0 last.2 last.3
    imported_so (Err (climbing.Refused arena_fault.NoFit)) m first last = subst (λ z. Climbings (l ∷ up) n z old new.spaces) last.1 ((λ has. elim has [ inl here ↦ none here | inr there ↦ first.0 there ]), ap (λ (s : LocalState). s.spaces) (sym last.0) ∙ first.1)
    imported_so (Err (climbing.Refused arena_fault.BadRequest)) m first last = subst (λ z. Climbings (l ∷ up) n z old new.spaces) last.1 (ap (λ (s : LocalState). s.spaces) (sym last.0) ∙ first)
    imported_so (Err (climbing.Refused arena_fault.NoMemory)) m first last =
        subst (λ z. Climbings (l ∷ up) n z old new.spaces) last.1 (inr first.0, inr (inr (none, subst (λ (s : LocalState). ClimbsInVain up (amount_of l up n) old s.spaces) last.0 first.1)))
    imported_so (Err (climbing.Stuck y)) m first last = nothing_said (l ∷ up) n a old new.spaces (y, inl (sym last.1))
    imported_so (Err (climbing.Stopped None)) m first last = subst (λ z. Climbings (l ∷ up) n z old new.spaces) last.1 tt
    imported_so (Err (climbing.Stopped (Some y))) m first last = nothing_said (l ∷ up) n a old new.spaces (y, inr (sym last.1))

  pub climb_ends : (chain : List Level) (n : ℕ) (old new : LocalState) (a : ClimbEnd) → IsStock old.spaces → RunsTo arenas (climb_plan chain n) old new a → Climbings chain n a old.spaces new.spaces
  climb_ends [] n old new a law path = subst (λ z. Climbings [] n z old.spaces new.spaces) path.1 ((λ has. has), ap (λ (s : LocalState). s.spaces) (sym path.0))
  climb_ends (l ∷ up) n old new a law path = carved path.1 path.2 path.3 (climb_ends up (amount_of l up n))
    where
      carved : (x : Result Tag (PartFault ArenaFault)) → SoundStep (nodes_of arenas) old (Carve l.id (plain_of n)) x path.0 → RunsTo arenas (on_carve (climb_plan up (amount_of l up n)) up l.id n x) path.0 new a
          → ((s t : LocalState) (b : ClimbEnd) → IsStock s.spaces → RunsTo arenas (climb_plan up (amount_of l up n)) s t b → Climbings up (amount_of l up n) b s.spaces t.spaces)
          → Climbings (l ∷ up) n a old.spaces new.spaces
      carved (Ok t) step rest again =
          let on = does_carve old.spaces path.0.spaces l.id (plain_of n) law (Ok t) step.step.does.0 in
          subst (λ z. Climbings (l ∷ up) n z old.spaces new.spaces) rest.1 (inl (subst (λ (s : LocalState). CarvesAt l.id (plain_of n) t old.spaces s.spaces) rest.0 on))
      carved (Err (asking.Refused arena_fault.BadRequest)) step rest again =
          let on = does_carve old.spaces path.0.spaces l.id (plain_of n) law (Err (asking.Refused arena_fault.BadRequest)) step.step.does.0 in
          subst (λ z. Climbings (l ∷ up) n z old.spaces new.spaces) rest.1 (ap (λ (s : LocalState). s.spaces) (sym rest.0) ∙ on.1)
      carved (Err (asking.Refused arena_fault.NoMemory)) step rest again =
          let on = does_carve old.spaces path.0.spaces l.id (plain_of n) law (Err (asking.Refused arena_fault.NoMemory)) step.step.does.0 in
          subst (λ z. Climbings (l ∷ up) n z old.spaces new.spaces) rest.1 (inl on.1, inl (ap (λ (s : LocalState). s.spaces) (sym rest.0) ∙ on.2))
      carved (Err asking.Stopped) step rest again = absurd (does_carve old.spaces path.0.spaces l.id (plain_of n) law (Err asking.Stopped) step.step.does.0)
      carved (Err (asking.Refused arena_fault.NoFit)) step rest again =
          let on = does_carve old.spaces path.0.spaces l.id (plain_of n) law (Err (asking.Refused arena_fault.NoFit)) step.step.does.0 in
          let split = path_split (SoundStep (nodes_of arenas)) (climb_plan up (amount_of l up n)) (on_import up l.id n) path.0 new a rest in
          let above = again path.0 split.0 split.1 step.step.stock split.2 in
          imported_so l up n old.spaces new a law on.1 split.1 split.0 (subst (λ xs. Climbings up (amount_of l up n) split.1 xs split.0.spaces) on.2 above) split.3
