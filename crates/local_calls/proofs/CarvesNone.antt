-- What a carve and a climb that end with NoFit have found.
use Rattle.std.proofs.Common.{◌≡◌, ℕ, List, [], ◌∷◌, Some, None, Result, Ok, Err, set, inl, inr, sym, ap, subst, ◌∙◌}
use Rattle.std.specs.Prelude.{slice_get}
use Rattle.deed_core.specs.Tag.{Tag}
use Rattle.deed_core.specs.Request.{plain_of}
use Rattle.deed_core.specs.declared.requests.Request.{Request}
use Rattle.deed_core.proofs.LawProofs.{slice_get_one, set_same}
use Rattle.tag_arena.specs.ArenaState.{ArenaState}
use Rattle.tag_arena.specs.Outcomes.{CarveOf}
use Rattle.tag_arena.specs.Place.{Serves}
use Rattle.tag_arena.specs.declared.faults.ArenaFault.{ArenaFault}
use Rattle.tag_arena.specs.declared.faults.ArenaFault.TheVariants as arena_fault
use Rattle.tag_arena.proofs.LawProofs.{none_serves}
use Rattle.arena_tree.specs.declared.levels.Level.{Level}
use Rattle.arena_tree.specs.declared.trees.TreeArena.{TreeArena}
use Rattle.arena_tree.specs.declared.part_faults.PartFault.{PartFault}
use Rattle.arena_tree.specs.declared.part_faults.GivenFault.{GivenFault}
use Rattle.tag_arena.specs.declared.faults.SpanFault.{SpanFault}
use Rattle.arena_tree.specs.declared.part_faults.PartFault.TheVariants as asking
use Rattle.arena_tree.specs.declared.part_faults.GivenFault.TheVariants as giving
use Rattle.tag_arena.specs.declared.faults.SpanFault.TheVariants as adding
use Rattle.arena_tree.specs.declared.part_faults.ClimbFault.TheVariants as climbing
use Rattle.arena_tree.specs.declared.part_faults.ReturnFault.TheVariants as returning
use Rattle.arena_tree.specs.Chains.{amount_of}
use Rattle.arena_tree.specs.Climbs.{ClimbEnd, ReturnEnd, return_plan, memory_refusal, on_add, on_import, on_carve, climb_plan}
use Rattle.arena_tree.specs.Events.{Carve}
use Rattle.arena_tree.specs.Plans.{Done}
use Rattle.arena_tree.specs.Trees.{nodes_of}
use Rattle.arena_tree.proofs.LawProofs.{path_split}
use Rattle.stock.specs.Spaces.{SpaceState, with_arena}
use Rattle.stock.specs.Steps.{OnArena}
use Rattle.local_parts.specs.SharedSteps.{DoesCarve}
use Rattle.local_parts.specs.States.{LocalState, IsUnchanged}
use Rattle.arena_tree.specs.Tags.{wording_of}
use Rattle.local_calls.specs.NoFits.{HasBase, HasBaseUp}
use Rattle.local_calls.specs.Runs.{SoundStep, RunsTo}

-- the arena written over by itself
same_arena : (spaces : List SpaceState) (k : ℕ) (s : SpaceState) (a : ArenaState) → slice_get spaces k ≡ Some s → a ≡ s.arena → set spaces k (with_arena a s) ≡ spaces
same_arena spaces k s a at same = ap (λ x. set spaces k (with_arena x s)) same ∙ set_same spaces k s at

-- a carve
pub carve_none : (old new : List SpaceState) (k : ℕ) (q : Request) → DoesCarve old k q (Err (asking.Refused arena_fault.NoFit)) new → (¬ HasBase old k q) × (new ≡ old)
carve_none old new k q does = words does.0 does.1 does.2
  where
    words : (r : Result Tag ArenaFault) → Err (asking.Refused arena_fault.NoFit) ≡ wording_of asking.Refused r → OnArena k (λ x y. CarveOf x q r y) old new → (¬ HasBase old k q) × (new ≡ old)
    words (Ok t) e on = absurd (let x : Err (asking.Refused arena_fault.NoFit) ≡ Ok t = e in cc)
    words (Err arena_fault.BadRequest) e on = absurd (let x : Err (asking.Refused arena_fault.NoFit) ≡ Err (asking.Refused arena_fault.BadRequest) = e in cc)
    words (Err arena_fault.NoMemory) e on = absurd (let x : Err (asking.Refused arena_fault.NoFit) ≡ Err (asking.Refused arena_fault.NoMemory) = e in cc)
    words (Err arena_fault.NoFit) e on = (
      (λ has.
          let is : on.space ≡ has.0 = slice_get_one old k on.space has.0 on.at has.1 in
          none_serves on.space.arena.policy on.space.arena.quantum q on.space.arena.free on.space.arena.rover on.does.0.1 has.2.0 (subst (λ (x : SpaceState). Serves x.arena.quantum q x.arena.free has.2.0) (sym is) has.2.1)),
      on.after ∙ same_arena old k on.space on.arena on.at on.does.1,
    )

module _ (arenas : List TreeArena) where
  -- what was freed again doesn't end so
  pub given_back : (r : ReturnEnd) → memory_refusal r ≡ Err (climbing.Refused arena_fault.NoFit) → ⊥
  given_back (Ok u) e = let x : Err (climbing.Refused arena_fault.NoMemory) ≡ Err (climbing.Refused arena_fault.NoFit) = e in cc
  given_back (Err (returning.Stuck t)) e = let x : Err (climbing.Stuck t) ≡ Err (climbing.Refused arena_fault.NoFit) = e in cc
  given_back (Err (returning.Stopped t)) e = let x : Err (climbing.Stopped (Some t)) ≡ Err (climbing.Refused arena_fault.NoFit) = e in cc

  added : (up : List Level) (x : Result Tag (GivenFault (SpanFault Tag) Tag)) (old new : LocalState) → RunsTo arenas (on_add up x) old new (Err (climbing.Refused arena_fault.NoFit)) → ⊥
  added up (Ok t) old new path = let x : Ok t ≡ Err (climbing.Refused arena_fault.NoFit) = path.1 in cc
  added up (Err (giving.Refused (adding.NoMemory t))) old new path =
      let split = path_split (SoundStep (nodes_of arenas)) (return_plan up t) (λ r. Done (memory_refusal r)) old new (Err (climbing.Refused arena_fault.NoFit)) path in
      given_back split.1 split.3.1
  added up (Err (giving.Refused (adding.Overlaps t))) old new path = let x : Err (climbing.Stuck t) ≡ Err (climbing.Refused arena_fault.NoFit) = path.1 in cc
  added up (Err (giving.Refused (adding.NotAligned t))) old new path = let x : Err (climbing.Stuck t) ≡ Err (climbing.Refused arena_fault.NoFit) = path.1 in cc
  added up (Err (giving.Stopped t)) old new path = let x : Err (climbing.Stopped (Some t)) ≡ Err (climbing.Refused arena_fault.NoFit) = path.1 in cc

  same_state : (s t : LocalState) → s ≡ t → IsUnchanged s t
  same_state s t e = record { spaces = ap (λ (x : LocalState). x.spaces) (sym e); cpu = ap (λ (x : LocalState). x.cpu) (sym e) }

  pub unchanged_then : (s t u : LocalState) → IsUnchanged s t → IsUnchanged t u → IsUnchanged s u
  unchanged_then s t u a b = record { spaces = b.spaces ∙ a.spaces; cpu = b.cpu ∙ a.cpu }

  -- a climb
  pub climb_none : (chain : List Level) (n : ℕ) (old new : LocalState) → RunsTo arenas (climb_plan chain n) old new (Err (climbing.Refused arena_fault.NoFit)) → (¬ HasBaseUp old.spaces chain n) × IsUnchanged old new
  climb_none [] n old new path = (λ has. has, same_state old new path.0)
  climb_none (l ∷ up) n old new path = carved path.1 path.2 path.3 (climb_none up (amount_of l up n))
    where
      mid : LocalState
      mid = path.0

      carved : (x : Result Tag (PartFault ArenaFault)) → SoundStep (nodes_of arenas) old (Carve l.id (plain_of n)) x mid → RunsTo arenas (on_carve (climb_plan up (amount_of l up n)) up l.id n x) mid new (Err (climbing.Refused arena_fault.NoFit))
          → ((s t : LocalState) → RunsTo arenas (climb_plan up (amount_of l up n)) s t (Err (climbing.Refused arena_fault.NoFit)) → (¬ HasBaseUp s.spaces up (amount_of l up n)) × IsUnchanged s t)
          → (¬ HasBaseUp old.spaces (l ∷ up) n) × IsUnchanged old new
      carved (Ok t) step rest again = absurd (let x : Ok t ≡ Err (climbing.Refused arena_fault.NoFit) = rest.1 in cc)
      carved (Err (asking.Refused arena_fault.BadRequest)) step rest again = absurd (let x : Err (climbing.Refused arena_fault.BadRequest) ≡ Err (climbing.Refused arena_fault.NoFit) = rest.1 in cc)
      carved (Err (asking.Refused arena_fault.NoMemory)) step rest again = absurd (let x : Err (climbing.Refused arena_fault.NoMemory) ≡ Err (climbing.Refused arena_fault.NoFit) = rest.1 in cc)
      carved (Err asking.Stopped) step rest again = absurd (let x : Err (climbing.Stopped None) ≡ Err (climbing.Refused arena_fault.NoFit) = rest.1 in cc)
      carved (Err (asking.Refused arena_fault.NoFit)) step rest again =
          let here = carve_none old.spaces mid.spaces l.id (plain_of n) step.step.does.0 in
          let still : IsUnchanged old mid = record { spaces = here.1; cpu = step.step.does.1 } in
          let split = path_split (SoundStep (nodes_of arenas)) (climb_plan up (amount_of l up n)) (on_import up l.id n) mid new (Err (climbing.Refused arena_fault.NoFit)) rest in
          let above = imported split.1 split.0 split.2 split.3 in
          let higher = subst (λ (xs : List SpaceState). ¬ HasBaseUp xs up (amount_of l up n)) here.1 above.0 in
          (λ has. elim has [ inl base ↦ here.0 base | inr up_there ↦ higher up_there ], unchanged_then old mid new still above.1)
        where
          imported : (r : ClimbEnd) (m : LocalState) → RunsTo arenas (climb_plan up (amount_of l up n)) mid m r → RunsTo arenas (on_import up l.id n r) m new (Err (climbing.Refused arena_fault.NoFit)) → (¬ HasBaseUp mid.spaces up (amount_of l up n)) × IsUnchanged mid new
          imported (Ok span) m first last = absurd (added up last.1 last.0 new last.3)
          imported (Err f) m first last =
              let above = again mid m (subst (RunsTo arenas (climb_plan up (amount_of l up n)) mid m) last.1 first) in
              (above.0, unchanged_then mid m new above.1 (same_state m new last.0))
