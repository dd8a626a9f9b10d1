-- What the proofs of the crates above cite of this crate: the laws that its law functions state, and
-- how a call's list of steps over `Local` is one over states.
pub use Rattle.local_calls.proofs.Drained.{drain_empties_cpu}
pub use Rattle.local_calls.proofs.Reaped.{reap_leaves_nothing}
pub use Rattle.local_calls.proofs.ReapLooks.{reap_takes_few_looks, reap_without_limit}
pub use Rattle.local_calls.proofs.ArenaReaps.{reap_arena_always_done, reap_arena_leaves_nothing, reap_arena_brings_nothing, reap_arena_takes_few_looks}
pub use Rattle.local_calls.proofs.CpuIndexes.{reached_here}
pub use Rattle.local_calls.proofs.Chains.{tree_chain}
pub use Rattle.local_calls.proofs.NoFits.{no_fit_is_right, xalloc_no_fit_is_right}
pub use Rattle.local_calls.proofs.Idle.{none_idle}
use Rattle.std.proofs.Common.{◌≡◌, ℕ, List, Some, None, Ok, Err, refl, ap, subst, ◌∙◌}
use Rattle.arena_tree.specs.declared.trees.TreeArena.{TreeArena}
use Rattle.arena_tree.specs.Chains.{Node}
use Rattle.arena_tree.specs.Climbs.{climb_left, return_left}
use Rattle.arena_tree.specs.Events.{Event, AnswerTo}
use Rattle.arena_tree.specs.Plans.{Plan, Done, Ask, Step, Path}
use Rattle.arena_tree.specs.Sound.{Sound}
use Rattle.arena_tree.specs.Trees.{nodes_of}
use Rattle.quantum_cache.specs.Allocs.{alloc_plan, xalloc_plan}
use Rattle.quantum_cache.specs.Drains.{DrainEnd, drain_plan}
use Rattle.quantum_cache.specs.Frees.{free_plan}
use Rattle.quantum_cache.specs.Laws.{carve_left, drain_left, reap_left}
use Rattle.quantum_cache.specs.Reaps.{ReapEnd, reap_plan}
use Rattle.quantum_cache.proofs.LawProofs.{alloc_handles, xalloc_handles, free_handles, drain_handles, reap_handles}
use Rattle.local_parts.specs.Cpus.{HasNoRounds}
use Rattle.local_parts.specs.States.{LocalState}
use Rattle.local_parts.specs.Steps.{LocalStep}
use Rattle.local_calls.specs.Asked.{AsksWell, DoesWell}
use Rattle.local_calls.specs.Laws.{AllocsWell, DrainsWell, AllocNeverStuck, XallocNeverStops, FreeAlwaysDone, DrainAlwaysDone, DrainWithTurns, ReapAlwaysDone}
use Rattle.local_calls.specs.Runs.{RunsTo}
use Rattle.local_calls.proofs.AllocWells.{well_alloc, well_xalloc}
use Rattle.local_calls.proofs.FreeWells.{well_free}
use Rattle.local_calls.proofs.DrainTurns.{turns_last}
use Rattle.local_calls.proofs.EmptyingWells.{well_drain, well_reap}
use Rattle.local_calls.proofs.Steps.{run_ends_well}

pub alloc_never_stuck : AllocNeverStuck
alloc_never_stuck arenas chain size old new others a is local accounted path =
    run_ends_well arenas AllocsWell climb_left (alloc_plan chain size) _ others (alloc_handles chain size) (well_alloc arenas local.tree chain size is) old new a local.plans accounted path

pub xalloc_never_stops : XallocNeverStops
xalloc_never_stops arenas arena request old new others a local accounted path =
    run_ends_well arenas AsksWell carve_left (xalloc_plan arena request) _ others (xalloc_handles arena request) (well_xalloc arenas arena request) old new a local.plans accounted path

pub free_always_done : FreeAlwaysDone
free_always_done arenas chain t old new others a is first local accounted path =
    run_ends_well arenas (λ r. DoesWell r) return_left (free_plan chain t) _ others (free_handles chain t) (well_free arenas chain t is first) old new a local.plans accounted path

pub drain_always_done : DrainAlwaysDone
drain_always_done turns arenas old new others a local accounted path =
    run_ends_well arenas DrainsWell drain_left (drain_plan turns arenas) _ others (drain_handles turns arenas) (well_drain arenas turns) old new a local.plans accounted path

-- the turns don't run out, and nothing is stuck or stops
pub drain_with_turns : DrainWithTurns
drain_with_turns turns arenas old new others a local accounted more path =
    ended a (turns_last arenas turns old new a more path) (drain_always_done turns arenas old new others a local accounted path) path
  where
    ended : (r : DrainEnd) → ¬ (r ≡ Err None) → DrainsWell r → RunsTo arenas (drain_plan turns arenas) old new r → (r ≡ Ok tt) × HasNoRounds new.cpu
    ended (Ok u) last well run = (refl, drain_empties_cpu turns arenas old new local run)
    ended (Err None) last well run = absurd (last refl)
    ended (Err (Some f)) last well run = absurd well

pub reap_always_done : ReapAlwaysDone
reap_always_done arenas limit old new others a local accounted path =
    run_ends_well arenas (λ (r : ReapEnd). DoesWell r) reap_left (reap_plan arenas limit) _ others (reap_handles arenas limit) (well_reap arenas (λ id less. (tree_chain arenas local.tree id less).0) limit) old new a local.plans accounted path

-- a call's list of steps over parts that are seen as a state
pub run_seen : {S A : Type 0} (arenas : List TreeArena) (see : S → LocalState) (step : S → (e : Event) → AnswerTo e → S → Type 0) (tree : S → List Node) (count rounds : S → ℕ)
    → ((s t : S) (e : Event) (x : AnswerTo e) → step s e x t → LocalStep (see s) e x (see t))
    → (p : Plan A) (s t : S) (a : A) → tree s ≡ nodes_of arenas → Path (Step step tree count rounds) p s t a → RunsTo arenas p (see s) (see t) a
run_seen arenas see step tree count rounds is (Done b) s t a nodes path = (ap see path.0, path.1)
run_seen arenas see step tree count rounds is (Ask e f) s t a nodes path = (
  see path.0,
  path.1,
  record { step = is s path.0 e path.1 path.2.does; sound = subst (λ ns. Sound ns e path.1) nodes path.2.sound },
  run_seen arenas see step tree count rounds is (f path.1) path.0 t a (path.2.same_tree ∙ nodes) path.3,
)
