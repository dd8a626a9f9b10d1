-- What a drain leaves of a CPU's rounds, and CPUs that are ended one after another.
use Rattle.std.proofs.Common.{◌≡◌, ℕ, suc, zero, refl, sym, subst, ap, ◌∙◌, List, [], ◌∷◌, ◌++◌, length, All, Some, None, Ok, arith}
use Rattle.std.specs.Prelude.{slice_get}
use Rattle.std.proofs.lemmas.List.{append-nil}
use Rattle.std.proofs.lemmas.List.Sums.{sum_by-append}
use Rattle.std.proofs.lemmas.Grind.{flat_map-append}
use Rattle.deed_core.specs.Tag.{Tag}
use Rattle.deed_core.proofs.LawProofs.{all_at, all_from}
use Rattle.arena_tree.specs.declared.trees.TreeArena.{TreeArena}
use Rattle.arena_tree.specs.Plans.{Plan, Path}
use Rattle.arena_tree.specs.Trees.{nodes_of}
use Rattle.quantum_cache.specs.Drains.{DrainEnd, drain_plan}
use Rattle.quantum_cache.specs.Laws.{drain_left}
use Rattle.quantum_cache.proofs.LawProofs.{drain_handles}
use Rattle.stock.specs.Accounts.{Accounts}
use Rattle.stock.specs.OwnCaches.{OwnCacheState, all_own_rounds, HasNoRound}
use Rattle.stock.specs.Spaces.{SpaceState, SpacePlan, plans_of}
use Rattle.stock.proofs.LawProofs.{out_weighs}
use Rattle.local_parts.specs.Cpus.{IsCpuOf, HasNoRounds, indexes_from, cpu_rounds}
use Rattle.local_parts.specs.States.{LocalState}
use Rattle.local_parts.specs.Steps.{LocalStep}
use Rattle.local_parts.proofs.LawProofs.{plan_conserves, plan_keeps_setup, path_seen}
use Rattle.local_calls.specs.Runs.{SoundStep, RunsTo}
use Rattle.lease_machine.specs.Picture.{NumberedCpu}
use Rattle.stock_desk.proofs.NumberedCpus.{last_cpu}
use Rattle.stock_desk.specs.Supplies.{local_of, rounds_of_all}

-- its steps, each by what it does
pub local_path : (arenas : List TreeArena) (A : Type 0) (p : Plan A) (old new : LocalState) (a : A) → RunsTo arenas p old new a → Path LocalStep p old new a
local_path arenas A p old new a ran = path_seen A LocalState (λ s. s) (SoundStep (nodes_of arenas)) (λ s t e x d. d.step) p old new a ran

row_none : (row : List OwnCacheState) → All HasNoRound row → all_own_rounds row ≡ []
row_none [] none = refl
row_none (o ∷ row) none =
    let first = none 0 o (omega arith) in
    ap (λ (ts : List Tag). ts ++ all_own_rounds row) (ap (λ (ts : List Tag). ts ++ o.cpu.loaded) first.previous_empty ∙ first.loaded_empty) ∙ row_none row (λ i e below. none (suc i) e (omega (arith, below)))

pub cpu_none : (cpu : List (List OwnCacheState)) → HasNoRounds cpu → cpu_rounds cpu ≡ []
cpu_none [] none = refl
cpu_none (row ∷ cpu) none =
    ap (λ (ts : List Tag). ts ++ cpu_rounds cpu) (row_none row (none 0 row (omega arith))) ∙ cpu_none cpu (λ i e below. none (suc i) e (omega (arith, below)))

module _ (arenas : List TreeArena) (turns : ℕ) (old new : List SpaceState) (cpu left : List (List OwnCacheState)) (ran : RunsTo arenas (drain_plan turns arenas) (local_of old cpu) (local_of new left) (Ok tt)) where
  -- what was out but for the CPU's rounds is out after it
  pub drained_out : HasNoRounds left → (others : List Tag) → Accounts old (cpu_rounds cpu ++ others) → Accounts new others
  drained_out none others acc = subst (λ (ts : List Tag). Accounts new (ts ++ others)) (cpu_none left none)
      (plan_conserves DrainEnd drain_left (drain_plan turns arenas) None (drain_handles turns arenas) (local_of old cpu) (local_of new left) (Ok tt) (local_path arenas DrainEnd (drain_plan turns arenas) (local_of old cpu) (local_of new left) (Ok tt) ran) others acc)

  pub drained_fixed : plans_of new ≡ plans_of old
  drained_fixed = (plan_keeps_setup DrainEnd (drain_plan turns arenas) (local_of old cpu) (local_of new left) (Ok tt) (local_path arenas DrainEnd (drain_plan turns arenas) (local_of old cpu) (local_of new left) (Ok tt) ran)).plans

front_cpu : (front : List NumberedCpu) (c : NumberedCpu) (k : ℕ) (x : NumberedCpu) → slice_get front k ≡ Some x → slice_get (front ++ c ∷ []) k ≡ Some x
front_cpu [] c k x at = absurd (let e : None ≡ Some x = at in cc)
front_cpu (y ∷ front) c zero x at = at
front_cpu (y ∷ front) c (suc k) x at = front_cpu front c k x at

-- the last CPU goes
module _ (front items : List NumberedCpu) (c : NumberedCpu) (is : items ≡ front ++ c ∷ []) where
  pub front_all : (P : NumberedCpu → Type 0) → All P items → All P front
  front_all P all = all_from P front (λ k x at. all_at P items k x all (ap (λ (xs : List NumberedCpu). slice_get xs k) is ∙ front_cpu front c k x at))

  pub last_has : (P : NumberedCpu → Type 0) → All P items → P c
  last_has P all = all_at P items (length front) c all (ap (λ (xs : List NumberedCpu). slice_get xs (length front)) is ∙ last_cpu front c)

  pub last_rounds : (spaces : List SpaceState) → Accounts spaces (rounds_of_all items) → Accounts spaces (cpu_rounds c.caches ++ rounds_of_all front)
  last_rounds spaces acc =
      let all : rounds_of_all items ≡ rounds_of_all front ++ cpu_rounds c.caches =
      ap rounds_of_all is ∙ flat_map-append (λ (x : NumberedCpu). cpu_rounds x.caches) front (c ∷ []) ∙ ap (λ (ts : List Tag). rounds_of_all front ++ ts) (append-nil (cpu_rounds c.caches)) in
      out_weighs spaces (rounds_of_all front ++ cpu_rounds c.caches) (cpu_rounds c.caches ++ rounds_of_all front) (λ f. omega (arith, sum_by-append f (rounds_of_all front) (cpu_rounds c.caches), sum_by-append f (cpu_rounds c.caches) (rounds_of_all front)))
      (subst (Accounts spaces) all acc)

pub same_cpu_of : (old new : List SpaceState) → plans_of new ≡ plans_of old → (rows : List (List OwnCacheState)) → IsCpuOf old rows → IsCpuOf new rows
same_cpu_of old new same rows is = is ∙ ap (λ (ps : List SpacePlan). indexes_from 0 ps) (sym same)
