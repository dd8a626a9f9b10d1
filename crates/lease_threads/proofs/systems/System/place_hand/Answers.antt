use Rattle.std.proofs.Common.{map, ap, ◌∙◌, sym, subst}
use Rattle.deed_core.specs.Tag.{Tag}
use Rattle.arena_tree.specs.Tags.{tag_return}
use Rattle.arena_tree.specs.Trees.{nodes_of, IsTree}
use Rattle.locked_parts.specs.Kinds.{OwnCacheState}
use Rattle.locked_parts.specs.States.{LockedPartsState}
use Rattle.lease_threads.specs.Systems.{CpuState, SystemState}
use Rattle.lease_threads.proofs.Reaped.{never_stops}
use Rattle.lease_threads.proofs.Retired.{ran_places}
use Rattle.lease_threads.proofs.Runs.{ran_leaves}
use Rattle.lease_threads.proofs.systems.System.place_hand.Goals as goal

pub shape_of-cpu-inside : goal.shape_of-cpu-inside
shape_of-cpu-inside g c = sym (ran_leaves _ _ _ _ (λ s. s.caches.ghost_name) (λ s t e x d. d.1) _ _ _ _ c.place.ensures.ran ∙ c.new-running.ensures.loan)

pub returns-in-Ok-clause-magazines : goal.returns-in-Ok-clause-magazines
returns-in-Ok-clause-magazines g c = ran_leaves _ _ _ _ (λ s. map (λ (r : OwnCacheState). r.kind) s.caches.now.items) (λ s t e x d. d.2) _ _ _ _ c.place.ensures.ran ∙ ap (λ v. map (λ (r : OwnCacheState). r.kind) v.items) c.new-running.ensures.caches ∙ ap (λ (s : CpuState). map (λ (r : OwnCacheState). r.kind) s.caches) c.cpu.view_is

pub returns-in-Err-Stuck-clause-magazines : goal.returns-in-Err-Stuck-clause-magazines
returns-in-Err-Stuck-clause-magazines g c = ap (λ (s : CpuState). map (λ (r : OwnCacheState). r.kind) s.caches) c.hold.ensures ∙ ran_leaves _ _ _ _ (λ s. map (λ (r : OwnCacheState). r.kind) s.caches.now.items) (λ s t e x d. d.2) _ _ _ _ c.place.ensures.ran ∙ ap (λ v. map (λ (r : OwnCacheState). r.kind) v.items) c.new-running.ensures.caches ∙ ap (λ (s : CpuState). map (λ (r : OwnCacheState). r.kind) s.caches) c.cpu.view_is

pub returns-in-Err-Stopped-clause-magazines : goal.returns-in-Err-Stopped-clause-magazines
returns-in-Err-Stopped-clause-magazines g c = ap (λ (s : CpuState). map (λ (r : OwnCacheState). r.kind) s.caches) c.hold-in-Err-Stopped.ensures ∙ ran_leaves _ _ _ _ (λ s. map (λ (r : OwnCacheState). r.kind) s.caches.now.items) (λ s t e x d. d.2) _ _ _ _ c.place.ensures.ran ∙ ap (λ v. map (λ (r : OwnCacheState). r.kind) v.items) c.new-running.ensures.caches ∙ ap (λ (s : CpuState). map (λ (r : OwnCacheState). r.kind) s.caches) c.cpu.view_is

pub returns-in-Err-Stuck-clause-unplaced : goal.returns-in-Err-Stuck-clause-unplaced
returns-in-Err-Stuck-clause-unplaced g c =
    (let same = c.tree-tree.ensures ∙ ap (λ (s : SystemState). s.arenas) c.self.view_is in
    ran_places _ _ _ _ (λ s. s.steps.noted) (λ s t e x d none. never_stops _ _ _ _ _ _ (λ _ _ no. no) d.0 d.3 none) c.args.self.now.arenas (subst IsTree same c.len.ensures.tree) c.in-Some.segment c.tree-tree.result.now _ _ (tag_return (λ (t : Tag). t) c.place.result) c.place.ensures.ran c.new-running.ensures.unstopped (ap (λ (p : LockedPartsState). nodes_of p.arenas) c.new-running.ensures.parts ∙ ap (λ (s : SystemState). nodes_of s.arenas) c.self.view_is) same c.args.cpu.now.hand c.hold.new.self.hand (sym (ap (λ (s : CpuState). s.hand) c.cpu.view_is) ∙ (sym c.take.ensures.value ∙ c.in-Some.is)) (rw (c.in-Err-Stuck.is, c.in-Err-Stuck.field-0-is) (ap (λ (s : CpuState). s.hand) c.hold.ensures)))

pub returns-in-Err-Stopped-clause-unplaced : goal.returns-in-Err-Stopped-clause-unplaced
returns-in-Err-Stopped-clause-unplaced g c =
    (let same = c.tree-tree.ensures ∙ ap (λ (s : SystemState). s.arenas) c.self.view_is in
    ran_places _ _ _ _ (λ s. s.steps.noted) (λ s t e x d none. never_stops _ _ _ _ _ _ (λ _ _ no. no) d.0 d.3 none) c.args.self.now.arenas (subst IsTree same c.len.ensures.tree) c.in-Some.segment c.tree-tree.result.now _ _ (tag_return (λ (t : Tag). t) c.place.result) c.place.ensures.ran c.new-running.ensures.unstopped (ap (λ (p : LockedPartsState). nodes_of p.arenas) c.new-running.ensures.parts ∙ ap (λ (s : SystemState). nodes_of s.arenas) c.self.view_is) same c.args.cpu.now.hand c.hold-in-Err-Stopped.new.self.hand (sym (ap (λ (s : CpuState). s.hand) c.cpu.view_is) ∙ (sym c.take.ensures.value ∙ c.in-Some.is)) (rw (c.in-Err-Stopped.is, c.in-Err-Stopped.field-0-is) (ap (λ (s : CpuState). s.hand) c.hold-in-Err-Stopped.ensures)))
