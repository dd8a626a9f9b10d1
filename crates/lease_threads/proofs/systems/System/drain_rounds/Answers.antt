use Rattle.std.proofs.Common.{map, ap, ◌∙◌, sym, suc, arith, refl}
use Rattle.deed_core.specs.Tag.{Tag}
use Rattle.arena_tree.specs.Trees.{nodes_of}
use Rattle.quantum_cache.specs.Drains.{tag_emptying}
use Rattle.locked_parts.specs.Kinds.{OwnCacheState, count_of_rounds}
use Rattle.locked_parts.specs.States.{LockedPartsState}
use Rattle.lease_threads.specs.Systems.{CpuState, SystemState}
use Rattle.lease_threads.proofs.Reaped.{never_stops}
use Rattle.lease_threads.proofs.Drained.{ran_empties}
use Rattle.lease_threads.proofs.Retired.{ran_drains, ran_on}
use Rattle.lease_threads.proofs.Runs.{ran_leaves}
use Rattle.lease_threads.proofs.systems.System.drain_rounds.Goals as goal

pub shape_of-cpu-inside : goal.shape_of-cpu-inside
shape_of-cpu-inside g c = sym (ran_leaves _ _ _ _ (λ s. s.caches.ghost_name) (λ s t e x d. d.1) _ _ _ _ (c.drain.ensures.ran (suc (count_of_rounds c.new-running.result.caches.now.items)) (omega arith)) ∙ c.new-running.ensures.loan)

pub returns-in-Ok-clause-magazines : goal.returns-in-Ok-clause-magazines
returns-in-Ok-clause-magazines g c = ran_leaves _ _ _ _ (λ s. map (λ (r : OwnCacheState). r.kind) s.caches.now.items) (λ s t e x d. d.2) _ _ _ _ (c.drain.ensures.ran (suc (count_of_rounds c.new-running.result.caches.now.items)) (omega arith)) ∙ ap (λ v. map (λ (r : OwnCacheState). r.kind) v.items) c.new-running.ensures.caches ∙ ap (λ (s : CpuState). map (λ (r : OwnCacheState). r.kind) s.caches) c.cpu.view_is

pub returns-in-Err-Stuck-clause-magazines : goal.returns-in-Err-Stuck-clause-magazines
returns-in-Err-Stuck-clause-magazines g c = ap (λ (s : CpuState). map (λ (r : OwnCacheState). r.kind) s.caches) c.hold.ensures ∙ ran_leaves _ _ _ _ (λ s. map (λ (r : OwnCacheState). r.kind) s.caches.now.items) (λ s t e x d. d.2) _ _ _ _ (c.drain.ensures.ran (suc (count_of_rounds c.new-running.result.caches.now.items)) (omega arith)) ∙ ap (λ v. map (λ (r : OwnCacheState). r.kind) v.items) c.new-running.ensures.caches ∙ ap (λ (s : CpuState). map (λ (r : OwnCacheState). r.kind) s.caches) c.cpu.view_is

pub returns-in-Err-Stopped-Some-clause-magazines : goal.returns-in-Err-Stopped-Some-clause-magazines
returns-in-Err-Stopped-Some-clause-magazines g c = ap (λ (s : CpuState). map (λ (r : OwnCacheState). r.kind) s.caches) c.hold-in-Err-Stopped-Some.ensures ∙ ran_leaves _ _ _ _ (λ s. map (λ (r : OwnCacheState). r.kind) s.caches.now.items) (λ s t e x d. d.2) _ _ _ _ (c.drain.ensures.ran (suc (count_of_rounds c.new-running.result.caches.now.items)) (omega arith)) ∙ ap (λ v. map (λ (r : OwnCacheState). r.kind) v.items) c.new-running.ensures.caches ∙ ap (λ (s : CpuState). map (λ (r : OwnCacheState). r.kind) s.caches) c.cpu.view_is

pub returns-in-Err-Stopped-None-clause-magazines : goal.returns-in-Err-Stopped-None-clause-magazines
returns-in-Err-Stopped-None-clause-magazines g c = ran_leaves _ _ _ _ (λ s. map (λ (r : OwnCacheState). r.kind) s.caches.now.items) (λ s t e x d. d.2) _ _ _ _ (c.drain.ensures.ran (suc (count_of_rounds c.new-running.result.caches.now.items)) (omega arith)) ∙ ap (λ v. map (λ (r : OwnCacheState). r.kind) v.items) c.new-running.ensures.caches ∙ ap (λ (s : CpuState). map (λ (r : OwnCacheState). r.kind) s.caches) c.cpu.view_is

pub returns-in-Ok-clause-left : goal.returns-in-Ok-clause-left
returns-in-Ok-clause-left g c =
    let seen = ap (λ (s : SystemState). s.arenas) c.self.view_is in
    ran_drains _ _ _ _ (λ s. s.steps.noted) (λ s t e x d none. never_stops _ _ _ _ _ _ (λ _ _ no. no) d.0 d.3 none) c.args.self.now.arenas c.tree.result.now (suc (count_of_rounds c.new-running.result.caches.now.items)) c.cpu.inside.hand _ _ (tag_emptying (λ (t : Tag). t) c.drain.result) (c.drain.ensures.ran (suc (count_of_rounds c.new-running.result.caches.now.items)) (omega arith)) c.new-running.ensures.unstopped (ap (λ (p : LockedPartsState). nodes_of p.arenas) c.new-running.ensures.parts ∙ ap nodes_of seen) (c.tree.ensures ∙ seen) (rw c.in-Ok.is (ap (λ (s : CpuState). s.hand) c.cpu.view_is ∙ c.requires))

pub returns-in-Err-Stuck-clause-left : goal.returns-in-Err-Stuck-clause-left
returns-in-Err-Stuck-clause-left g c =
    let seen = ap (λ (s : SystemState). s.arenas) c.self.view_is in
    ran_drains _ _ _ _ (λ s. s.steps.noted) (λ s t e x d none. never_stops _ _ _ _ _ _ (λ _ _ no. no) d.0 d.3 none) c.args.self.now.arenas c.tree.result.now (suc (count_of_rounds c.new-running.result.caches.now.items)) c.hold.new.self.hand _ _ (tag_emptying (λ (t : Tag). t) c.drain.result) (c.drain.ensures.ran (suc (count_of_rounds c.new-running.result.caches.now.items)) (omega arith)) c.new-running.ensures.unstopped (ap (λ (p : LockedPartsState). nodes_of p.arenas) c.new-running.ensures.parts ∙ ap nodes_of seen) (c.tree.ensures ∙ seen) (rw (c.in-Err-Stuck.is, c.in-Err-Stuck.field-0-is) (ap (λ (s : CpuState). s.hand) c.hold.ensures))

pub returns-in-Err-Stopped-Some-clause-left : goal.returns-in-Err-Stopped-Some-clause-left
returns-in-Err-Stopped-Some-clause-left g c =
    let seen = ap (λ (s : SystemState). s.arenas) c.self.view_is in
    ran_drains _ _ _ _ (λ s. s.steps.noted) (λ s t e x d none. never_stops _ _ _ _ _ _ (λ _ _ no. no) d.0 d.3 none) c.args.self.now.arenas c.tree.result.now (suc (count_of_rounds c.new-running.result.caches.now.items)) c.hold-in-Err-Stopped-Some.new.self.hand _ _ (tag_emptying (λ (t : Tag). t) c.drain.result) (c.drain.ensures.ran (suc (count_of_rounds c.new-running.result.caches.now.items)) (omega arith)) c.new-running.ensures.unstopped (ap (λ (p : LockedPartsState). nodes_of p.arenas) c.new-running.ensures.parts ∙ ap nodes_of seen) (c.tree.ensures ∙ seen) (rw (c.in-Err-Stopped-Some.is, c.in-Err-Stopped-Some.field-0-is, c.in-Err-Stopped-Some.field-0-0-is) (ap (λ (s : CpuState). s.hand) c.hold-in-Err-Stopped-Some.ensures))

pub returns-in-Err-Stopped-None-clause-left : goal.returns-in-Err-Stopped-None-clause-left
returns-in-Err-Stopped-None-clause-left g c =
    let seen = ap (λ (s : SystemState). s.arenas) c.self.view_is in
    ran_drains _ _ _ _ (λ s. s.steps.noted) (λ s t e x d none. never_stops _ _ _ _ _ _ (λ _ _ no. no) d.0 d.3 none) c.args.self.now.arenas c.tree.result.now (suc (count_of_rounds c.new-running.result.caches.now.items)) c.cpu.inside.hand _ _ (tag_emptying (λ (t : Tag). t) c.drain.result) (c.drain.ensures.ran (suc (count_of_rounds c.new-running.result.caches.now.items)) (omega arith)) c.new-running.ensures.unstopped (ap (λ (p : LockedPartsState). nodes_of p.arenas) c.new-running.ensures.parts ∙ ap nodes_of seen) (c.tree.ensures ∙ seen) (rw (c.in-Err-Stopped-None.is, c.in-Err-Stopped-None.field-0-is, c.in-Err-Stopped-None.field-0-0-is) (ap (λ (s : CpuState). s.hand) c.cpu.view_is ∙ c.requires))

pub returns-in-Ok-clause-drained : goal.returns-in-Ok-clause-drained
returns-in-Ok-clause-drained g c =
    let seen = ap (λ (s : SystemState). s.arenas) c.self.view_is in
    ran_empties _ _ _ _ (λ s. s.parts.now.arenas) (λ s. s.caches.now.items) (λ s. refl) (λ s t e x d. d.7) (λ s t e x d. d.2) c.args.self.now.arenas c.tree.result.now (suc (count_of_rounds c.new-running.result.caches.now.items)) _ _ _ (c.drain.ensures.ran (suc (count_of_rounds c.new-running.result.caches.now.items)) (omega arith)) (rw c.in-Ok.is refl) (ap (λ (p : LockedPartsState). nodes_of p.arenas) c.new-running.ensures.parts ∙ ap nodes_of seen) (c.tree.ensures ∙ seen) c.cpu.inside.number c.cpu.inside.hand _ refl

pub returns-in-Err-Stopped-None-clause-drained : goal.returns-in-Err-Stopped-None-clause-drained
returns-in-Err-Stopped-None-clause-drained g c =
    let seen = ap (λ (s : SystemState). s.arenas) c.self.view_is in
    absurd (ran_on _ _ _ _ (λ s. s.steps.noted) (λ s t e x d none. never_stops _ _ _ _ _ _ (λ _ _ no. no) d.0 d.3 none) c.args.self.now.arenas c.tree.result.now (suc (count_of_rounds c.new-running.result.caches.now.items)) _ _ (tag_emptying (λ (t : Tag). t) c.drain.result) (c.drain.ensures.ran (suc (count_of_rounds c.new-running.result.caches.now.items)) (omega arith)) c.new-running.ensures.unstopped (ap (λ (p : LockedPartsState). nodes_of p.arenas) c.new-running.ensures.parts ∙ ap nodes_of seen) (c.tree.ensures ∙ seen) (rw (c.in-Err-Stopped-None.is, c.in-Err-Stopped-None.field-0-is) tt))
