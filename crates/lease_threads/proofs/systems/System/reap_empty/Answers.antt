use Rattle.std.proofs.Common.{sym, refl, ap, map, ◌∙◌, Ok}
use Rattle.arena_tree.specs.Trees.{nodes_of}
use Rattle.locked_parts.specs.Kinds.{OwnCacheState}
use Rattle.locked_parts.specs.States.{LockedPartsState}
use Rattle.lease_threads.specs.Systems.{SystemState, CpuState}
use Rattle.lease_threads.proofs.Runs.{ran_leaves}
use Rattle.lease_threads.proofs.Reaped.{never_stops, ran_reaps}
use Rattle.lease_threads.proofs.systems.System.reap_empty.Goals as goal

pub shape_of-cpu-inside : goal.shape_of-cpu-inside
shape_of-cpu-inside g c = sym (ran_leaves _ _ _ _ (λ s. s.caches.ghost_name) (λ s t e x d. d.1) _ _ _ _ c.reap_arena.ensures.ran ∙ c.new-running.ensures.loan)

pub returns-in-Ok-clause-reaped : goal.returns-in-Ok-clause-reaped
returns-in-Ok-clause-reaped g c =
    λ within. (let seen = ap (λ (s : SystemState). s.arenas) c.self.view_is in
    ran_reaps _ _ _ _ (λ s. s.steps.noted) (λ s t e x d none. never_stops _ _ _ _ _ _ (λ _ _ no. no) d.0 d.3 none) c.args.self.now.arenas c.tree-2.result.now c.args.arena c.args.limit c.in-Ok.reaping c.cpu.inside.hand c.chain-chain.result.now _ _ (Ok c.in-Ok.reaping) c.in-Ok.ensures.ran c.new-running.ensures.unstopped (ap (λ (p : LockedPartsState). nodes_of p.arenas) c.new-running.ensures.parts ∙ ap nodes_of seen) (c.tree-2.ensures ∙ seen) c.chain-chain.ensures.chain (refl, (ap (λ (s : CpuState). s.hand) c.cpu.view_is ∙ c.requires)))

pub returns-in-Stuck-clause-reaped : goal.returns-in-Stuck-clause-reaped
returns-in-Stuck-clause-reaped g c =
    λ within. (let seen = ap (λ (s : SystemState). s.arenas) c.self.view_is in
    ran_reaps _ _ _ _ (λ s. s.steps.noted) (λ s t e x d none. never_stops _ _ _ _ _ _ (λ _ _ no. no) d.0 d.3 none) c.args.self.now.arenas c.tree-2.result.now c.args.arena c.args.limit c.in-Err.field-0.reaping c.hold.new.self.hand c.chain-chain.result.now _ _ _ c.in-Err.ensures.ran c.new-running.ensures.unstopped (ap (λ (p : LockedPartsState). nodes_of p.arenas) c.new-running.ensures.parts ∙ ap nodes_of seen) (c.tree-2.ensures ∙ seen) c.chain-chain.ensures.chain (refl, rw c.in-Stuck.is (ap (λ (s : CpuState). s.hand) c.hold.ensures)))

pub returns-in-Stopped-Some-clause-reaped : goal.returns-in-Stopped-Some-clause-reaped
returns-in-Stopped-Some-clause-reaped g c =
    λ within. (let seen = ap (λ (s : SystemState). s.arenas) c.self.view_is in
    ran_reaps _ _ _ _ (λ s. s.steps.noted) (λ s t e x d none. never_stops _ _ _ _ _ _ (λ _ _ no. no) d.0 d.3 none) c.args.self.now.arenas c.tree-2.result.now c.args.arena c.args.limit c.in-Err.field-0.reaping c.hold-in-Stopped-Some.new.self.hand c.chain-chain.result.now _ _ _ c.in-Err.ensures.ran c.new-running.ensures.unstopped (ap (λ (p : LockedPartsState). nodes_of p.arenas) c.new-running.ensures.parts ∙ ap nodes_of seen) (c.tree-2.ensures ∙ seen) c.chain-chain.ensures.chain (refl, rw (c.in-Stopped-Some.is, c.in-Stopped-Some.field-0-is) (ap (λ (s : CpuState). s.hand) c.hold-in-Stopped-Some.ensures)))

pub returns-in-Stopped-None-clause-reaped : goal.returns-in-Stopped-None-clause-reaped
returns-in-Stopped-None-clause-reaped g c =
    λ within. (let seen = ap (λ (s : SystemState). s.arenas) c.self.view_is in
    ran_reaps _ _ _ _ (λ s. s.steps.noted) (λ s t e x d none. never_stops _ _ _ _ _ _ (λ _ _ no. no) d.0 d.3 none) c.args.self.now.arenas c.tree-2.result.now c.args.arena c.args.limit c.in-Err.field-0.reaping c.cpu.inside.hand c.chain-chain.result.now _ _ _ c.in-Err.ensures.ran c.new-running.ensures.unstopped (ap (λ (p : LockedPartsState). nodes_of p.arenas) c.new-running.ensures.parts ∙ ap nodes_of seen) (c.tree-2.ensures ∙ seen) c.chain-chain.ensures.chain (refl, rw (c.in-Stopped-None.is, c.in-Stopped-None.field-0-is) (ap (λ (s : CpuState). s.hand) c.cpu.view_is ∙ c.requires)))

pub returns-in-Ok-clause-magazines : goal.returns-in-Ok-clause-magazines
returns-in-Ok-clause-magazines g c = ran_leaves _ _ _ _ (λ s. map (λ (r : OwnCacheState). r.kind) s.caches.now.items) (λ s t e x d. d.2) _ _ _ _ c.reap_arena.ensures.ran ∙ ap (λ v. map (λ (r : OwnCacheState). r.kind) v.items) c.new-running.ensures.caches ∙ ap (λ (s : CpuState). map (λ (r : OwnCacheState). r.kind) s.caches) c.cpu.view_is

pub returns-in-Stuck-clause-magazines : goal.returns-in-Stuck-clause-magazines
returns-in-Stuck-clause-magazines g c = ap (λ (s : CpuState). map (λ (r : OwnCacheState). r.kind) s.caches) c.hold.ensures ∙ ran_leaves _ _ _ _ (λ s. map (λ (r : OwnCacheState). r.kind) s.caches.now.items) (λ s t e x d. d.2) _ _ _ _ c.reap_arena.ensures.ran ∙ ap (λ v. map (λ (r : OwnCacheState). r.kind) v.items) c.new-running.ensures.caches ∙ ap (λ (s : CpuState). map (λ (r : OwnCacheState). r.kind) s.caches) c.cpu.view_is

pub returns-in-Stopped-Some-clause-magazines : goal.returns-in-Stopped-Some-clause-magazines
returns-in-Stopped-Some-clause-magazines g c = ap (λ (s : CpuState). map (λ (r : OwnCacheState). r.kind) s.caches) c.hold-in-Stopped-Some.ensures ∙ ran_leaves _ _ _ _ (λ s. map (λ (r : OwnCacheState). r.kind) s.caches.now.items) (λ s t e x d. d.2) _ _ _ _ c.reap_arena.ensures.ran ∙ ap (λ v. map (λ (r : OwnCacheState). r.kind) v.items) c.new-running.ensures.caches ∙ ap (λ (s : CpuState). map (λ (r : OwnCacheState). r.kind) s.caches) c.cpu.view_is

pub returns-in-Stopped-None-clause-magazines : goal.returns-in-Stopped-None-clause-magazines
returns-in-Stopped-None-clause-magazines g c = ran_leaves _ _ _ _ (λ s. map (λ (r : OwnCacheState). r.kind) s.caches.now.items) (λ s t e x d. d.2) _ _ _ _ c.reap_arena.ensures.ran ∙ ap (λ v. map (λ (r : OwnCacheState). r.kind) v.items) c.new-running.ensures.caches ∙ ap (λ (s : CpuState). map (λ (r : OwnCacheState). r.kind) s.caches) c.cpu.view_is
