use Rattle.std.proofs.Common.{◌≡◌, ◌∙◌, map, ap, sym, subst, List, Option}
use Rattle.deed_core.specs.Tag.{Tag}
use Rattle.deed_table.specs.declared.deeds.SeatDeed.{SeatDeed}
use Rattle.arena_tree.specs.Trees.{nodes_of}
use Rattle.lease_call.specs.Releasing.{CallEnd}
use Rattle.lease_call.specs.Requesting.{request_plan}
use Rattle.arena_tree.specs.Tags.{tag_option}
use Rattle.arena_tree.specs.declared.trees.TreeArena.{TreeArena}
use Rattle.arena_tree.proofs.LawProofs.{tag_option_same}
use Rattle.lease_call.specs.CallTags.{tag_end}
use Rattle.lease_call.specs.Stopping.{call_stopped}
use Rattle.lease_call.proofs.LawProofs.{end_same, request_stops}
use Rattle.locked_parts.specs.Gates.{MayStop}
use Rattle.locked_parts.specs.Kinds.{OwnCacheState}
use Rattle.locked_parts.specs.States.{LockedPartsState}
use Rattle.locked_parts.specs.declared.gates.NextStep.{NextStep}
use Rattle.lease_threads.specs.Calling.{WentThrough, StopsIn}
use Rattle.lease_threads.specs.Systems.{CpuState, SystemState}
use Rattle.lease_threads.proofs.CallRuns.{EndsAsked, asked_same, call_asks, let_same, stops_in, went_through, told_on, stopped_on}
use Rattle.lease_threads.proofs.systems.System.run_request.Goals as goal

pub shape_of-cpu-inside : goal.shape_of-cpu-inside
shape_of-cpu-inside g c =
    let all = went_through g.G.Gate.may_stop g.G.Gate.passed (λ s. s.gate.now) (λ s. s.steps) (λ s. s.steps.noted) (λ s. s.caches.ghost_name) (λ s. map (λ (r : OwnCacheState). r.kind) s.caches.now.items) _ _ _ _ _ (λ s t e x d. (record { notes = d.0; loan = d.1; shape = d.2 }, d.3, d.5)) (λ f h s t k x d. (record { notes = d.0; loan = d.1; shape = ap (λ v. map (λ (r : OwnCacheState). r.kind) v.items) d.2 }, d.3, call_asks g.G.Gate.may_stop g.G.Gate.passed s.gate.now k x s.steps t.steps d.4)) _ _ _ _ _ _ (request_stops (SeatDeed g.row.N.Denot) c.tree-tree.result.now (tag_option (λ (t : Tag). t) c.take-hand.result) c.args.id c.args.op.now) c.new-running.ensures.unstopped c.new-running.ensures.first.1 c.request-ended.ensures.ran in
    sym (all.stays.loan ∙ c.new-running.ensures.loan)

pub returns-clause-magazines : goal.returns-clause-magazines
returns-clause-magazines g c =
    let all = went_through g.G.Gate.may_stop g.G.Gate.passed (λ s. s.gate.now) (λ s. s.steps) (λ s. s.steps.noted) (λ s. s.caches.ghost_name) (λ s. map (λ (r : OwnCacheState). r.kind) s.caches.now.items) _ _ _ _ _ (λ s t e x d. (record { notes = d.0; loan = d.1; shape = d.2 }, d.3, d.5)) (λ f h s t k x d. (record { notes = d.0; loan = d.1; shape = ap (λ v. map (λ (r : OwnCacheState). r.kind) v.items) d.2 }, d.3, call_asks g.G.Gate.may_stop g.G.Gate.passed s.gate.now k x s.steps t.steps d.4)) _ _ _ _ _ _ (request_stops (SeatDeed g.row.N.Denot) c.tree-tree.result.now (tag_option (λ (t : Tag). t) c.take-hand.result) c.args.id c.args.op.now) c.new-running.ensures.unstopped c.new-running.ensures.first.1 c.request-ended.ensures.ran in
    ap (λ v. map (λ (r : OwnCacheState). r.kind) v) c.unless_stopped.ensures.magazines ∙ all.stays.shape ∙ ap (λ v. map (λ (r : OwnCacheState). r.kind) v.items) c.new-running.ensures.caches ∙ ap (λ (s : CpuState). map (λ (r : OwnCacheState). r.kind) s.caches) c.cpu.view_is

pub returns-clause-stopped : goal.returns-clause-stopped
returns-clause-stopped g c =
    let all = went_through g.G.Gate.may_stop g.G.Gate.passed (λ s. s.gate.now) (λ s. s.steps) (λ s. s.steps.noted) (λ s. s.caches.ghost_name) (λ s. map (λ (r : OwnCacheState). r.kind) s.caches.now.items) _ _ _ _ _ (λ s t e x d. (record { notes = d.0; loan = d.1; shape = d.2 }, d.3, d.5)) (λ f h s t k x d. (record { notes = d.0; loan = d.1; shape = ap (λ v. map (λ (r : OwnCacheState). r.kind) v.items) d.2 }, d.3, call_asks g.G.Gate.may_stop g.G.Gate.passed s.gate.now k x s.steps t.steps d.4)) _ _ _ _ _ _ (request_stops (SeatDeed g.row.N.Denot) c.tree-tree.result.now (tag_option (λ (t : Tag). t) c.take-hand.result) c.args.id c.args.op.now) c.new-running.ensures.unstopped c.new-running.ensures.first.1 c.request-ended.ensures.ran in
    stopped_on (MayStop g.G.Gate.may_stop c.args.gate.now) _ _ _ c.unless_stopped.ensures.told (λ is. subst (MayStop g.G.Gate.may_stop) c.new-running.ensures.gate (all.stops (ap call_stopped (end_same _ ∙ is))))

pub returns-clause-went : goal.returns-clause-went
returns-clause-went g c =
    let all = went_through g.G.Gate.may_stop g.G.Gate.passed (λ s. s.gate.now) (λ s. s.steps) (λ s. s.steps.noted) (λ s. s.caches.ghost_name) (λ s. map (λ (r : OwnCacheState). r.kind) s.caches.now.items) _ _ _ _ _ (λ s t e x d. (record { notes = d.0; loan = d.1; shape = d.2 }, d.3, d.5)) (λ f h s t k x d. (record { notes = d.0; loan = d.1; shape = ap (λ v. map (λ (r : OwnCacheState). r.kind) v.items) d.2 }, d.3, call_asks g.G.Gate.may_stop g.G.Gate.passed s.gate.now k x s.steps t.steps d.4)) _ _ _ _ _ _ (request_stops (SeatDeed g.row.N.Denot) c.tree-tree.result.now (tag_option (λ (t : Tag). t) c.take-hand.result) c.args.id c.args.op.now) c.new-running.ensures.unstopped c.new-running.ensures.first.1 c.request-ended.ensures.ran in
    let arenas : c.self.inside.parts.arenas ≡ c.args.self.now.arenas = ap (λ (s : SystemState). s.arenas) c.self.view_is in
    let hand : tag_option (λ (t : Tag). t) c.take-hand.result ≡ c.args.cpu.now.hand = tag_option_same _ ∙ (c.take-hand.ensures.value ∙ ap (λ (s : CpuState). s.hand) c.cpu.view_is) in
    let passed : NextStep → Type 0 = g.G.Gate.passed c.new-running.result.gate.now in
    let cpu = c.new-running.result.steps.cpu in
    told_on (WentThrough c.args.self.now.arenas (g.G.Gate.passed c.args.gate.now) c.args.cpu.now.number (request_plan {D = SeatDeed g.row.N.Denot} c.args.self.now.arenas c.args.cpu.now.hand c.args.id c.args.op.now)) c.request-ended.result _ _ c.unless_stopped.ensures.told (λ goes. let_same c.args.self.now.arenas g.G.Gate.passed _ _ _ _ _ _ c.new-running.ensures.gate (c.new-running.ensures.first.0 ∙ c.number-number.ensures ∙ ap (λ (s : CpuState). s.number) c.cpu.view_is)
    (subst (λ (xs : List TreeArena). WentThrough xs passed cpu (request_plan {D = SeatDeed g.row.N.Denot} xs c.args.cpu.now.hand c.args.id c.args.op.now) c.request-ended.result) arenas
    (subst (λ (xs : List TreeArena). WentThrough c.self.inside.parts.arenas passed cpu (request_plan {D = SeatDeed g.row.N.Denot} xs c.args.cpu.now.hand c.args.id c.args.op.now) c.request-ended.result) c.tree-tree.ensures
    (subst (λ (h : Option Tag). WentThrough c.self.inside.parts.arenas passed cpu (request_plan {D = SeatDeed g.row.N.Denot} c.tree-tree.result.now h c.args.id c.args.op.now) c.request-ended.result) hand
    (subst (λ (r : CallEnd (SeatDeed g.row.N.Denot)). WentThrough c.self.inside.parts.arenas passed cpu (request_plan {D = SeatDeed g.row.N.Denot} c.tree-tree.result.now (tag_option (λ (t : Tag). t) c.take-hand.result) c.args.id c.args.op.now) r) (end_same _)
    (subst (λ (p : LockedPartsState). WentThrough p.arenas passed cpu (request_plan {D = SeatDeed g.row.N.Denot} c.tree-tree.result.now (tag_option (λ (t : Tag). t) c.take-hand.result) c.args.id c.args.op.now) (tag_end (λ (t : Tag). t) c.request-ended.result)) c.new-running.ensures.parts (let e = all.ends (ap call_stopped (end_same _) ∙ goes) in record { gone = e.gone; let_come = e.let_come })))))))

pub returns-clause-left : goal.returns-clause-left
returns-clause-left g c =
    let all = went_through g.G.Gate.may_stop g.G.Gate.passed (λ s. s.gate.now) (λ s. s.steps) (λ s. s.steps.noted) (λ s. s.caches.ghost_name) (λ s. map (λ (r : OwnCacheState). r.kind) s.caches.now.items) _ _ _ _ _ (λ s t e x d. (record { notes = d.0; loan = d.1; shape = d.2 }, d.3, d.5)) (λ f h s t k x d. (record { notes = d.0; loan = d.1; shape = ap (λ v. map (λ (r : OwnCacheState). r.kind) v.items) d.2 }, d.3, call_asks g.G.Gate.may_stop g.G.Gate.passed s.gate.now k x s.steps t.steps d.4)) _ _ _ _ _ _ (request_stops (SeatDeed g.row.N.Denot) c.tree-tree.result.now (tag_option (λ (t : Tag). t) c.take-hand.result) c.args.id c.args.op.now) c.new-running.ensures.unstopped c.new-running.ensures.first.1 c.request-ended.ensures.ran in
    let arenas : c.self.inside.parts.arenas ≡ c.args.self.now.arenas = ap (λ (s : SystemState). s.arenas) c.self.view_is in
    let hand : tag_option (λ (t : Tag). t) c.take-hand.result ≡ c.args.cpu.now.hand = tag_option_same _ ∙ (c.take-hand.ensures.value ∙ ap (λ (s : CpuState). s.hand) c.cpu.view_is) in
    let may : NextStep → Type 0 = g.G.Gate.may_stop c.new-running.result.gate.now in
    let passed : NextStep → Type 0 = g.G.Gate.passed c.new-running.result.gate.now in
    let cpu = c.new-running.result.steps.cpu in
    stopped_on (StopsIn c.args.self.now.arenas (g.G.Gate.may_stop c.args.gate.now) (g.G.Gate.passed c.args.gate.now) c.args.cpu.now.number (request_plan {D = SeatDeed g.row.N.Denot} c.args.self.now.arenas c.args.cpu.now.hand c.args.id c.args.op.now) c.unless_stopped.new.cpu.hand) c.request-ended.result _ _ c.unless_stopped.ensures.told (λ is. asked_same c.args.self.now.arenas g.G.Gate.may_stop g.G.Gate.passed _ _ _ _ _ _ c.new-running.ensures.gate (c.new-running.ensures.first.0 ∙ c.number-number.ensures ∙ ap (λ (s : CpuState). s.number) c.cpu.view_is)
    (subst (λ (xs : List TreeArena). StopsIn xs may passed cpu (request_plan {D = SeatDeed g.row.N.Denot} xs c.args.cpu.now.hand c.args.id c.args.op.now) c.unless_stopped.new.cpu.hand) arenas
    (subst (λ (xs : List TreeArena). StopsIn c.self.inside.parts.arenas may passed cpu (request_plan {D = SeatDeed g.row.N.Denot} xs c.args.cpu.now.hand c.args.id c.args.op.now) c.unless_stopped.new.cpu.hand) c.tree-tree.ensures
    (subst (λ (h : Option Tag). StopsIn c.self.inside.parts.arenas may passed cpu (request_plan {D = SeatDeed g.row.N.Denot} c.tree-tree.result.now h c.args.id c.args.op.now) c.unless_stopped.new.cpu.hand) hand
    (stops_in c.self.inside.parts.arenas may passed cpu _ _ (subst (λ (r : CallEnd (SeatDeed g.row.N.Denot)). EndsAsked (nodes_of c.self.inside.parts.arenas) may passed cpu (request_plan {D = SeatDeed g.row.N.Denot} c.tree-tree.result.now (tag_option (λ (t : Tag). t) c.take-hand.result) c.args.id c.args.op.now) r) (end_same _ ∙ is)
    (subst (λ (p : LockedPartsState). EndsAsked (nodes_of p.arenas) may passed cpu (request_plan {D = SeatDeed g.row.N.Denot} c.tree-tree.result.now (tag_option (λ (t : Tag). t) c.take-hand.result) c.args.id c.args.op.now) (tag_end (λ (t : Tag). t) c.request-ended.result)) c.new-running.ensures.parts all.asked)))))))
