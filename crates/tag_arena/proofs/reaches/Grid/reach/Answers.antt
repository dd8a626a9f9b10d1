use Rattle.std.proofs.Common.{◌≡◌, ℕ, ◌+◌, ◌-◌, ◌%◌, ◌<◌, ◌≤◌, subst}
use Rattle.tag_arena.specs.Reach.{reach_of}
use Rattle.tag_arena.proofs.Reaching.{reach_none, reach_open, reach_near, reach_both}
use Rattle.tag_arena.proofs.reaches.Grid.reach.Goals as goal

pub returns-then-first-end : goal.returns-then-first-end
returns-then-first-end c =
    let i = c.self.inside in
    let f = c.least_aligned-first.ensures in
    subst (λ g. 0 ≡ reach_of g c.args.base c.args.end) c.self.view_is (reach_none i.align i.phase i.nocross c.args.base c.args.end c.least_aligned-first.result c.self.invariant.0 f.from_low f.aligned f.least c.if-first-end.true)

pub returns-then-nocross-eq0 : goal.returns-then-nocross-eq0
returns-then-nocross-eq0 c =
    let i = c.self.inside in
    let f = c.least_aligned-first.ensures in
    let first = c.least_aligned-first.result in
    subst (λ g. c.args.end - first ≡ reach_of g c.args.base c.args.end) c.self.view_is (reach_open i.align i.phase i.nocross c.args.base c.args.end first c.self.invariant.0 f.from_low f.aligned f.least c.if-nocross-eq0.true)

pub returns-then-edge-end : goal.returns-then-edge-end
returns-then-edge-end c =
    let i = c.self.inside in
    let f = c.least_aligned-first.ensures in
    let first = c.least_aligned-first.result in
    subst (λ g. c.args.end - first ≡ reach_of g c.args.base c.args.end) c.self.view_is (reach_near i.align i.phase i.nocross c.args.base c.args.end first c.self.invariant.0 f.from_low f.aligned f.least c.if-nocross-eq0.false (subst (λ r. c.args.end ≤ first - r + i.nocross) c.rest_in.ensures c.if-edge-end.true))

pub returns : goal.returns
returns c =
    let i = c.self.inside in
    let f = c.least_aligned-first.ensures in
    let s = c.least_aligned-second.ensures in
    let first = c.least_aligned-first.result in
    let second = c.least_aligned-second.result in
    let e = c.rest_in.ensures in
    let far = reach_both i.align i.phase i.nocross c.args.base c.args.end first c.self.invariant.0 f.from_low f.aligned f.least second c.if-nocross-eq0.false (subst (λ r. first - r + i.nocross < c.args.end) e c.if-edge-end.false) (subst (λ r. first - r + i.nocross ≤ second) e s.from_low) s.aligned (subst (λ r. (b : ℕ) → first - r + i.nocross ≤ b → b % i.align ≡ i.phase → second ≤ b) e s.least) in
    subst (λ g. c.max.result ≡ reach_of g c.args.base c.args.end) c.self.view_is (cc (far, c.max.ensures, c.min.ensures, c.saturating_sub.ensures))
