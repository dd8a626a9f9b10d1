use Rattle.std.proofs.Common.{◌<◌, ◌∙◌, ap, sym, arith, length}
use Rattle.lease_threads.specs.Systems.{SystemState}
use Rattle.lease_threads.proofs.Gathered.{roots_later, told_later, told_more}
use Rattle.lease_threads.proofs.gathering.gather.Goals as goal

pub returns-in_err-ranges-clause-roots : goal.returns-in_err-ranges-clause-roots
returns-in_err-ranges-clause-roots g c =
    roots_later c.args.system.now c.loop-id.system c.loop-id.invariant.arenas c.loop-id.invariant.roots c.gather_at.new.system.roots c.gather_at.ensures.roots

pub loop-id-preserved : goal.loop-id-preserved
loop-id-preserved g c =
    let before = c.args.system.now in
    let now = c.loop-id.system in
    let ranges = c.in_ok-ranges.ranges in
    let count = ap length c.loop-id.invariant.arenas in
    let tree = ap length c.tree.ensures in
    let view = ap (λ (s : SystemState). length s.arenas) c.system.view_is in
    let within : c.loop-id.id < length now.roots = omega (arith, c.loop-id-test.true, c.len-count.ensures.value, tree, view, count, c.loop-id.invariant.roots.for_each.here, c.loop-id.invariant.roots.for_each.roots) in
    record {
      arenas = c.gather_at.ensures.arenas ∙ c.loop-id.invariant.arenas;
      roots = roots_later before now c.loop-id.invariant.arenas c.loop-id.invariant.roots c.gather_at.new.system.roots c.gather_at.ensures.roots;
      told = told_more before c.loop-id.told.items c.push_reserved.new.self.items ranges c.loop-id.id (sym c.loop-id.told.ok.0 ∙ c.loop-id.invariant.len) c.push_reserved.ensures.items c.loop-id.invariant.told
          (told_later before now c.loop-id.invariant.arenas c.loop-id.invariant.roots c.loop-id.id ranges.items within c.in_ok-ranges.ensures.told);
      len = omega (arith, c.loop-id.invariant.len, c.push_reserved.ensures.len);
      room = omega (arith, c.loop-id.invariant.room, c.push_reserved.ensures.capacity);
      turn = c.in_ok-ranges.ensures.turn c.loop-id.invariant.turn;
    }

pub returns-clause-turn : goal.returns-clause-turn
returns-clause-turn g c =
    let count = ap length c.loop-id.invariant.arenas in
    let tree = ap length c.tree.ensures in
    let view = ap (λ (s : SystemState). length s.arenas) c.system.view_is in
    λ k r at within. c.loop-id.invariant.turn k r at (omega (arith, within, c.loop-id-test.false, c.len-count.ensures.value, tree, view, count))
