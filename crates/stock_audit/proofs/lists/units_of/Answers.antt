use Rattle.std.proofs.Common.{◌≤◌, length, sym, ◌∙◌, arith}
use Rattle.deed_core.specs.Covering.{units_in}
use Rattle.stock_audit.proofs.Placing.{held_weigh}
use Rattle.stock_audit.proofs.Counting.{arena_weight, all_counted}
use Rattle.stock_audit.proofs.lists.units_of.Goals as goal

pub returns : goal.returns
returns g c =
    let past : length c.args.segments.now ≤ c.loop-segment.segment-index = omega arith in
    c.loop-segment.invariant.total ∙ (all_counted (arena_weight c.args.arena) c.args.segments.now c.loop-segment.segment-index past ∙ sym (held_weigh c.args.arena units_in c.args.segments.now))
