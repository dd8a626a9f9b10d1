use Rattle.std.proofs.Common.{◌<◌, length, arith}
use Rattle.stock.proofs.Planning.{can_import, front_more}
use Rattle.stock.proofs.setups.StockSetup.of_tree.Goals as goal

pub add_planned-added-requires-clause-source : goal.add_planned-added-requires-clause-source
add_planned-added-requires-clause-source g c =
    let within : c.loop-id.id < length c.args.tree.now = omega arith in
    can_import c.args.tree.now c.loop-id.setup c.loop-id.id within c.loop-id.invariant.planned c.arena.result.now c.len-id-end.ensures.tree c.arena.ensures.arena

pub loop-id-preserved : goal.loop-id-preserved
loop-id-preserved g c =
    let within : c.loop-id.id < length c.args.tree.now = omega arith in
    record {
      planned = front_more c.args.tree.now c.loop-id.setup c.loop-id.id within c.loop-id.invariant.planned c.arena.result.now c.add_planned-added.new.self c.arena.ensures.here c.in_default.ensures.planned;
      unused = c.add_planned-added.ensures.unused c.loop-id.invariant.unused;
    }
