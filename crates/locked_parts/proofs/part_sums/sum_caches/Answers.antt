use Rattle.locked_parts.proofs.Sums.{adds_more}
use Rattle.locked_parts.proofs.part_sums.sum_caches.Goals as goal

pub loop-before-preserved : goal.loop-before-preserved
loop-before-preserved g c = adds_more (g.C.CacheUnits.tells c.args.caches.now) c.loop-before.before c.loop-before.units c.units-one.result c.saturating_add-units.result c.loop-before.invariant c.units-one.ensures c.saturating_add-units.ensures
