use Rattle.std.proofs.Common.{arith}
use Rattle.locked_parts.proofs.slab_parts.slab_units.Goals as goal

pub returns-clause-tells : goal.returns-clause-tells
returns-clause-tells g c = record {
  slabs = c.args.slab.now;
  sound = c.arena.ensures.sound;
  of_kind = c.requires;
  told = omega (arith, c.from.ensures, c.from-2.ensures, c.from-3.ensures, c.report-report.ensures.deeds);
}
