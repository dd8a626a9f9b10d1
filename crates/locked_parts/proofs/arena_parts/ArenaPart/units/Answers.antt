use Rattle.std.proofs.Common.{ap}
use Rattle.locked_parts.specs.Answers.{ArenaPartState}
use Rattle.locked_parts.proofs.arena_parts.ArenaPart.units.Goals as goal

pub returns-clause-tells : goal.returns-clause-tells
returns-clause-tells g c = record {
  arena = c.self.inside.arena;
  sound = c.report-report.ensures.sound;
  number = ap (λ (p : ArenaPartState). p.arena.id) c.self.view_is;
  free = c.report-report.ensures.free;
  allocated = c.report-report.ensures.allocated;
}
