use Rattle.std.proofs.Common.{arith}
use Rattle.tag_arena.proofs.Newest.{least_power}
use Rattle.tag_arena.proofs.searches.least_list.Goals as goal

pub returns-clause-least : goal.returns-clause-least
returns-clause-least c = least_power c.args.units c.ilog2.result c.ilog2.ensures.power_le (omega arith)
