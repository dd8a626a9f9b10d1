use Rattle.std.proofs.Common.{rules}
use Rattle.magazine_layer.proofs.Belonging.{magazine_take_among}
use Rattle.magazine_layer.proofs.magazines.Magazine.take.Goals as goal

pub returns-clause-kinds : goal.returns-clause-kinds
returns-clause-kinds g c = magazine_take_among c.args.self.now (record { size = c.self.inside.size; rounds = c.pop.new.self.items }) c.pop.result (search rules)
