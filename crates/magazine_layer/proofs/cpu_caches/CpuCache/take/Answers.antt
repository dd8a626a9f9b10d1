use Rattle.std.proofs.Common.{rules}
use Rattle.magazine_layer.proofs.Belonging.{pop_among}
use Rattle.magazine_layer.proofs.cpu_caches.CpuCache.take.Goals as goal

pub returns-then-not-is_empty-clause-kinds : goal.returns-then-not-is_empty-clause-kinds
returns-then-not-is_empty-clause-kinds g c = pop_among c.args.self.now
    (record { size = c.take.new.self.size; loaded = c.take.new.self.rounds; previous = c.self.inside.previous.rounds }) c.take.result (search rules)

pub returns-clause-kinds : goal.returns-clause-kinds
returns-clause-kinds g c = pop_among c.args.self.now
    (record { size = c.take-2.new.self.size; loaded = c.take-2.new.self.rounds; previous = c.swap.new.y.rounds }) c.take-2.result (search rules)
