use Rattle.std.proofs.Common.{rules}
use Rattle.magazine_layer.proofs.Belonging.{among_more, push_among}
use Rattle.magazine_layer.proofs.cpu_caches.CpuCache.give.Goals as goal

pub returns-then-not-is_empty-clause-kinds : goal.returns-then-not-is_empty-clause-kinds
returns-then-not-is_empty-clause-kinds g c = among_more _ _

pub returns-clause-kinds : goal.returns-clause-kinds
returns-clause-kinds g c = push_among c.args.segment c.args.self.now
    (record { size = c.push.new.self.size; loaded = c.push.new.self.rounds; previous = c.if-is_full.self-inside.previous.rounds }) (search rules)
