use Rattle.std.proofs.Common.{rules}
use Rattle.magazine_layer.proofs.Belonging.{change_among}
use Rattle.magazine_layer.proofs.cpu_caches.CpuCache.change.Goals as goal

pub returns-clause-kinds : goal.returns-clause-kinds
returns-clause-kinds g c = change_among c.args.loaded.size c.args.self.now
    (record { size = c.append-2.new.self.size; loaded = c.append-2.new.self.rounds; previous = c.replace-old_previous.new.dest.rounds }) (search rules)
