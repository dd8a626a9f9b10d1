use Rattle.magazine_layer.proofs.Belonging.{among_itself}
use Rattle.std.proofs.Common.{◌++◌}
use Rattle.magazine_layer.proofs.cpu_caches.CpuCache.unload.Goals as goal

pub returns-clause-kinds : goal.returns-clause-kinds
returns-clause-kinds g c = rw (← c.self.view_is) (among_itself (c.self.inside.previous.rounds ++ c.self.inside.loaded.rounds))
