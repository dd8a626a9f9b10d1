use Rattle.magazine_layer.proofs.Belonging.{among_itself}
use Rattle.magazine_layer.proofs.cpu_caches.CpuCache.change_over.Goals as goal

pub returns-in_err-first-clause-kinds : goal.returns-in_err-first-clause-kinds
returns-in_err-first-clause-kinds g c = among_itself _
