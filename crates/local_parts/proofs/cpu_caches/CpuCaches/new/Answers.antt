use Rattle.local_parts.proofs.NewCpus.{new_cpu_of}
use Rattle.local_parts.proofs.cpu_caches.CpuCaches.new.Goals as goal

pub returns-in-Ok-clause-of : goal.returns-in-Ok-clause-of
returns-in-Ok-clause-of g c = new_cpu_of c.args.size c.args.stock.now c.fill.new.self c.in-Ok.ensures.made
