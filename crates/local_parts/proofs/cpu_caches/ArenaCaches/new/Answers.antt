use Rattle.local_parts.proofs.NewCpus.{quantum_some}
use Rattle.local_parts.proofs.cpu_caches.ArenaCaches.new.Goals as goal

pub fill-requires-clause-some : goal.fill-requires-clause-some
fill-requires-clause-some g c = quantum_some c.args.stock.now c.args.arena c.quantum-quantum.result c.count.ensures.stock c.requires.within c.quantum-quantum.ensures.value
