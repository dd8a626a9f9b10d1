use Rattle.std.proofs.Common.{arith}
use Rattle.quantum_cache.specs.Reaps.{reap_cache}
use Rattle.quantum_cache.proofs.Walks.{caches_go, caches_end}
use Rattle.quantum_cache.proofs.reaps.+reap_caches.Goals as goal

pub returns-in-Ok-clause-ran : goal.returns-in-Ok-clause-ran
returns-in-Ok-clause-ran g fall c = caches_go _ _ _ _ (reap_cache c.args.chain.now c.args.arena) c.args.all c.args.left c.args.before _ _ _ _ _ (omega arith) c.requires.left c.in-Ok.ensures.ran c.reap_caches.ensures.ran

pub returns-in-Err-clause-ran : goal.returns-in-Err-clause-ran
returns-in-Err-clause-ran g fall c = caches_end _ _ _ _ (reap_cache c.args.chain.now c.args.arena) c.args.all c.args.left c.args.before _ _ _ (omega arith) c.requires.left c.in-Err.ensures.ran
