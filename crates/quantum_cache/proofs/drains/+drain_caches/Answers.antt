use Rattle.std.proofs.Common.{arith}
use Rattle.quantum_cache.specs.Drains.{drain_cache_plan}
use Rattle.quantum_cache.proofs.Walks.{caches_go, caches_end}
use Rattle.quantum_cache.proofs.drains.+drain_caches.Goals as goal

pub returns-in-Ok-clause-ran : goal.returns-in-Ok-clause-ran
returns-in-Ok-clause-ran g fall c =
    λ turns lt. caches_go _ _ _ _ (λ cache _. drain_cache_plan turns c.args.arena cache) c.args.all c.args.left tt tt _ _ _ _ (omega arith) c.requires (c.in-Ok.ensures.ran turns lt) (c.drain_caches.ensures.ran turns (omega (arith, lt, c.in-Ok.ensures.no_more)))

pub returns-in-Err-clause-ran : goal.returns-in-Err-clause-ran
returns-in-Err-clause-ran g fall c =
    λ turns lt. caches_end _ _ _ _ (λ cache _. drain_cache_plan turns c.args.arena cache) c.args.all c.args.left tt _ _ _ (omega arith) c.requires (c.in-Err.ensures.ran turns lt)
