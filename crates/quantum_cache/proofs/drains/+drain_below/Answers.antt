use Rattle.std.proofs.Common.{◌-◌, Some, arith}
use Rattle.arena_tree.specs.declared.limits.TheConstants.{LONGEST_CHAIN}
use Rattle.quantum_cache.specs.Caches.{chain_in}
use Rattle.quantum_cache.specs.Drains.{drain_arena_plan}
use Rattle.quantum_cache.proofs.ChainsIn.{chain_is}
use Rattle.quantum_cache.proofs.Walks.{arenas_go, arenas_end}
use Rattle.quantum_cache.proofs.drains.+drain_below.Goals as goal

pub returns-in-Ok-clause-ran : goal.returns-in-Ok-clause-ran
returns-in-Ok-clause-ran g fall c =
    λ turns lt.
    let here = chain_is LONGEST_CHAIN c.args.tree.now (Some (c.args.end - 1)) c.chain.result.now c.chain.ensures.chain c.chain.ensures.short in
    arenas_go _ _ _ _ (λ id _. drain_arena_plan turns (chain_in c.args.tree.now id)) c.args.end tt tt _ _ _ _ (omega arith) (rw here at c.in-Ok.ensures.ran turns lt) (c.drain_below.ensures.ran turns (omega (arith, lt, c.in-Ok.ensures.no_more)))

pub returns-in-Err-clause-ran : goal.returns-in-Err-clause-ran
returns-in-Err-clause-ran g fall c =
    λ turns lt.
    let here = chain_is LONGEST_CHAIN c.args.tree.now (Some (c.args.end - 1)) c.chain.result.now c.chain.ensures.chain c.chain.ensures.short in
    arenas_end _ _ _ _ (λ id _. drain_arena_plan turns (chain_in c.args.tree.now id)) c.args.end tt _ _ _ (omega arith) (rw here at c.in-Err.ensures.ran turns lt)
