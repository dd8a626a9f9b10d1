use Rattle.std.proofs.Common.{◌+◌, ◌-◌, ◌*◌}
use Rattle.arena_tree.specs.declared.limits.TheConstants.{LONGEST_CHAIN}
use Rattle.arena_tree.proofs.LawProofs.{ran_counts}
use Rattle.quantum_cache.specs.Laws.{looks_left}
use Rattle.quantum_cache.specs.Reaps.{ReapEnd, reap_arena_plan}
use Rattle.quantum_cache.proofs.ReapBounds.{reap_arena_is_short}
use Rattle.quantum_cache.proofs.reaps.reap_arena.Goals as goal

pub returns-clause-few : goal.returns-clause-few
returns-clause-few g c = λ short. ran_counts _ _ _ _ (λ (r : ReapEnd). (1 + LONGEST_CHAIN) * (c.args.limit - looks_left r)) (reap_arena_plan c.args.chain.now (record { left = c.args.limit; units = 0 })) _ _ _ c.reap_chain.ensures.ran (reap_arena_is_short c.args.chain.now c.args.limit short)
