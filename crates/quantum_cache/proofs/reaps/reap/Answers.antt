use Rattle.std.proofs.Common.{◌+◌, ◌-◌, ◌*◌}
use Rattle.arena_tree.specs.declared.limits.TheConstants.{LONGEST_CHAIN}
use Rattle.arena_tree.proofs.LawProofs.{ran_counts}
use Rattle.quantum_cache.specs.Laws.{looks_left}
use Rattle.quantum_cache.specs.Reaps.{ReapEnd, reap_plan}
use Rattle.quantum_cache.proofs.ReapBounds.{reap_is_short}
use Rattle.quantum_cache.proofs.reaps.reap.Goals as goal

pub returns-clause-few : goal.returns-clause-few
returns-clause-few g c = ran_counts _ _ _ _ (λ (r : ReapEnd). (1 + LONGEST_CHAIN) * (c.args.limit - looks_left r)) (reap_plan c.args.tree.now c.args.limit) _ _ _ (rw c.len.ensures.value at c.reap_below.ensures.ran) (reap_is_short c.args.tree.now c.args.limit)
