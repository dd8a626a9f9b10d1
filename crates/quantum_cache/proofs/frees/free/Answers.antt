use Rattle.std.proofs.Common.{length}
use Rattle.arena_tree.proofs.LawProofs.{ran_counts}
use Rattle.arena_tree.specs.Climbs.{ReturnEnd}
use Rattle.quantum_cache.specs.Frees.{free_plan}
use Rattle.quantum_cache.specs.Laws.{free_most}
use Rattle.quantum_cache.proofs.FreeBounds.{free_is_short}
use Rattle.quantum_cache.proofs.frees.free.Goals as goal

pub returns-clause-few : goal.returns-clause-few
returns-clause-few g c =
    let t = g.S.Held.tag c.args.segment in
    ran_counts _ _ _ _ (λ (r : ReturnEnd). free_most t.route (length c.args.chain.now)) (free_plan c.args.chain.now t) _ _ _ c.place.ensures.ran (free_is_short c.args.chain.now t)
