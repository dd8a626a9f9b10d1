use Rattle.std.proofs.Common.{length}
use Rattle.arena_tree.specs.Climbs.{ReturnEnd, return_plan}
use Rattle.arena_tree.proofs.Paths.{ran_counts}
use Rattle.arena_tree.proofs.ClimbBounds.{return_is_short}
use Rattle.arena_tree.proofs.climbs.climb_free.Goals as goal

pub returns-clause-few : goal.returns-clause-few
returns-clause-few g c = ran_counts _ _ _ _ (λ (r : ReturnEnd). length c.args.chain.now) (return_plan c.args.chain.now (g.S.Held.tag c.args.segment)) _ _ _ c.hand_back.ensures.ran (return_is_short _ _)
