use Rattle.std.proofs.Common.{◌≡◌, ap, length, Err}
use Rattle.arena_tree.specs.Climbs.{ClimbEnd, climb_plan, climb_most}
use Rattle.arena_tree.specs.Tags.{tag_climb}
use Rattle.arena_tree.specs.declared.part_faults.ClimbFault.TheVariants as climbing
use Rattle.arena_tree.proofs.Paths.{ran_counts, ran_posts}
use Rattle.arena_tree.proofs.ClimbTold.{climb_bad}
use Rattle.arena_tree.proofs.ClimbBounds.{climb_is_short}
use Rattle.arena_tree.proofs.climbs.climb_alloc.Goals as goal
use Rattle.tag_arena.specs.declared.faults.ArenaFault.TheVariants as carving

pub returns-clause-few : goal.returns-clause-few
returns-clause-few g c = ran_counts _ _ _ _ (climb_most (length c.args.chain.now)) (climb_plan c.args.chain.now c.args.size) _ _ _ c.climb.ensures.ran (climb_is_short _ _)

pub returns-clause-refused : goal.returns-clause-refused
returns-clause-refused g c is =
    ran_posts _ _ _ _ (λ (r : ClimbEnd). r ≡ Err (climbing.Refused carving.BadRequest) → c.args.size ≡ 0) (climb_plan c.args.chain.now c.args.size) _ _ _ c.climb.ensures.ran (climb_bad _ _ _ c.requires.chain) (ap (tag_climb g.S.Held.tag) is)
