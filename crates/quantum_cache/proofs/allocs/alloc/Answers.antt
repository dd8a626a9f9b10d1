use Rattle.std.proofs.Common.{◌≡◌, ◌+◌, ◌*◌, ap, length, Err}
use Rattle.std.specs.Prelude.{IfOk}
use Rattle.arena_tree.specs.declared.part_faults.ClimbFault.TheVariants as climbing
use Rattle.arena_tree.specs.Climbs.{ClimbEnd}
use Rattle.arena_tree.specs.Tags.{tag_climb}
use Rattle.arena_tree.proofs.LawProofs.{ran_counts, ran_posts}
use Rattle.quantum_cache.specs.Allocs.{alloc_plan}
use Rattle.quantum_cache.specs.Served.{IsServed, AsksForNone}
use Rattle.quantum_cache.proofs.AllocBounds.{alloc_is_short}
use Rattle.quantum_cache.proofs.AllocEnds.{alloc_gives, alloc_bad, untagged}
use Rattle.quantum_cache.proofs.allocs.alloc.Goals as goal
use Rattle.tag_arena.specs.declared.faults.ArenaFault.TheVariants as carving

pub returns-clause-few : goal.returns-clause-few
returns-clause-few g c = ran_counts _ _ _ _ (λ (r : ClimbEnd). 8 + 2 * length c.args.chain.now) (alloc_plan c.args.chain.now c.args.size) _ _ _ c.serve.ensures.ran (alloc_is_short c.args.chain.now c.args.size c.requires.short)

pub returns-clause-granted : goal.returns-clause-granted
returns-clause-granted g c =
    let nodes = g.P.Parts.tree c.args.parts.now in
    untagged g.S.Held.tag (IsServed nodes c.args.chain.now c.args.size) c.serve.result
    (ran_posts _ _ _ _ (λ (r : ClimbEnd). IfOk r (IsServed nodes c.args.chain.now c.args.size)) (alloc_plan c.args.chain.now c.args.size) _ _ _ c.serve.ensures.ran (alloc_gives nodes c.args.chain.now c.args.size c.requires.chain))

pub returns-clause-bad : goal.returns-clause-bad
returns-clause-bad g c is =
    ran_posts _ _ _ _ (λ (r : ClimbEnd). r ≡ Err (climbing.Refused carving.BadRequest) → AsksForNone c.args.chain.now c.args.size) (alloc_plan c.args.chain.now c.args.size) _ _ _ c.serve.ensures.ran (alloc_bad _ c.args.chain.now c.args.size c.requires.chain) (ap (tag_climb g.S.Held.tag) is)
