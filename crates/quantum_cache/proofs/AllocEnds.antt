-- What an allocation ends with.
use Rattle.std.proofs.Common.{◌≡◌, ℕ, List, [], Result, Ok, Err, subst}
use Rattle.std.specs.Prelude.{IfOk}
use Rattle.deed_core.specs.Tag.{Tag}
use Rattle.arena_tree.specs.declared.levels.Level.{Level}
use Rattle.arena_tree.specs.declared.part_faults.ClimbFault.{ClimbFault}
use Rattle.arena_tree.specs.declared.part_faults.ClimbFault.TheVariants as climbing
use Rattle.arena_tree.specs.Chains.{Node, IsChain}
use Rattle.arena_tree.specs.Climbs.{ClimbEnd}
use Rattle.arena_tree.specs.Plans.{Gives}
use Rattle.arena_tree.specs.Tags.{tag_climb}
use Rattle.arena_tree.specs.Told.{AnsweredEvent}
use Rattle.arena_tree.proofs.LawProofs.{tells_gives}
use Rattle.quantum_cache.specs.Allocs.{alloc_plan}
use Rattle.quantum_cache.specs.Served.{IsServed, AsksForNone}
use Rattle.quantum_cache.specs.Told.{AllocTold}
use Rattle.quantum_cache.proofs.AllocTellings.{alloc_tells}
use Rattle.tag_arena.specs.declared.faults.ArenaFault.TheVariants as carving

pub alloc_gives : (nodes : List Node) (chain : List Level) (size : ℕ) → IsChain nodes chain → Gives nodes (λ (r : ClimbEnd). IfOk r (IsServed nodes chain size)) (alloc_plan chain size)
alloc_gives nodes chain size is = tells_gives nodes (AllocTold nodes chain size) (λ (r : ClimbEnd). IfOk r (IsServed nodes chain size)) (alloc_plan chain size) [] ends (alloc_tells nodes chain size is)
  where
    ends : (now : List AnsweredEvent) (r : ClimbEnd) → AllocTold nodes chain size now r → IfOk r (IsServed nodes chain size)
    ends now (Ok t) w = w
    ends now (Err f) w = tt

pub alloc_bad : (nodes : List Node) (chain : List Level) (size : ℕ) → IsChain nodes chain → Gives nodes (λ (r : ClimbEnd). r ≡ Err (climbing.Refused carving.BadRequest) → AsksForNone chain size) (alloc_plan chain size)
alloc_bad nodes chain size is = tells_gives nodes (AllocTold nodes chain size) (λ (r : ClimbEnd). r ≡ Err (climbing.Refused carving.BadRequest) → AsksForNone chain size) (alloc_plan chain size) [] (λ now r w e. subst (AllocTold nodes chain size now) e w) (alloc_tells nodes chain size is)

-- of a segment, what is so of its tag
pub untagged : {X : Type 0} (f : X → Tag) (post : Tag → Type 0) (r : Result X (ClimbFault X)) → IfOk (tag_climb f r) post → IfOk r (λ x. post (f x))
untagged f post (Ok x) s = s
untagged f post (Err e) s = tt
