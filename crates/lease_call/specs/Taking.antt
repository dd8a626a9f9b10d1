-- What comes of taking a segment for a request.
use Rattle.std.specs.Prelude.{◌≡◌, ℕ, List, Ok, Err}
use Rattle.deed_core.specs.Tag.{Tag}
use Rattle.deed_core.specs.Request.{Fits, IsGood}
use Rattle.deed_core.specs.declared.requests.Request.{Request}
use Rattle.arena_tree.specs.Chains.{Node, quantum_in}
use Rattle.arena_tree.specs.Climbs.{ClimbEnd}
use Rattle.arena_tree.specs.declared.part_faults.ClimbFault.TheVariants as climbing
use Rattle.tag_arena.specs.declared.faults.ArenaFault.TheVariants as arena_fault

-- the arena takes the request, and the segment is one of the arena that meets it
pub record IsTakenFor (nodes : List Node) (arena : ℕ) (q : Request) (t : Tag) : Type 0 where
  pub good : IsGood (quantum_in nodes arena) q
  pub of_arena : t.arena ≡ arena
  pub fits : Fits (quantum_in nodes arena) q t.holding.range.base t.holding.range.len

-- a request is bad just where the arena takes no such request
abbrev pub TakeTold : List Node → ℕ → Request → ClimbEnd → Type 0
TakeTold nodes arena q (Ok t) = IsTakenFor nodes arena q t
TakeTold nodes arena q (Err (climbing.Refused arena_fault.BadRequest)) =
    ¬ IsGood (quantum_in nodes arena) q
TakeTold nodes arena q (Err (climbing.Refused arena_fault.NoFit)) =
    IsGood (quantum_in nodes arena) q
TakeTold nodes arena q (Err (climbing.Refused arena_fault.NoMemory)) = Unit {0}
TakeTold nodes arena q (Err (climbing.Stuck t)) = Unit {0}
TakeTold nodes arena q (Err (climbing.Stopped o)) = Unit {0}
