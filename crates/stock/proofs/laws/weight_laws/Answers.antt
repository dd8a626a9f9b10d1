use Rattle.stock.proofs.LawProofs.{arena_weighs, allocated_of_arena}
use Rattle.stock.proofs.laws.weight_laws.Goals as goal

pub returns : goal.returns
returns c = record { arena = arena_weighs; allocated = allocated_of_arena }
