use Rattle.tag_arena.proofs.Carrying.{tags_weigh}
use Rattle.tag_arena.proofs.Standing.{allocated_stand, allocated_count}
use Rattle.tag_arena.proofs.laws.allocated_laws.Goals as goal

pub returns-clause-weigh : goal.returns-clause-weigh
returns-clause-weigh c = tags_weigh

pub returns-clause-stand : goal.returns-clause-stand
returns-clause-stand c = allocated_stand

pub returns-clause-count : goal.returns-clause-count
returns-clause-count c = allocated_count
