use Rattle.locked_parts.proofs.Sums.{no_arena}
use Rattle.locked_parts.proofs.parts.LockedParts.arena_units.Goals as goal

pub returns-in-Err : goal.returns-in-Err
returns-in-Err g c = no_arena c.args.arena
