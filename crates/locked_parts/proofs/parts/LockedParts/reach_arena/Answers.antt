use Rattle.std.proofs.Common.{subst}
use Rattle.std.specs.Sync.Mutex.{mutex_guard_value}
use Rattle.locked_parts.specs.Answers.{IsArenaFor}
use Rattle.locked_parts.specs.declared.arena_parts.ArenaSet.{ArenaSet}
use Rattle.locked_parts.proofs.parts.LockedParts.reach_arena.Goals as goal

pub returns-in-Ok-clause-here : goal.returns-in-Ok-clause-here
returns-in-Ok-clause-here g c = subst (λ (s : ArenaSet). IsArenaFor s (mutex_guard_value c.in-Ok.part)) c.in-Some.ensures.here.set c.in-Ok.ensures.here
