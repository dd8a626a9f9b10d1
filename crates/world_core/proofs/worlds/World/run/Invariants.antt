use Rattle.std.proofs.Common.{◌≡◌, ◌≤◌, take, length, vec_len, vec_capacity}
use Rattle.world_core.specs.Events.{HappensTo}
use Rattle.world_core.proofs.worlds.World.run.Given as goal

abbrev pub invariant-loop-event : goal.invariant-loop-event
invariant-loop-event g l = HappensTo (take l.event-index l.events) l.outcomes.items l.fn.self l.self × (vec_len l.outcomes ≡ l.event-index)
    × (length l.events ≤ vec_capacity l.outcomes)
