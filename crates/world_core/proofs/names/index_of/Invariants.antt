use Rattle.std.proofs.Common.{◌≢◌, ◌<◌, ℕ}
use Rattle.world_core.specs.WorldState.{arena_name}
use Rattle.world_core.proofs.names.index_of.Given as goal

abbrev pub invariant-loop-index : goal.invariant-loop-index
invariant-loop-index l = (k : ℕ) → k < l.index → arena_name l.names k ≢ l.name
