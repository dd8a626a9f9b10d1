use Rattle.world_tests.proofs.Clients.{HasClients}
use Rattle.world_tests.proofs.worlds.world_of.Given as goal

abbrev pub invariant-loop-index : goal.invariant-loop-index
invariant-loop-index g l = HasClients l.index l.made
