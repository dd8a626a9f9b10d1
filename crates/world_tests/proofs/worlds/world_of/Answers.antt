use Rattle.world_tests.proofs.Clients.{joined}
use Rattle.world_tests.proofs.worlds.world_of.Goals as goal

pub loop-index-preserved : goal.loop-index-preserved
loop-index-preserved g c = joined c.loop-index.index c.loop-index.made c.add_client.new.self c.client-id.result c.client-id.ensures c.in-Ok-add_client.ensures.added c.loop-index.invariant
