use Rattle.std.proofs.Common.{[], ◌∷◌}
use Rattle.stock_audit.specs.Outside.{outside, segments_out}
use Rattle.stock_tests.proofs.stocks.tells.Goals as goal

pub same_sums-requires : goal.same_sums-requires
same_sums-requires g c = (segments_out (outside c.args.walk.now.hand.items c.args.walk.now.leases.items (c.args.walk.now.cpu ∷ [])), c.requires)
