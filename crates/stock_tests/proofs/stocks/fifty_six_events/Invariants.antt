use Rattle.stock_tests.specs.Walks.{Balances}
use Rattle.stock_tests.proofs.stocks.fifty_six_events.Given as goal

abbrev pub invariant-loop-event : goal.invariant-loop-event
invariant-loop-event g l = Balances l.walk.stock l.walk.hand.items l.walk.leases.items l.walk.cpu
