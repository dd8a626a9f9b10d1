use Rattle.stock_tests.proofs.ScriptFrames.{lease_balances, release_balances}
use Rattle.stock_tests.proofs.stocks.step.Goals as goal

pub returns-in-Lease : goal.returns-in-Lease
returns-in-Lease g c = (let old = c.args.walk.now in lease_balances old.stock old.hand.items old.leases.items c.pass.new.from.items c.pass.new.to.items old.cpu c.pass.ensures c.requires)

pub returns-in-Release : goal.returns-in-Release
returns-in-Release g c = (let old = c.args.walk.now in release_balances old.stock old.hand.items old.leases.items c.pass-in-Release.new.to.items c.pass-in-Release.new.from.items old.cpu c.pass-in-Release.ensures c.requires)
