use Rattle.stock_tests.proofs.ScriptFrames.{event_balances}
use Rattle.stock_tests.proofs.stocks.run.Goals as goal

pub returns : goal.returns
returns g c =
    let old = c.args.walk.now in
    event_balances old.stock c.moved-answer.new.stock old.hand.items c.taken-given.new.hand.items c.keep.new.hand.items old.leases.items _ _ old.cpu c.moved-answer.new.cpu c.taken-given.ensures c.moved-answer.ensures.frame c.keep.ensures c.requires
