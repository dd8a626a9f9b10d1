use Rattle.stock.specs.Setups.{numbered_deeds}
use Rattle.stock_desk.proofs.Opening.{begins_picture}
use Rattle.stock_desk.proofs.openings.open_supply.Goals as goal

pub returns-in-Ok-clause-picture : goal.returns-in-Ok-clause-picture
returns-in-Ok-clause-picture c b history =
    begins_picture c.args.setup (numbered_deeds c.args.setup.spans) c.in_ok-stock.stock c.in_ok-stock.ensures.set_up c.into_tree.result c.in-Ok.cpus.items b c.into_tree.ensures c.in-Ok.ensures history
    c.tree.ensures.tree (record { stock = c.count.ensures.stock; accounts = c.in_ok-stock.ensures.nothing_out })
