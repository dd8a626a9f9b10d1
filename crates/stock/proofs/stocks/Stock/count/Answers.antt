use Rattle.std.proofs.Common.{subst}
use Rattle.stock.specs.Stocks.{IsStock}
use Rattle.stock.proofs.Telling.{few_arenas}
use Rattle.stock.proofs.stocks.Stock.count.Goals as goal

pub returns-clause-stock : goal.returns-clause-stock
returns-clause-stock g c =
    (subst IsStock c.self.view_is c.self.invariant)

pub returns-clause-few : goal.returns-clause-few
returns-clause-few g c = few_arenas c.args.self.now (subst IsStock c.self.view_is c.self.invariant)
