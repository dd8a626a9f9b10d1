use Rattle.std.proofs.Common.{subst}
use Rattle.stock.specs.Stocks.{IsStock}
use Rattle.stock.proofs.setups.StockSetup.count.Goals as goal

pub returns-clause-stock : goal.returns-clause-stock
returns-clause-stock g c = subst IsStock c.self.view_is c.count.ensures.stock
