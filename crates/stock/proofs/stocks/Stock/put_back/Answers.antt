use Rattle.stock.proofs.Lasting.{lasts_on_put}
use Rattle.stock.proofs.stocks.Stock.put_back.Goals as goal

pub returns-in-Ok-clause-lasts : goal.returns-in-Ok-clause-lasts
returns-in-Ok-clause-lasts g c = lasts_on_put c.args.self.now c.slab_put.new.self c.args.segment c.slab_put.result c.slab_put.ensures.put

pub returns-in-Err-NotMine-clause-lasts : goal.returns-in-Err-NotMine-clause-lasts
returns-in-Err-NotMine-clause-lasts g c = lasts_on_put c.args.self.now c.slab_put.new.self c.args.segment c.slab_put.result c.slab_put.ensures.put

pub returns-in-Err-AtHome-clause-lasts : goal.returns-in-Err-AtHome-clause-lasts
returns-in-Err-AtHome-clause-lasts g c = lasts_on_put c.args.self.now c.slab_put.new.self c.args.segment c.slab_put.result c.slab_put.ensures.put
