use Rattle.stock.proofs.Owning.{same_there}
use Rattle.stock.proofs.setups.StockSetup.own.Goals as goal

pub returns-in-Ok-clause-added : goal.returns-in-Ok-clause-added
returns-in-Ok-clause-added g c =
    let on = c.in-Ok.ensures.added in
    record { space = on.space; at = on.at; arena = on.arena; after = on.after; does = on.does.2 }

pub returns-in-Err-NoMemory-clause-unchanged : goal.returns-in-Err-NoMemory-clause-unchanged
returns-in-Err-NoMemory-clause-unchanged g c = (let on = c.in-Err-NoMemory.ensures.added in same_there c.args.self.now c.add_span.new.self c.args.arena on.space on.arena on.at on.after on.does.1)
