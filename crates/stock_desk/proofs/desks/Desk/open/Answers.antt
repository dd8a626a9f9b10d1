use Rattle.stock_desk.proofs.desks.Desk.open.Goals as goal

pub invariant_of-result : goal.invariant_of-result
invariant_of-result c = c.in_ok-supply.ensures.picture c.new-2.result c.new-2.ensures.empty

pub returns-clause-opened : goal.returns-clause-opened
returns-clause-opened c = c.in_ok-supply.ensures.opened c.new-2.result c.new-2.ensures.empty

pub returns-clause-picture : goal.returns-clause-picture
returns-clause-picture c = c.in_ok-supply.ensures.picture c.new-2.result c.new-2.ensures.empty
