use Rattle.stock_desk.proofs.endings.empty.Goals as goal

pub returns-clause-ran : goal.returns-clause-ran
returns-clause-ran c turns more = (c.drain_with.new.cpu, c.drain_with.ensures.ran turns more)
