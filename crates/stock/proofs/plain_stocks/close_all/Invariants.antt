use Rattle.stock.proofs.plain_stocks.close_all.Given as goal

abbrev pub decreases-loop-deed : goal.decreases-loop-deed
decreases-loop-deed l = goal.left-loop-deed l
