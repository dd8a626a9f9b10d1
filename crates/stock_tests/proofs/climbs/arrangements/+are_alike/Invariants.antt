use Rattle.stock_tests.proofs.climbs.arrangements.+are_alike.Given as goal

abbrev pub decreases-are_alike : goal.decreases-are_alike
decreases-are_alike g l = l.end
