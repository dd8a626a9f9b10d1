use Rattle.cross_tests.proofs.magazines.alike_rounds.Goals as goal

pub units_alike-requires-2 : goal.units_alike-requires-2
units_alike-requires-2 g c = record { each = 4; alike = c.loop-at.invariant }
