use Rattle.cross_tests.proofs.seat_deeds.spans_are_roots.Given as goal

-- the table that was just made
abbrev pub ghosts-grown_and_closed : goal.ghosts-grown_and_closed
ghosts-grown_and_closed g a = record { table = a.ground }
