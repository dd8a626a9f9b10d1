use Rattle.cross_tests.proofs.seat_deeds.frees_leave_one_range.Given as goal

-- the table that was just made
abbrev pub ghosts-carved_and_closed : goal.ghosts-carved_and_closed
ghosts-carved_and_closed g a = record { table = a.ground }
