use Rattle.cross_tests.proofs.tables.deeds.Given as goal

-- the table that was just made
abbrev pub ghosts-cut_and_closed : goal.ghosts-cut_and_closed
ghosts-cut_and_closed g a = record { table = a.ground }
