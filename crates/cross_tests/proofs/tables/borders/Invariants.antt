use Rattle.cross_tests.proofs.tables.borders.Given as goal

-- the table that was just made
abbrev pub ghosts-border_of_seats : goal.ghosts-border_of_seats
ghosts-border_of_seats g a = record { table = a.ground }
