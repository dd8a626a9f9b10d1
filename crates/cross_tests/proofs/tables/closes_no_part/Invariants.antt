use Rattle.cross_tests.proofs.tables.closes_no_part.Given as goal

-- the table that was just made
abbrev pub ghosts-part_refused : goal.ghosts-part_refused
ghosts-part_refused g a = record { table = a.ground }
