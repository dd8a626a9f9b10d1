use Rattle.cross_tests.proofs.tables.openers_go_on.Given as goal

-- the table that was just made
abbrev pub ghosts-goes_on : goal.ghosts-goes_on
ghosts-goes_on g a = record { table = a.ground }
