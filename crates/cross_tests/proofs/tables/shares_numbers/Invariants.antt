use Rattle.cross_tests.proofs.tables.shares_numbers.Given as goal

-- the table that was just made
abbrev pub ghosts-two_openers : goal.ghosts-two_openers
ghosts-two_openers g a = record { table = a.ground }
