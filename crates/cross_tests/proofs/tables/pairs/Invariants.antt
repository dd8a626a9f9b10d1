use Rattle.cross_tests.proofs.tables.pairs.Given as goal

-- the table that was just made
abbrev pub ghosts-paired : goal.ghosts-paired
ghosts-paired g a = record { table = a.ground }
