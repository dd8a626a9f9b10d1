use Rattle.running_tests.proofs.systems.settles.told.Given as goal

-- the table that was just made
abbrev pub ghosts-told_in : goal.ghosts-told_in
ghosts-told_in g a = record { table = a.ground }
