use Rattle.running_tests.proofs.systems.watching.sums_are_told.Given as goal

-- the table that was just made
abbrev pub ghosts-told : goal.ghosts-told
ghosts-told g a = record { table = a.ground }
