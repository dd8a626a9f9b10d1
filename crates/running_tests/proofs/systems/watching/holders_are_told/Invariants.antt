use Rattle.running_tests.proofs.systems.watching.holders_are_told.Given as goal

-- the table that was just made
abbrev pub ghosts-holders : goal.ghosts-holders
ghosts-holders g a = record { table = a.ground }
