use Rattle.running_tests.proofs.systems.rows.shut_whole.Given as goal

-- the table that was just made
abbrev pub ghosts-whole : goal.ghosts-whole
ghosts-whole g a = record { table = a.ground }
