use Rattle.running_tests.proofs.systems.rows.reap_second.Given as goal

-- the table that was just made
abbrev pub ghosts-second_reaped : goal.ghosts-second_reaped
ghosts-second_reaped g a = record { table = a.ground }
