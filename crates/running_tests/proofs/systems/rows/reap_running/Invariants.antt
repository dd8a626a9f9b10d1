use Rattle.running_tests.proofs.systems.rows.reap_running.Given as goal

-- the table that was just made
abbrev pub ghosts-reaped : goal.ghosts-reaped
ghosts-reaped g a = record { table = a.ground }
