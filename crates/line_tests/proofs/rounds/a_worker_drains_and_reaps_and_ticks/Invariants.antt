use Rattle.line_tests.proofs.rounds.a_worker_drains_and_reaps_and_ticks.Given as goal

-- the table that was just made
abbrev pub ghosts-tidies : goal.ghosts-tidies
ghosts-tidies g a = record { table = a.ground }
