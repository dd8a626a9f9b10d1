use Rattle.line_tests.proofs.rounds.a_round_drains_a_cpu_at_rest.Given as goal

-- the table that was just made
abbrev pub ghosts-goes_round : goal.ghosts-goes_round
ghosts-goes_round g a = record { table = a.ground }
