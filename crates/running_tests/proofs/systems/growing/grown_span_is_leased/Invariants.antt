use Rattle.running_tests.proofs.systems.growing.grown_span_is_leased.Given as goal

-- the table that was just made
abbrev pub ghosts-grown_and_leased : goal.ghosts-grown_and_leased
ghosts-grown_and_leased g a = record { table = a.ground }
