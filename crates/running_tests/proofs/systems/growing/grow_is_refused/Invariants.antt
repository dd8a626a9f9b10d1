use Rattle.running_tests.proofs.systems.growing.grow_is_refused.Given as goal

-- the table that was just made
abbrev pub ghosts-refused_each : goal.ghosts-refused_each
ghosts-refused_each g a = record { table = a.ground }
