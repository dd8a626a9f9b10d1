use Rattle.running_tests.proofs.systems.pipeline.pipeline.Given as goal

-- the table that was just made
abbrev pub ghosts-piped : goal.ghosts-piped
ghosts-piped g a = record { table = a.ground }
