use Rattle.running_tests.proofs.systems.growing.grow_running.Given as goal

-- the table that was just made
abbrev pub ghosts-grown : goal.ghosts-grown
ghosts-grown g a = record { table = a.ground }
