use Rattle.running_tests.proofs.systems.starved_threads.ends_without_memory.Given as goal

-- the table that was just made
abbrev pub ghosts-grown_and_ended : goal.ghosts-grown_and_ended
ghosts-grown_and_ended g a = record { table = a.ground }
