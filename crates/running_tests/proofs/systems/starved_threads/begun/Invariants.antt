use Rattle.running_tests.proofs.systems.starved_threads.begun.Given as goal

-- the table that was just made
abbrev pub ghosts-converse : goal.ghosts-converse
ghosts-converse g a = record { table = a.ground }
