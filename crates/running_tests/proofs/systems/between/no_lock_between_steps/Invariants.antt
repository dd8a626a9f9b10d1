use Rattle.running_tests.proofs.systems.between.no_lock_between_steps.Given as goal

-- the table that was just made
abbrev pub ghosts-served_between : goal.ghosts-served_between
ghosts-served_between g a = record { table = a.ground }
