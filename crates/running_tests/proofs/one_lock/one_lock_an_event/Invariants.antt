use Rattle.running_tests.proofs.one_lock.one_lock_an_event.Given as goal

-- the table that was just made
abbrev pub ghosts-events_of : goal.ghosts-events_of
ghosts-events_of g a = record { table = a.ground }
