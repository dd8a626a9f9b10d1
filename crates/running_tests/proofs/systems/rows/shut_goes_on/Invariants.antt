use Rattle.running_tests.proofs.systems.rows.shut_goes_on.Given as goal

-- the table that was just made
abbrev pub ghosts-goes_on : goal.ghosts-goes_on
ghosts-goes_on g a = record { table = a.ground }
