use Rattle.running_tests.proofs.systems.gates.stop_at_each.Given as goal

-- the table that was just made
abbrev pub ghosts-stop_at : goal.ghosts-stop_at
ghosts-stop_at g a = record { table = a.ground }
