use Rattle.running_tests.proofs.systems.rows.read_back.Given as goal

-- the table that was just made
abbrev pub ghosts-read_back_in : goal.ghosts-read_back_in
ghosts-read_back_in g a = record { table = a.ground }
