use Rattle.running_tests.proofs.systems.rows.sizes_rise.Given as goal

-- the table that was just made
abbrev pub ghosts-risen : goal.ghosts-risen
ghosts-risen g a = record { table = a.ground }
