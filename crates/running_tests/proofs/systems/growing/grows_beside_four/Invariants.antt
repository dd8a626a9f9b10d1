use Rattle.running_tests.proofs.systems.growing.grows_beside_four.Given as goal

-- the table that was just made
abbrev pub ghosts-beside_four : goal.ghosts-beside_four
ghosts-beside_four g a = record { table = a.ground }
