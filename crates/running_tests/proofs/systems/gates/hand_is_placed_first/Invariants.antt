use Rattle.running_tests.proofs.systems.gates.hand_is_placed_first.Given as goal

-- the table that was just made
abbrev pub ghosts-placed_first : goal.ghosts-placed_first
ghosts-placed_first g a = record { table = a.ground }
