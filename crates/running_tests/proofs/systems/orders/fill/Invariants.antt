use Rattle.running_tests.proofs.systems.orders.fill.Given as goal

-- the table that was just made
abbrev pub ghosts-filled : goal.ghosts-filled
ghosts-filled g a = record { table = a.ground }
