use Rattle.running_tests.proofs.systems.orders.by_steps.Given as goal

-- the table that was just made
abbrev pub ghosts-in_order : goal.ghosts-in_order
ghosts-in_order g a = record { table = a.ground }
