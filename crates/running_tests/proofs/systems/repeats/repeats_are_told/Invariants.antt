use Rattle.running_tests.proofs.systems.repeats.repeats_are_told.Given as goal

-- the table that was just made
abbrev pub ghosts-repeated : goal.ghosts-repeated
ghosts-repeated g a = record { table = a.ground }
