use Rattle.running_tests.proofs.systems.conversations.of_most_leases.Given as goal

-- the table that was just made
abbrev pub ghosts-leased : goal.ghosts-leased
ghosts-leased g a = record { table = a.ground }
