use Rattle.running_tests.proofs.systems.soak.four_workers_keep_apart.Given as goal

-- the table that was just made
abbrev pub ghosts-soaked : goal.ghosts-soaked
ghosts-soaked g a = record { table = a.ground }
