use Rattle.running_tests.proofs.systems.gates.two_at_once.Given as goal

-- the table that was just made
abbrev pub ghosts-at_once : goal.ghosts-at_once
ghosts-at_once g a = record { table = a.ground }
