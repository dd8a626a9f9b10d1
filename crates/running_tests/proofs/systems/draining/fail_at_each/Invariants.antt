use Rattle.running_tests.proofs.systems.draining.fail_at_each.Given as goal

-- the table that was just made
abbrev pub ghosts-fail_beside : goal.ghosts-fail_beside
ghosts-fail_beside g a = record { table = a.ground }
