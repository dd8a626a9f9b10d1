use Rattle.running_tests.proofs.systems.growing.spans_are_at_most_65536.Given as goal

-- the table that was just made
abbrev pub ghosts-filled : goal.ghosts-filled
ghosts-filled g a = record { table = a.ground }
