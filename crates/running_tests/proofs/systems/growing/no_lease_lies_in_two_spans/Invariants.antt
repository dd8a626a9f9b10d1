use Rattle.running_tests.proofs.systems.growing.no_lease_lies_in_two_spans.Given as goal

-- the table that was just made
abbrev pub ghosts-in_one_span : goal.ghosts-in_one_span
ghosts-in_one_span g a = record { table = a.ground }
