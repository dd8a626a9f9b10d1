use Rattle.cross_tests.proofs.tables.roots.roots.Given as goal

-- the table that was just made
abbrev pub ghosts-handed_over : goal.ghosts-handed_over
ghosts-handed_over g a = record { table = a.ground }
