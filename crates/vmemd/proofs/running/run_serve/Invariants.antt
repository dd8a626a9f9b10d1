use Rattle.vmemd.proofs.running.run_serve.Given as goal

-- the table that was just made
abbrev pub ghosts-run_named : goal.ghosts-run_named
ghosts-run_named g a = record { table = a.ground }
