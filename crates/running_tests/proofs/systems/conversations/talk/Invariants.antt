use Rattle.running_tests.proofs.systems.conversations.talk.Given as goal

-- the table that was just made
abbrev pub ghosts-talked : goal.ghosts-talked
ghosts-talked g a = record { table = a.ground }
