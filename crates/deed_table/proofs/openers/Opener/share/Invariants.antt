use Rattle.deed_table.proofs.openers.Opener.share.Given as goal

-- the numbers that are asked for
abbrev pub ghosts-share : goal.ghosts-share
ghosts-share g a = record { number = a.n }
