use Rattle.deed_table.proofs.deeds.SeatDeedDeed.split.Given as goal

-- the cut is where the caller says
abbrev pub ghosts-cut : goal.ghosts-cut
ghosts-cut g a = record { number = a.at }
