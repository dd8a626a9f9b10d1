use Rattle.std.proofs.Common.{◌≡◌, []}
use Rattle.stock.specs.Spaces.{QuantumCacheState, IsCacheAt, plans_of}
use Rattle.stock.specs.Accounts.{Frames}
use Rattle.stock.specs.Endings.{OthersStay, lastings_of}
use Rattle.stock.proofs.Homeward.{MayReapAll, rounds_left}
use Rattle.stock.proofs.stocks.Stock.empty_depot.Given as goal

abbrev pub invariant-loop-round : goal.invariant-loop-round
invariant-loop-round g l = record {
  may : (c : QuantumCacheState) → IsCacheAt l.self l.arena l.cache c → MayReapAll c.depot;
  others : OthersStay l.arena l.cache l.fn.self l.self;
  frame : Frames l.fn.self [] l.self [];
  fixed : plans_of l.self ≡ plans_of l.fn.self;
  lasts : lastings_of l.self ≡ lastings_of l.fn.self;
}

abbrev pub decreases-loop-round : goal.decreases-loop-round
decreases-loop-round g l = rounds_left l.self l.arena l.cache
