use Rattle.std.proofs.Common.{◌≡◌, []}
use Rattle.stock.specs.Spaces.{plans_of}
use Rattle.stock.specs.Accounts.{Frames}
use Rattle.stock.specs.Endings.{OthersStay, DepotsStay, lastings_of}
use Rattle.stock.proofs.Homeward.{slabs_left}
use Rattle.stock.proofs.stocks.Stock.reap_slabs.Given as goal

abbrev pub invariant-loop-span : goal.invariant-loop-span
invariant-loop-span g l = record {
  others : OthersStay l.arena l.cache l.fn.self l.self;
  depots : DepotsStay l.fn.self l.self;
  frame : Frames l.fn.self [] l.self [];
  fixed : plans_of l.self ≡ plans_of l.fn.self;
  lasts : lastings_of l.self ≡ lastings_of l.fn.self;
}

abbrev pub decreases-loop-span : goal.decreases-loop-span
decreases-loop-span g l = slabs_left l.self l.arena l.cache
