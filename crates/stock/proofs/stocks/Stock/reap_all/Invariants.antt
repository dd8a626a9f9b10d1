use Rattle.std.proofs.Common.{◌≡◌, ◌<◌, ℕ, []}
use Rattle.stock.specs.Spaces.{plans_of}
use Rattle.stock.specs.Accounts.{Frames}
use Rattle.stock.specs.Endings.{IsReapedAt, lastings_of}
use Rattle.stock.proofs.stocks.Stock.reap_all.Given as goal

abbrev pub invariant-loop-arena : goal.invariant-loop-arena
invariant-loop-arena g l = record {
  reaped : (k j : ℕ) → k < l.arena → IsReapedAt l.self k j;
  frame : Frames l.fn.self [] l.self [];
  fixed : plans_of l.self ≡ plans_of l.fn.self;
  lasts : lastings_of l.self ≡ lastings_of l.fn.self;
}
