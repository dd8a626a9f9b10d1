use Rattle.std.proofs.Common.{◌≡◌, ◌<◌, ℕ, []}
use Rattle.stock.specs.Spaces.{plans_of}
use Rattle.stock.specs.Accounts.{Frames}
use Rattle.stock.specs.Endings.{OtherArenasStay, IsReapedAt, lastings_of}
use Rattle.stock.proofs.stocks.Stock.reap_arena.Given as goal

abbrev pub invariant-loop-cache : goal.invariant-loop-cache
invariant-loop-cache g l = record {
  reaped : (j : ℕ) → j < l.cache → IsReapedAt l.self l.arena j;
  others : OtherArenasStay l.arena l.fn.self l.self;
  frame : Frames l.fn.self [] l.self [];
  fixed : plans_of l.self ≡ plans_of l.fn.self;
  lasts : lastings_of l.self ≡ lastings_of l.fn.self;
}
