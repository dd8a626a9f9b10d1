use Rattle.std.proofs.Common.{◌≡◌, length}
use Rattle.stock.proofs.Planning.{IsPlanning}
use Rattle.stock.proofs.setups.StockSetup.add_planned.Given as goal

abbrev pub invariant-loop-cache : goal.invariant-loop-cache
invariant-loop-cache g l = record {
  at : l.index ≡ length l.fn.self;
  is : IsPlanning l.rounds l.arena l.fn.self l.self l._cache;
}
