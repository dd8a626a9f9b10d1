use Rattle.std.proofs.Common.{◌≡◌, All, take}
use Rattle.stock.specs.Spaces.{plans_of}
use Rattle.stock.specs.Setups.{plans_for, IsNewSpace}
use Rattle.stock.proofs.setups.StockSetup.of_tree.Given as goal

abbrev pub invariant-loop-id : goal.invariant-loop-id
invariant-loop-id g l = record {
  planned : plans_of l.setup ≡ plans_for (take l.id l.tree);
  unused : All (IsNewSpace l.rounds) l.setup;
}
