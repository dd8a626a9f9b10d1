use Rattle.std.proofs.Common.{◌≡◌, ℕ, All, map, reverse, drop, vec_capacity}
use Rattle.stock.specs.Setups.{IsNewSpace}
use Rattle.stock.proofs.Owning.{IsOwning}
use Rattle.stock.proofs.setups.StockSetup.own_all.Given as goal

abbrev pub invariant-loop-span : goal.invariant-loop-span
invariant-loop-span g l = record {
  is : (rounds : ℕ) → All (IsNewSpace rounds) l.fn.self → IsOwning l.setup (map g.D.Deed.holding (reverse l.fn.deeds.items)) rounds (drop l.span-index l.setup.spans) (map g.D.Deed.holding (reverse l.deeds.items)) l.self;
  room : vec_capacity l.deeds ≡ vec_capacity l.fn.deeds;
}
