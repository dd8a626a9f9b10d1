use Rattle.std.proofs.Common.{◌≡◌, ℕ, ◌+◌, ◌<◌, [], All, map, vec_capacity, Some}
use Rattle.std.specs.Prelude.{slice_get, sum_by}
use Rattle.deed_core.specs.Holding.{Holding}
use Rattle.stock.specs.Spaces.{SpaceState, plans_of}
use Rattle.stock.specs.Accounts.{Frames}
use Rattle.stock.specs.Endings.{IsReaped, IsTakenOut}
use Rattle.stock.specs.Owning.{weight_owned}
use Rattle.stock.proofs.setups.StockSetup.give_back.Given as goal

abbrev pub invariant-loop-arena : goal.invariant-loop-arena
invariant-loop-arena g l = record {
  taken : (k : ℕ) (s : SpaceState) → k < l.arena → slice_get l.stock k ≡ Some s → IsTakenOut s;
  reaped : All IsReaped l.stock;
  same : (f : Holding → ℕ) → sum_by (weight_owned f) l.fn.self + sum_by f (map g.D.Deed.holding l.fn.deeds.items) ≡ sum_by (weight_owned f) l.stock + sum_by f (map g.D.Deed.holding l.deeds.items);
  frame : Frames l.fn.self [] l.stock [];
  fixed : plans_of l.stock ≡ plans_of l.fn.self;
  room : vec_capacity l.deeds ≡ vec_capacity l.fn.deeds;
}
