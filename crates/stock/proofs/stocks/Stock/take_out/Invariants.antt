use Rattle.std.proofs.Common.{◌≡◌, ◌≢◌, ℕ, ◌+◌, [], All, map, vec_capacity}
use Rattle.std.specs.Prelude.{slice_get, sum_by}
use Rattle.deed_core.specs.Holding.{Holding}
use Rattle.stock.specs.Spaces.{plans_of}
use Rattle.stock.specs.Accounts.{Frames}
use Rattle.stock.specs.Endings.{IsReaped}
use Rattle.stock.specs.Owning.{weight_owned}
use Rattle.stock.proofs.stocks.Stock.take_out.Given as goal

abbrev pub invariant-loop-deed : goal.invariant-loop-deed
invariant-loop-deed g l = record {
  others : (k : ℕ) → k ≢ l.arena → slice_get l.self k ≡ slice_get l.fn.self k;
  reaped : All IsReaped l.fn.self → All IsReaped l.self;
  same : (f : Holding → ℕ) → sum_by (weight_owned f) l.fn.self + sum_by f (map g.D.Deed.holding l.fn.deeds.items) ≡ sum_by (weight_owned f) l.self + sum_by f (map g.D.Deed.holding l.deeds.items);
  frame : Frames l.fn.self [] l.self [];
  fixed : plans_of l.self ≡ plans_of l.fn.self;
  room : vec_capacity l.deeds ≡ vec_capacity l.fn.deeds;
}

abbrev pub decreases-loop-deed : goal.decreases-loop-deed
decreases-loop-deed g l = sum_by (weight_owned (λ h. 1)) l.self
