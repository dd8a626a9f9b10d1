use Rattle.std.proofs.Common.{◌≡◌, ◌*◌, ◌^◌, ◌≤◌, take, sum_by}
use Rattle.deed_core.specs.Covering.{units_in}
use Rattle.deed_core.specs.Weights.{of_arena}
use Rattle.stock_audit.proofs.lists.units_of.Given as goal

abbrev pub invariant-loop-segment : goal.invariant-loop-segment
invariant-loop-segment g l = record {
  total : l.units ≡ sum_by (of_arena l.arena (λ t. units_in t.holding)) (take l.segment-index l.segments);
  small : l.units ≤ l.segment-index * 2 ^ 62;
}
