use Rattle.std.proofs.Common.{◌≡◌, ◌*◌, ◌^◌, ◌≤◌, take, sum_by}
use Rattle.std.specs.Option.{option_to_list}
use Rattle.deed_core.specs.Covering.{units_in}
use Rattle.deed_core.specs.Weights.{of_arena}
use Rattle.world_core.proofs.audits.units_in_hands.Given as goal

abbrev pub invariant-loop-hand : goal.invariant-loop-hand
invariant-loop-hand g l = record {
  total : l.units ≡ sum_by (λ o. sum_by (of_arena l.arena (λ t. units_in t.holding)) (option_to_list o)) (take l.hand-index l.hands);
  small : l.units ≤ l.hand-index * 2 ^ 62;
}
