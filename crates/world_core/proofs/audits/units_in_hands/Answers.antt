use Rattle.std.proofs.Common.{◌≤◌, length, sym, ap, ◌∙◌, arith, sum_by}
use Rattle.std.specs.Option.{option_to_list}
use Rattle.std.proofs.lemmas.List.{take_all}
use Rattle.deed_core.specs.Covering.{units_in}
use Rattle.deed_core.specs.Weights.{of_arena}
use Rattle.deed_core.proofs.LawProofs.{sum_by-flat_map}
use Rattle.stock_audit.proofs.LawProofs.{units_weigh}
use Rattle.world_core.specs.WorldState.{in_hands}
use Rattle.world_core.proofs.audits.units_in_hands.Goals as goal

pub returns : goal.returns
returns g c =
    let past : length c.args.hands.now ≤ c.loop-hand.hand-index = omega arith in
    c.loop-hand.invariant.total
    ∙ (ap (sum_by (λ o. sum_by (of_arena c.args.arena (λ t. units_in t.holding)) (option_to_list o))) (take_all c.loop-hand.hand-index c.args.hands.now past)
    ∙ (sym (sum_by-flat_map (of_arena c.args.arena (λ t. units_in t.holding)) option_to_list c.args.hands.now) ∙ sym (units_weigh c.args.arena (in_hands c.args.hands.now))))
