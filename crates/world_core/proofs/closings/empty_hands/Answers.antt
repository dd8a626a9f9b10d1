use Rattle.std.specs.Option.{option_to_list}
use Rattle.world_core.proofs.GoingHome.{last_ends}
use Rattle.world_core.proofs.closings.empty_hands.Goals as goal

pub empty_hand-requires : goal.empty_hand-requires
empty_hand-requires c =
    let (others, out) = c.requires in
    (_, last_ends option_to_list c.loop-hand.stock c.loop-hand.hands.items c.pop.new.self.items c.in-Some.hand c.in-Some.ensures.items others (c.loop-hand.invariant others out))

pub loop-hand-preserved : goal.loop-hand-preserved
loop-hand-preserved c = λ others acc. c.empty_hand.ensures _ (last_ends option_to_list c.loop-hand.stock c.loop-hand.hands.items c.pop.new.self.items c.in-Some.hand c.in-Some.ensures.items others (c.loop-hand.invariant others acc))
