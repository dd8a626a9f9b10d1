use Rattle.std.proofs.Common.{refl}
use Rattle.magazine_layer.specs.Magazines.{BothFull, Pushes}
use Rattle.magazine_layer.specs.Rounds.{Made, cpu_depot}
use Rattle.magazine_layer.proofs.rounds.give_round.Goals as goal

pub returns-clause-gives : goal.returns-clause-gives
returns-clause-gives g c =
    let refused = c.in-Err.ensures.of in
    let full : BothFull c.give.new.self = rw refused.2 refused.0 in
    let pushes : Pushes c.args.segment c.make_room.new.cpu c.give-2.new.self = rw refused.1 at c.in-Ok.ensures.of in
    rw (← refused.2) (Made (cpu_depot c.make_room.new.cpu c.make_room.new.depot) full c.in-Some.ensures.made pushes refl refl)
