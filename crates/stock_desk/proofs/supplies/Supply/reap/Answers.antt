use Rattle.std.proofs.Common.{arith}
use Rattle.stock_desk.specs.Supplies.{picture_with}
use Rattle.stock_desk.proofs.Reaping.{none_so_far, once_more, units_fit, all_reaped}
use Rattle.stock_desk.proofs.supplies.Supply.reap.Goals as goal

pub turns-init : goal.turns-init
turns-init c b held = none_so_far (picture_with b c.args.self.now) held

pub overflow_add-units : goal.overflow_add-units
overflow_add-units c =
    let (b, held) = c.requires.held in
    let so = c.turns.invariant b held in
    let fit = units_fit (picture_with b c.args.self.now) (picture_with b c.turns.self) (picture_with b c.reap_once-reaping.new.self) c.turns.units c.reap_once-reaping.result so (c.reap_once-reaping.ensures b so.held) held in
    omega (arith, fit)

pub returns-then-reaping-gt0 : goal.returns-then-reaping-gt0
returns-then-reaping-gt0 c b held =
    let so = c.turns.invariant b held in
    all_reaped (picture_with b c.args.self.now) (picture_with b c.turns.self) (picture_with b c.reap_once-reaping.new.self) c.turns.units c.reap_once-reaping.result so (c.reap_once-reaping.ensures b so.held) c.if-reaping-gt0.true

pub turns-preserved : goal.turns-preserved
turns-preserved c b held =
    let so = c.turns.invariant b held in
    once_more (picture_with b c.args.self.now) (picture_with b c.turns.self) (picture_with b c.reap_once-reaping.new.self) c.turns.units c.reap_once-reaping.result so (c.reap_once-reaping.ensures b so.held)
