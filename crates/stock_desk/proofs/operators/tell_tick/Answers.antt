use Rattle.std.proofs.Common.{sym, subst}
use Rattle.lease_proto.specs.declared.operators.OperatorLine.TheVariants as operator
use Rattle.lease_machine.specs.Picture.{IsPicture}
use Rattle.stock_desk.specs.Operators.{IsPerformed}
use Rattle.stock_desk.specs.Supplies.{SupplyState, picture_with}
use Rattle.stock_desk.proofs.Performing.{ticked_so}
use Rattle.stock_desk.proofs.operators.tell_tick.Goals as goal

pub returns : goal.returns
returns c = (
  c.ok_line.result.now,
  c.say.ensures,
  λ b is. (
      let s : SupplyState = record { tree = c.supply.inside.tree; spaces = c.supply.inside.stock; cpus = c.supply.inside.cpus.items; selected = c.supply.inside.selected } in
      subst (λ (x : SupplyState). IsPerformed operator.Tick (picture_with b x) c.ok_line.result.now (picture_with b (record s { spaces = c.tick.new.stock }))) c.supply.view_is
      (ticked_so b s c.ok_line.result.now (subst (λ (x : SupplyState). IsPicture (picture_with b x)) (sym c.supply.view_is) is) c.tick.new.stock c.ok_line.ensures c.tick.ensures.ticked)
      ),
)
