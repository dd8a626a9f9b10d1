use Rattle.std.proofs.Common.{refl, sym, subst}
use Rattle.lease_proto.specs.declared.operators.OperatorLine.TheVariants as operator
use Rattle.lease_machine.specs.Picture.{IsPicture}
use Rattle.stock_desk.specs.Operators.{IsPerformed}
use Rattle.stock_desk.specs.Supplies.{SupplyState, picture_with}
use Rattle.stock_desk.proofs.Performing.{grown_so}
use Rattle.stock_desk.proofs.operators.tell_grow.Goals as goal

pub returns : goal.returns
returns c = (
  c.outcome_line.result.now,
  c.say.ensures,
  λ b is. (
      let s : SupplyState = record { tree = c.supply.inside.tree; spaces = c.supply.inside.stock; cpus = c.supply.inside.cpus.items; selected = c.supply.inside.selected } in
      subst (λ (x : SupplyState). IsPerformed (operator.Grow c.args.line.now) (picture_with b x) c.outcome_line.result.now (picture_with b (record s { spaces = c.grow-outcome.new.stock }))) c.supply.view_is
      (grown_so b s c.outcome_line.result.now (subst (λ (x : SupplyState). IsPicture (picture_with b x)) (sym c.supply.view_is) is) c.args.line.now c.grow-outcome.new.stock c.grow-outcome.result c.outcome_line.ensures.text
      (c.grow-outcome.ensures.told (picture_with b s) refl refl) c.grow-outcome.ensures.step)
      ),
)
