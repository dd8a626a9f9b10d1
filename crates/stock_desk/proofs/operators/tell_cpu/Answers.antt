use Rattle.std.proofs.Common.{refl, sym, subst}
use Rattle.lease_proto.specs.declared.operators.OperatorLine.TheVariants as operator
use Rattle.lease_machine.specs.Picture.{IsPicture}
use Rattle.stock_desk.specs.Operators.{IsPerformed}
use Rattle.stock_desk.specs.Supplies.{SupplyState, picture_with}
use Rattle.stock_desk.proofs.Performing.{selected_so}
use Rattle.stock_desk.proofs.operators.tell_cpu.Goals as goal

pub returns-clause-ok : goal.returns-clause-ok
returns-clause-ok c = (
  c.ok_line.result.now,
  c.say.ensures,
  λ b is. (
      let s : SupplyState = record { tree = c.supply.inside.tree; spaces = c.supply.inside.stock; cpus = c.supply.inside.cpus.items; selected = c.supply.inside.selected } in
      subst (λ (x : SupplyState). IsPerformed (operator.Cpu c.args.number) (picture_with b x) c.ok_line.result.now (picture_with b (record s { cpus = c.select.new.cpus.items; selected = c.args.number }))) c.supply.view_is
      (selected_so b s c.ok_line.result.now (subst (λ (x : SupplyState). IsPicture (picture_with b x)) (sym c.supply.view_is) is) c.args.number c.select.new.cpus.items c.get.ensures.range c.ok_line.ensures
      (c.in_ok-select.ensures.ok (picture_with b s) refl refl))
      ),
)
