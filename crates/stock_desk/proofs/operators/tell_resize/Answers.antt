use Rattle.std.proofs.Common.{refl, sym, subst, List, ℕ}
use Rattle.lease_proto.specs.declared.operators.OperatorLine.TheVariants as operator
use Rattle.lease_proto.specs.Operators.{rounds_named}
use Rattle.lease_machine.specs.Operators.{Resizes}
use Rattle.lease_machine.specs.Picture.{IsPicture}
use Rattle.stock_desk.specs.Operators.{IsPerformed}
use Rattle.stock_desk.specs.Supplies.{SupplyState, picture_with}
use Rattle.stock_desk.proofs.Performing.{resized_so}
use Rattle.stock_desk.proofs.operators.tell_resize.Goals as goal

pub returns : goal.returns
returns c = (
  c.outcome_line.result.now,
  c.say.ensures,
  λ b is. (
      let s : SupplyState = record { tree = c.supply.inside.tree; spaces = c.supply.inside.stock; cpus = c.supply.inside.cpus.items; selected = c.supply.inside.selected } in
      subst (λ (x : SupplyState). IsPerformed (operator.Resize c.args.line.now) (picture_with b x) c.outcome_line.result.now (picture_with b (record s { spaces = c.resize-outcome.new.stock }))) c.supply.view_is
      (resized_so b s c.outcome_line.result.now (subst (λ (x : SupplyState). IsPicture (picture_with b x)) (sym c.supply.view_is) is) c.args.line.now c.resize-outcome.new.stock
      (subst (λ (ls : List ℕ). Resizes c.args.line.now.arena (rounds_named c.args.line.now.size) (picture_with b s) ls (picture_with b (record s { spaces = c.resize-outcome.new.stock }))) (sym c.outcome_line.ensures.text)
      (c.resize-outcome.ensures (picture_with b s) refl refl)))
      ),
)
