use Rattle.std.proofs.Common.{◌≡◌, ◌∙◌, ap, sym, subst, List, ◌++◌, ℕ, Ok, IsErr, true, false}
use Rattle.lease_proto.specs.declared.operators.ServedLine.TheVariants as served
use Rattle.lease_machine.specs.Picture.{IsPicture}
use Rattle.lease_machine.specs.Machine.{ServedStep, LeaseStep}
use Rattle.stock_desk.proofs.Answering.{appended, left_alone, operator_step, refused_step}
use Rattle.stock_desk.proofs.Balances.{on_ok}
use Rattle.stock_desk.proofs.desks.Desk.answer_other.Goals as goal

pub returns-in-Ok-Operator-clause-ok : goal.returns-in-Ok-Operator-clause-ok
returns-in-Ok-Operator-clause-ok c = on_ok c.serve_operator.result
    ((reply : List ℕ) × (c.serve_operator.new.out.items ≡ c.args.out.now.items ++ reply) × ServedStep (served.Operator c.in-Ok-Operator.line) c.args.self.now reply c.serve_operator.new.self)
    ((reply : List ℕ) × (c.serve_operator.new.out.items ≡ c.args.out.now.items ++ reply) × LeaseStep c.args.self.now c.args.line.now reply c.serve_operator.new.self)
    (λ is. (
      is.0,
      is.1,
      operator_step c.args.self.now c.serve_operator.new.self c.args.line.now is.0 c.in-Ok-Operator.line (ap Ok (sym c.in-Ok-Operator.field-0-is) ∙ c.in-Ok-Operator.ensures) is.2 c.serve_operator.ensures.kept,
    ))
    c.serve_operator.ensures.ok

pub returns-in-Err-clause-ok : goal.returns-in-Err-clause-ok
returns-in-Err-clause-ok c =
    let same : IsPicture c.args.self.now = subst IsPicture c.self.view_is c.self.invariant in
    let step : LeaseStep c.args.self.now c.args.line.now c.line.result.now c.args.self.now =
    subst (λ (l : List ℕ). LeaseStep c.args.self.now c.args.line.now l c.args.self.now) (sym c.line.ensures) (refused_step c.args.self.now c.args.line.now c.in-Err.fault c.in-Err.ensures same) in
    appended c.extend_from_slice.result (λ l. LeaseStep c.args.self.now c.args.line.now l c.args.self.now) c.args.out.now.items c.line.result.now c.extend_from_slice.new.self.items c.extend_from_slice.ensures.items step

pub returns-in-Err-clause-unwritten : goal.returns-in-Err-clause-unwritten
returns-in-Err-clause-unwritten c = left_alone c.extend_from_slice.result c.args.out.now.items c.line.result.now c.extend_from_slice.new.self.items c.extend_from_slice.ensures.items

pub unreachable-requires : goal.unreachable-requires
unreachable-requires c =
    let read = (c.served_law.ensures.clients c.args.line.now c.in-Ok-Client.field-0-0).0 (sym (ap Ok (sym c.in-Ok-Client.field-0-is) ∙ c.in-Ok-Client.ensures)) in
    let both : false ≡ true = subst IsErr read c.requires.other in
    cc
