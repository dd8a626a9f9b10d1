use Rattle.std.proofs.Common.{◌≡◌, ◌∙◌, ap, sym, List, ◌++◌, ℕ, Ok}
use Rattle.lease_proto.specs.Grammar.{line_of}
use Rattle.lease_proto.specs.declared.operators.ServedLine.TheVariants as served
use Rattle.lease_machine.specs.Machine.{ServedStep, LeaseStep}
use Rattle.stock_desk.proofs.Answering.{served_step}
use Rattle.stock_desk.proofs.Balances.{on_ok}
use Rattle.stock_desk.proofs.Performing.{on_err_map}
use Rattle.stock_desk.proofs.desks.Desk.answer.Goals as goal

pub returns-in-Ok-clause-ok : goal.returns-in-Ok-clause-ok
returns-in-Ok-clause-ok c = on_ok c.serve_client.result
    ((reply : List ℕ) × (c.serve_client.new.out.items ≡ c.reserve.new.self.items ++ reply) × ServedStep (served.Client c.in-Ok.line) c.args.self.now reply c.serve_client.new.self)
    ((reply : List ℕ) × (c.serve_client.new.out.items ≡ c.args.out.now.items ++ reply) × LeaseStep c.args.self.now c.args.line.now reply c.serve_client.new.self)
    (λ is. (
      is.0,
      is.1 ∙ ap (λ l. l ++ is.0) c.reserve.ensures.items,
      served_step c.args.self.now c.serve_client.new.self c.args.line.now is.0 (served.Client c.in-Ok.line) (sym ((c.served_law.ensures.clients c.args.line.now c.in-Ok.line).1 (let here : line_of c.args.line.now ≡ Ok c.in-Ok.line = cc in here))) is.2 c.serve_client.ensures.kept,
    ))
    c.serve_client.ensures.ok

pub returns-in-Ok-clause-unwritten : goal.returns-in-Ok-clause-unwritten
returns-in-Ok-clause-unwritten c = on_err_map c.serve_client.result (c.serve_client.new.out.items ≡ c.reserve.new.self.items) (c.serve_client.new.out.items ≡ c.args.out.now.items)
    (λ is. is ∙ c.reserve.ensures.items) c.serve_client.ensures.unwritten

pub returns-in-Err-clause-ok : goal.returns-in-Err-clause-ok
returns-in-Err-clause-ok c = on_ok c.answer_other.result
    ((reply : List ℕ) × (c.answer_other.new.out.items ≡ c.reserve.new.self.items ++ reply) × LeaseStep c.args.self.now c.args.line.now reply c.answer_other.new.self)
    ((reply : List ℕ) × (c.answer_other.new.out.items ≡ c.args.out.now.items ++ reply) × LeaseStep c.args.self.now c.args.line.now reply c.answer_other.new.self)
    (λ is. (is.0, is.1 ∙ ap (λ l. l ++ is.0) c.reserve.ensures.items, is.2))
    c.answer_other.ensures.ok

pub returns-in-Err-clause-unwritten : goal.returns-in-Err-clause-unwritten
returns-in-Err-clause-unwritten c = on_err_map c.answer_other.result (c.answer_other.new.out.items ≡ c.reserve.new.self.items) (c.answer_other.new.out.items ≡ c.args.out.now.items)
    (λ is. is ∙ c.reserve.ensures.items) c.answer_other.ensures.unwritten
