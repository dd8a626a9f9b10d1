use Rattle.std.proofs.Common.{subst}
use Rattle.std.proofs.lemmas.Result.{err_from_is_err_and}
use Rattle.lease_server.specs.Intakes.{frames_at}
use Rattle.lease_server.specs.Serving.{WritesFront}
use Rattle.lease_server.proofs.ServingLemmas.{Answers-some, AnswersSome, Stops-of_some}
use Rattle.lease_server.proofs.serving.serve_held.Goals as goal

pub returns-in_err-deliver-clause-err : goal.returns-in_err-deliver-clause-err
returns-in_err-deliver-clause-err g c =
    let p = err_from_is_err_and c.from_residual.result c.from_residual.ensures.1 in
    let may = g.P.Responder.may_answer in
    let frames = frames_at c.args.input.now.hand in
    let before = g.W.Write.contents c.args.writer.now.inner in
    let after = g.W.Write.contents c.deliver.new.writer.inner in
    let some = Answers-some may c.answer_held-answered.result frames c.args.responder.now c.answer_held-answered.new.responder
    c.args.out.now.items c.answer_held-answered.new.out.items c.answer_held-answered.ensures.ok c.answer_held-answered.ensures.err in
    rw p.1 (Stops-of_some may frames c.args.responder.now c.answer_held-answered.new.out.items before after
    (subst (λ t. AnswersSome may c.args.responder.now frames t c.answer_held-answered.new.out.items) c.requires some)
    (subst (λ t. WritesFront t before after) c.as_slice.ensures.value c.in_err-deliver.ensures.err))
