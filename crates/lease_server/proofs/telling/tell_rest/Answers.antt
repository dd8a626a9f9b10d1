use Rattle.std.proofs.Common.{[], ◌∷◌, Err, sym, ap, ◌∙◌}
use Rattle.std.proofs.lemmas.Result.{on_err_weaker}
use Rattle.lease_proto.specs.Frames.{frames_of_rest}
use Rattle.lease_server.proofs.ServingLemmas.{Stops-within, ServesLines-fault}
use Rattle.lease_server.proofs.telling.tell_rest.Goals as goal

pub returns-in-Some-clause-err : goal.returns-in-Some-clause-err
returns-in-Some-clause-err g c =
    let may = g.T.Teller.may_answer in
    rw (sym (c.in-Some.ensures ∙ ap frames_of_rest c.begun.ensures)) (on_err_weaker c.deliver.result
    (Stops-within may (Err c.in-Some.fault ∷ []) c.args.teller.now c.args.teller.now c.line.result.now _ _
    (ServesLines-fault may c.args.teller.now c.in-Some.fault c.line.result.now c.line.ensures))
    c.deliver.ensures.err)
