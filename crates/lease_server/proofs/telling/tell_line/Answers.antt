use Rattle.std.proofs.Common.{◌∷◌, []}
use Rattle.std.proofs.lemmas.Result.{on_err_weaker}
use Rattle.lease_proto.specs.Frames.{frame_of}
use Rattle.lease_server.proofs.ServingLemmas.{Stops-within}
use Rattle.lease_server.proofs.telling.tell_line.Goals as goal

pub returns-clause-err : goal.returns-clause-err
returns-clause-err g c =
    on_err_weaker c.deliver.result
    (Stops-within g.T.Teller.may_answer (frame_of c.args.line.now ∷ []) c.args.teller.now c.text_for.new.teller c.text_for.result.now _ _ c.text_for.ensures)
    c.deliver.ensures.err
