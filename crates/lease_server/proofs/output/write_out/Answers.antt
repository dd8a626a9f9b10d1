use Rattle.std.proofs.Common.{◌++◌, take, ◌∙◌}
use Rattle.std.proofs.KnownBytes.{Appends-trans}
use Rattle.lease_server.proofs.ServingLemmas.{moves_front}
use Rattle.lease_server.proofs.output.write_out.Goals as goal

pub loop-rest-preserved : goal.loop-rest-preserved
loop-rest-preserved g c =
    let (written, split, appended, same) = c.loop-rest.invariant in
    let rest = c.loop-rest.rest.now in
    let n = c.in_ok-n.n in
    (written ++ take n rest, moves_front _ written rest n split, Appends-trans _ _ _ _ _ appended c.in_ok-n.ensures.bytes, c.in_ok-n.ensures.works ∙ same)
