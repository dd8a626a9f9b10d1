use Rattle.std.proofs.Common.{◌∷◌}
use Rattle.vmemd.proofs.retrying.put_back.Goals as goal

pub loop-preserved : goal.loop-preserved
loop-preserved g c = λ done new back.
    let (tries, retries) = back in
    c.loop.invariant done new (c.again-tried.result ∷ tries, (c.in-Err.rest, c.tell_stuck.new.alarm, c.in-Err.is, c.tell_stuck.ensures, c.again-tried.ensures, retries))
