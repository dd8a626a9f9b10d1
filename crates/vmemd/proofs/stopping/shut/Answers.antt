use Rattle.lease_threads.specs.Ends.{begun}
use Rattle.vmemd.proofs.RunningLemmas.{ranges_at_last}
use Rattle.vmemd.proofs.stopping.shut.Goals as goal

pub returns : goal.returns
returns g c =
    let (tries, retries) = c.put_back.ensures in
    ranges_at_last (λ v. v.items) g.A.Alarm.may_note g.A.Alarm.may_tell tries (begun c.args.system) c.begin_shut.result c.args.alarm.now c.put_back.new.alarm c.put_back.result
    (c.begin_shut.ensures.ranges, c.begin_shut.ensures.rest) retries
