use Rattle.vmemd.specs.Retrying.{PutsBack}
use Rattle.vmemd.proofs.retrying.put_back.Given as goal

-- whatever puts back what is left from here on, put all back from the begin on
abbrev pub invariant-loop : goal.invariant-loop
invariant-loop g l = (done : g.row.T-Done.Denot) (new : g.row.A.Denot)
    → PutsBack g.T.Rest.may_end g.A.Alarm.may_note g.A.Alarm.may_tell l.tried l.alarm done new
    → PutsBack g.T.Rest.may_end g.A.Alarm.may_note g.A.Alarm.may_tell l.fn.first l.fn.alarm done new
