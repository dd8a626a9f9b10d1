use Rattle.lease_tcp.specs.Rounds.{KeepsRounds}
use Rattle.lease_tcp.proofs.rounds.keep_rounds.Given as goal

-- whatever keeps the rounds from here on, kept them from the begin on
abbrev pub invariant-loop : goal.invariant-loop
invariant-loop g l = (new : g.row.K.Denot)
    → KeepsRounds g.K.Rounds.may_end g.K.Rounds.may_rest g.K.Rounds.may_be_due g.K.Rounds.may_go l.rounds new
    → KeepsRounds g.K.Rounds.may_end g.K.Rounds.may_rest g.K.Rounds.may_be_due g.K.Rounds.may_go l.fn.rounds new
