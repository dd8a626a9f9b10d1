use Rattle.std.proofs.Common.{zero, suc, true, false, refl, rules}
use Rattle.lease_tcp.proofs.rounds.keep_rounds.Goals as goal

pub loop-init : goal.loop-init
loop-init g c = λ new keeps. keeps

pub returns-then-is_over : goal.returns-then-is_over
returns-then-is_over g c =
    let over : g.K.Rounds.may_end c.loop.rounds true = search rules in
    c.loop.invariant c.loop.rounds (zero, refl, over)

pub loop-preserved : goal.loop-preserved
loop-preserved g c = λ new keeps.
    let (turns, takes, over) = keeps in
    let going : g.K.Rounds.may_end c.loop.rounds false = search rules in
    c.loop.invariant new (suc turns, (c.take_turn.new.rounds, going, c.take_turn.ensures, takes), over)
