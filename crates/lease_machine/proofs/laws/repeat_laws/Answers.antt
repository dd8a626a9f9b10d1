use Rattle.lease_machine.proofs.Repeats.{lines_repeat}
use Rattle.lease_machine.proofs.Agreeing.{answers_agree, recent_repeat}
use Rattle.lease_machine.proofs.Replied.{clients_get_replies}
use Rattle.lease_machine.proofs.laws.repeat_laws.Goals as goal

pub returns-clause-repeats : goal.returns-clause-repeats
returns-clause-repeats c = lines_repeat

pub returns-clause-agree : goal.returns-clause-agree
returns-clause-agree c = answers_agree

pub returns-clause-named : goal.returns-clause-named
returns-clause-named c = clients_get_replies

pub returns-clause-recent : goal.returns-clause-recent
returns-clause-recent c = recent_repeat
