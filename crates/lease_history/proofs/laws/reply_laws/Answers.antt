use Rattle.lease_history.proofs.ReplyLemmas.{told_stays_told, replies_agree, replies_keep_known}
use Rattle.lease_history.proofs.ProtocolLemmas.{welcomes_may_be_told}
use Rattle.lease_history.proofs.laws.reply_laws.Goals as goal

pub returns-clause-stays : goal.returns-clause-stays
returns-clause-stays c = told_stays_told

pub returns-clause-welcome : goal.returns-clause-welcome
returns-clause-welcome c = welcomes_may_be_told

pub returns-clause-one : goal.returns-clause-one
returns-clause-one c = replies_agree

pub returns-clause-got : goal.returns-clause-got
returns-clause-got c = replies_keep_known
