use Rattle.lease_machine.proofs.Growing.{grows_add_free, grown_is_served, grown_stays, grows_keep, grows_keep_nothing, grows_are_answered}
use Rattle.lease_machine.proofs.laws.grow_laws.Goals as goal

pub returns-clause-adds : goal.returns-clause-adds
returns-clause-adds c = grows_add_free

pub returns-clause-serves : goal.returns-clause-serves
returns-clause-serves c = grown_is_served

pub returns-clause-stays : goal.returns-clause-stays
returns-clause-stays c = grown_stays

pub returns-clause-keeps : goal.returns-clause-keeps
returns-clause-keeps c = grows_keep

pub returns-clause-answered : goal.returns-clause-answered
returns-clause-answered c = grows_are_answered

pub returns-clause-nothing : goal.returns-clause-nothing
returns-clause-nothing c = grows_keep_nothing
