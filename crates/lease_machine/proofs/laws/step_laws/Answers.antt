use Rattle.lease_machine.proofs.Settling.{refusals_are_answered}
use Rattle.lease_machine.proofs.Stepping.{faults_are_answered, known_are_answered, old_hellos_are_answered, audits_are_answered, clients_are_told, cpus_are_selected, resizes_are_answered, releases_are_settled}
use Rattle.lease_machine.proofs.Ticking.{ticks_are_answered}
use Rattle.lease_machine.proofs.laws.step_laws.Goals as goal

pub returns-clause-faults : goal.returns-clause-faults
returns-clause-faults c = faults_are_answered

pub returns-clause-known : goal.returns-clause-known
returns-clause-known c = known_are_answered

pub returns-clause-old_hellos : goal.returns-clause-old_hellos
returns-clause-old_hellos c = old_hellos_are_answered

pub returns-clause-audits : goal.returns-clause-audits
returns-clause-audits c = audits_are_answered

pub returns-clause-clients : goal.returns-clause-clients
returns-clause-clients c = clients_are_told

pub returns-clause-cpus : goal.returns-clause-cpus
returns-clause-cpus c = cpus_are_selected

pub returns-clause-ticks : goal.returns-clause-ticks
returns-clause-ticks c = ticks_are_answered

pub returns-clause-resizes : goal.returns-clause-resizes
returns-clause-resizes c = resizes_are_answered

pub returns-clause-releases : goal.returns-clause-releases
returns-clause-releases c = releases_are_settled

pub returns-clause-refusals : goal.returns-clause-refusals
returns-clause-refusals c = refusals_are_answered
