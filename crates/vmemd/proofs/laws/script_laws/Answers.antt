use Rattle.vmemd.proofs.LawLemmas.{scripts_split, script_leases_apart, script_units_one_home, script_audit_told, script_audit_whole}
use Rattle.vmemd.proofs.MadeLemmas.{setups_open_pictures}
use Rattle.vmemd.proofs.laws.script_laws.Goals as goal

pub returns-clause-opened : goal.returns-clause-opened
returns-clause-opened c = setups_open_pictures

pub returns-clause-split : goal.returns-clause-split
returns-clause-split c = scripts_split

pub returns-clause-apart : goal.returns-clause-apart
returns-clause-apart c = script_leases_apart

pub returns-clause-homes : goal.returns-clause-homes
returns-clause-homes c = script_units_one_home

pub returns-clause-told : goal.returns-clause-told
returns-clause-told c = script_audit_told

pub returns-clause-whole : goal.returns-clause-whole
returns-clause-whole c = script_audit_whole
