use Rattle.lease_machine.proofs.NoRoom.{no_fit_means_taken, no_fit_means_taken_up, freed_is_whole, first_lease_is_served, never_both, runs_never_both}
use Rattle.lease_machine.proofs.Fewer.{fewer_fit_too}
use Rattle.lease_machine.proofs.CouldServe.{what_serves_can}
use Rattle.lease_machine.proofs.laws.no_fit_laws.Goals as goal

pub returns-clause-taken : goal.returns-clause-taken
returns-clause-taken c = no_fit_means_taken

pub returns-clause-freed : goal.returns-clause-freed
returns-clause-freed c = freed_is_whole

pub returns-clause-first : goal.returns-clause-first
returns-clause-first c = first_lease_is_served

pub returns-clause-taken_up : goal.returns-clause-taken_up
returns-clause-taken_up c = no_fit_means_taken_up

pub returns-clause-fewer : goal.returns-clause-fewer
returns-clause-fewer c = fewer_fit_too

pub returns-clause-never_both : goal.returns-clause-never_both
returns-clause-never_both c = never_both

pub returns-clause-never_in_runs : goal.returns-clause-never_in_runs
returns-clause-never_in_runs c = runs_never_both

pub returns-clause-serves : goal.returns-clause-serves
returns-clause-serves c = what_serves_can
