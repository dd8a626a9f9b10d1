use Rattle.vmemd.proofs.LawLemmas.{script_lines_repeat, script_recent_repeat, script_answers_agree, script_grants_fit, script_repeats_fit, script_never_both, script_first_lease, script_grown_served, script_freed_whole, script_returned_whole}
use Rattle.vmemd.proofs.laws.answer_laws.Goals as goal

pub returns-clause-repeats : goal.returns-clause-repeats
returns-clause-repeats c = script_lines_repeat

pub returns-clause-agree : goal.returns-clause-agree
returns-clause-agree c = script_answers_agree

pub returns-clause-fit : goal.returns-clause-fit
returns-clause-fit c = script_grants_fit

pub returns-clause-repeats_fit : goal.returns-clause-repeats_fit
returns-clause-repeats_fit c = script_repeats_fit

pub returns-clause-never_both : goal.returns-clause-never_both
returns-clause-never_both c = script_never_both

pub returns-clause-first : goal.returns-clause-first
returns-clause-first c = script_first_lease

pub returns-clause-freed : goal.returns-clause-freed
returns-clause-freed c = script_freed_whole

pub returns-clause-returned : goal.returns-clause-returned
returns-clause-returned c = script_returned_whole

pub returns-clause-grown : goal.returns-clause-grown
returns-clause-grown c = script_grown_served

pub returns-clause-recent : goal.returns-clause-recent
returns-clause-recent c = script_recent_repeat
