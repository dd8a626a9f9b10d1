use Rattle.stock_audit.proofs.LawProofs as laws
use Rattle.stock_audit.proofs.laws.off_chain_laws.Goals as goal

pub returns-clause-none : goal.returns-clause-none
returns-clause-none c = laws.no_step_off_chain

pub returns-clause-then : goal.returns-clause-then
returns-clause-then c = laws.off_chain_then

pub returns-clause-arena : goal.returns-clause-arena
returns-clause-arena c = laws.arena_step_off_chain

pub returns-clause-cache : goal.returns-clause-cache
returns-clause-cache c = laws.cache_step_off_chain
