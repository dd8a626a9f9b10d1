use Rattle.stock_audit.proofs.LawProofs as laws
use Rattle.stock_audit.proofs.laws.chain_laws.Goals as goal

pub returns-clause-exported : goal.returns-clause-exported
returns-clause-exported c = laws.child_is_exported

pub returns-clause-children : goal.returns-clause-children
returns-clause-children c = laws.exported_is_children

pub returns-clause-allocated : goal.returns-clause-allocated
returns-clause-allocated c = laws.allocated_is_out

pub returns-clause-spans : goal.returns-clause-spans
returns-clause-spans c = laws.spans_are_of_source

pub returns-clause-apart : goal.returns-clause-apart
returns-clause-apart c = laws.out_never_overlaps
