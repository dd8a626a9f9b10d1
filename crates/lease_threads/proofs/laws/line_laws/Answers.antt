use Rattle.lease_threads.proofs.LineLaws.{line_keeps, stopped_line_keeps, line_no_fit}
use Rattle.lease_threads.proofs.laws.line_laws.Goals as goal

pub returns-clause-kept : goal.returns-clause-kept
returns-clause-kept g c = line_keeps _ g.G.Gate.passed

pub returns-clause-stopped : goal.returns-clause-stopped
returns-clause-stopped g c = stopped_line_keeps _ g.G.Gate.may_stop g.G.Gate.passed

pub returns-clause-no_fit : goal.returns-clause-no_fit
returns-clause-no_fit g c = line_no_fit _ g.G.Gate.passed
