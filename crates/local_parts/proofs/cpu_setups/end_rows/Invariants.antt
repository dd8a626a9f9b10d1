use Rattle.std.proofs.Common.{vec_len}
use Rattle.local_parts.specs.Cpus.{HasNoRounds}
use Rattle.local_parts.proofs.cpu_setups.end_rows.Given as goal

abbrev pub invariant-loop-row : goal.invariant-loop-row
invariant-loop-row g l = HasNoRounds l.rows.items

abbrev pub decreases-loop-row : goal.decreases-loop-row
decreases-loop-row g l = vec_len l.rows
