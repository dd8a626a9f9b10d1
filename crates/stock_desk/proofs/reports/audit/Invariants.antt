use Rattle.std.proofs.Common.{◌≡◌, ◌++◌}
use Rattle.lease_machine.specs.Picture.{Picture, IsPicture}
use Rattle.stock_desk.proofs.Audited.{first_told}
use Rattle.stock_desk.proofs.reports.audit.Given as goal
use Rattle.stock_desk.specs.Supplies.{HasParts}

abbrev pub invariant-loop-arena : goal.invariant-loop-arena
invariant-loop-arena l = (d : Picture) → IsPicture d → HasParts l.fn.tree l.fn.stock l.fn.cpus l.fn.book d → l.out.items ≡ l.fn.out.items ++ first_told d l.arena l.fn.tree l.fn.stock
