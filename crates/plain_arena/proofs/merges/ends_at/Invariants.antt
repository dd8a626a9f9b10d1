use Rattle.std.proofs.Common.{◌≢◌}
use Rattle.std.specs.List.{AllWithin}
use Rattle.deed_core.specs.Extent.{end_of}
use Rattle.plain_arena.proofs.merges.ends_at.Given as goal

abbrev pub invariant-loop-at : goal.invariant-loop-at
invariant-loop-at g l = AllWithin (λ r. end_of r.range ≢ l.base) l.free 0 l.at
