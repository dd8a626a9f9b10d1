use Rattle.std.proofs.Common.{◌≢◌}
use Rattle.std.specs.List.{AllWithin}
use Rattle.plain_arena.proofs.merges.starts_at.Given as goal

abbrev pub invariant-loop-at : goal.invariant-loop-at
invariant-loop-at g l = AllWithin (λ r. r.range.base ≢ l.end) l.free 0 l.at
