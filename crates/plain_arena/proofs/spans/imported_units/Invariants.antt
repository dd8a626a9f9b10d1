use Rattle.std.proofs.Common.{◌≡◌, ◌*◌, ◌^◌, ◌≤◌, take, sum_by}
use Rattle.plain_arena.proofs.spans.imported_units.Given as goal

abbrev pub invariant-loop-import : goal.invariant-loop-import
invariant-loop-import l = record { sum : l.units ≡ sum_by (λ t. t.holding.range.len) (take l.import-index l.imported); bound : l.units ≤ l.import-index * 2 ^ 62 }
