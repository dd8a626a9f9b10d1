use Rattle.std.proofs.Common.{◌≡◌, ◌++◌, take}
use Rattle.std.specs.List.{flat_map}
use Rattle.lease_watch.specs.Rows.{next_text}
use Rattle.lease_watch.proofs.rows.push_more.Given as goal

abbrev pub invariant-loop-row : goal.invariant-loop-row
invariant-loop-row l = l.out.items ≡ l.initial.out.items ++ flat_map (next_text) (take l.row-index l.rows)
