use Rattle.std.proofs.Common.{◌≡◌, ◌++◌, take}
use Rattle.std.specs.List.{flat_map}
use Rattle.vmemd.specs.Watching.{rows_of}
use Rattle.vmemd.proofs.looking.push_rows.Given as goal

abbrev pub invariant-loop-lease : goal.invariant-loop-lease
invariant-loop-lease l = l.rows.items ≡ l.initial.rows.items ++ flat_map (rows_of l.arenas l.client) (take l.lease-index l.leases)
