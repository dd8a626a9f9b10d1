use Rattle.std.proofs.Common.{◌≡◌, ◌+◌, ◌≤◌, ◌++◌, None, replicate, vec_len, vec_capacity}
use Rattle.world_core.proofs.openings.fill_empty.Given as goal

abbrev pub invariant-loop : goal.invariant-loop
invariant-loop g l = record {
  is : l.list.items ≡ l.fn.list.items ++ replicate l.counter None;
  count : vec_len l.list ≡ vec_len l.fn.list + l.counter;
  room : vec_len l.fn.list + l.count ≤ vec_capacity l.list;
}
