use Rattle.std.proofs.Common.{◌≡◌, ◌+◌, ◌≤◌, length, vec_len, vec_capacity}
use Rattle.sorted_rows.specs.Layout.{left_in}
use Rattle.sorted_rows.specs.Stocked.{IsStocked}
use Rattle.sorted_rows.proofs.rows.Rows.reserve.Given as goal

abbrev pub invariant-loop : goal.invariant-loop
invariant-loop g l = record {
  stocked : IsStocked g.T.RowEntry.rank l.self-inside.rows l.self-inside.spare l.self-inside.struck l.self-inside.len l.self-inside.room;
  same : (left_in l.self-inside.rows.items l.self-inside.struck ≡ left_in l.initial.self-inside.rows.items l.initial.self-inside.struck) × (l.self-inside.room ≡ l.initial.self-inside.room);
  count : length l.self-inside.rows.items + vec_len l.self-inside.spare ≡ l.counter;
  hold : (l.wanted ≤ l.self-inside.rows.capacity) × (l.wanted ≤ vec_capacity l.self-inside.spare);
}
