use Rattle.std.proofs.Common.{◌≡◌, ◌≤◌, All, true, map, take, length, vec_len, vec_capacity}
use Rattle.lease_terms.specs.Names.{is_name}
use Rattle.world_core.proofs.openings.names_of.Given as goal

abbrev pub invariant-loop-arena : goal.invariant-loop-arena
invariant-loop-arena l = record {
  is : l.names.items ≡ map (λ x. x.name) (take l.arena-index l.arenas);
  proper : All (λ n. is_name n ≡ true) l.names.items;
  count : vec_len l.names ≡ l.arena-index;
  room : length l.arenas ≤ vec_capacity l.names;
}
