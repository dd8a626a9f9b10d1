use Rattle.std.proofs.Common.{◌≡◌, ◌≤◌, ℕ, Some, vec_len, vec_capacity}
use Rattle.std.specs.Prelude.{slice_get}
use Rattle.std.specs.Global.{Vec}
use Rattle.deed_core.specs.Extent.{Extent}
use Rattle.lease_threads.specs.Ends.{AreInTurn, AreRootsIn, TellsArena}
use Rattle.lease_threads.proofs.gathering.gather.Given as goal

abbrev pub invariant-loop-id : goal.invariant-loop-id
invariant-loop-id g l = record {
  arenas : l.system.arenas ≡ l.fn.system.arenas;
  roots : AreRootsIn l.fn.system l.system.roots;
  told : (id : ℕ) (t : Vec Extent) → slice_get l.told.items id ≡ Some t → TellsArena l.fn.system id t.items;
  len : vec_len l.told ≡ l.id;
  room : l.count ≤ vec_capacity l.told;
  turn : AreInTurn l.id l.system.roots;
}
