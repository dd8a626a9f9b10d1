use Rattle.std.proofs.Common.{◌≡◌, ◌++◌, All, length, replicate, take}
use Rattle.world_core.specs.Setups.{own_rows}
use Rattle.stock.specs.OwnCaches.{HasNoRound}
use Rattle.world_core.proofs.cpu_caches.OwnCaches.add_cpu.Given as goal

abbrev pub invariant-loop-index : goal.invariant-loop-index
invariant-loop-index g l = record {
  owners : l.self.owners.items ≡ l.fn.self.owners.items ++ replicate (length (own_rows 0 (take l.index l.tree))) l.cpu;
  caches : l.self.caches.items ≡ l.fn.self.caches.items ++ own_rows 0 (take l.index l.tree);
  empty : All HasNoRound l.fn.self.caches.items → All HasNoRound l.self.caches.items;
}
