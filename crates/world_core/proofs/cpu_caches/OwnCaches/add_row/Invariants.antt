use Rattle.std.proofs.Common.{◌≡◌, ◌++◌, All, replicate}
use Rattle.world_core.specs.Setups.{own_row}
use Rattle.stock.specs.OwnCaches.{HasNoRound}
use Rattle.world_core.proofs.cpu_caches.OwnCaches.add_row.Given as goal

abbrev pub invariant-loop-cache : goal.invariant-loop-cache
invariant-loop-cache g l = record {
  owners : l.self.owners.items ≡ l.fn.self.owners.items ++ replicate l.cache l.cpu;
  caches : l.self.caches.items ≡ l.fn.self.caches.items ++ own_row l.arena l.quantum l.cache;
  empty : All HasNoRound l.fn.self.caches.items → All HasNoRound l.self.caches.items;
}
