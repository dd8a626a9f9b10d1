use Rattle.std.proofs.Common.{◌≡◌, All}
use Rattle.world_core.specs.Setups.{own_caches, own_owners}
use Rattle.stock.specs.OwnCaches.{HasNoRound}
use Rattle.world_core.proofs.cpu_caches.OwnCaches.add_cpus.Given as goal

abbrev pub invariant-loop-cpu : goal.invariant-loop-cpu
invariant-loop-cpu g l = record {
  owners : l.self.owners.items ≡ own_owners l.cpu l.tree;
  caches : l.self.caches.items ≡ own_caches l.cpu l.tree;
  empty : All HasNoRound l.self.caches.items;
}
