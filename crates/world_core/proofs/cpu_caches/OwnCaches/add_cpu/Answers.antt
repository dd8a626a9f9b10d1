use Rattle.world_core.proofs.OwnSetups.{rows_more, owners_more}
use Rattle.world_core.proofs.cpu_caches.OwnCaches.add_cpu.Goals as goal

pub loop-index-preserved : goal.loop-index-preserved
loop-index-preserved g c = record {
  owners = owners_more c.args.tree.now c.loop-index.index c.arena-arena.result.now c.arena-arena.ensures.here c.args.cpu _ c.loop-index.self.owners.items c.add_row.new.self.owners.items c.loop-index.invariant.owners c.in_ok-add_row.ensures.owners;
  caches = rows_more c.args.tree.now c.loop-index.index c.arena-arena.result.now c.arena-arena.ensures.here _ c.loop-index.self.caches.items c.add_row.new.self.caches.items c.loop-index.invariant.caches c.in_ok-add_row.ensures.caches;
  empty = λ none. c.add_row.ensures.empty (c.loop-index.invariant.empty none);
}
