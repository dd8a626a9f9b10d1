use Rattle.std.proofs.Common.{Some}
use Rattle.std.proofs.lemmas.List.Elements.{All-pop}
use Rattle.stock.specs.OwnCaches.{HasNoRound}
use Rattle.world_core.proofs.cpu_caches.OwnCaches.close.Goals as goal

pub loop-own-preserved : goal.loop-own-preserved
loop-own-preserved g c = (All-pop HasNoRound c.loop-own.caches.items c.pop.new.self.items (Some c.in-Some.own) c.in-Some.ensures.items c.loop-own.invariant).0
