use Rattle.std.proofs.Common.{Some}
use Rattle.std.proofs.lemmas.List.Elements.{All-pop}
use Rattle.stock.specs.Endings.{IsBareCache}
use Rattle.stock.proofs.endings.discard_caches.Goals as goal

pub loop-cache-preserved : goal.loop-cache-preserved
loop-cache-preserved g c = (All-pop IsBareCache c.loop-cache.caches.items c.pop.new.self.items (Some c.in-Some.cache) c.in-Some.ensures.items c.loop-cache.invariant).0
