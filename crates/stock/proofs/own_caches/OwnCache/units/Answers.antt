use Rattle.std.proofs.Common.{◌+◌, ◌*◌}
use Rattle.magazine_layer.specs.Magazines.{cache_rounds}
use Rattle.stock.proofs.Summing.{rounds_alike}
use Rattle.stock.proofs.own_caches.OwnCache.units.Goals as goal

pub units_alike-requires : goal.units_alike-requires
units_alike-requires g c = record {
  each = (c.self.inside.cache + 1) * c.self.inside.quantum;
  alike = rounds_alike c.self.inside.arena (c.self.inside.cache + 1) c.self.inside.quantum (cache_rounds c.self.inside.cpu) c.self.invariant.rounds;
}
