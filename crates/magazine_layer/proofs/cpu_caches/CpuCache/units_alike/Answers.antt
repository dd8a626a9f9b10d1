use Rattle.std.proofs.Common.{subst, sym, ap}
use Rattle.magazine_layer.specs.Alike.{AreAlike}
use Rattle.magazine_layer.specs.Magazines.{cache_rounds}
use Rattle.magazine_layer.proofs.OldCounting.{alike_last}
use Rattle.magazine_layer.proofs.cpu_caches.CpuCache.units_alike.Goals as goal

pub units_alike-requires-2 : goal.units_alike-requires-2
units_alike-requires-2 g c = record { alike = alike_last c.self.inside.previous.rounds c.self.inside.loaded.rounds (subst AreAlike (ap cache_rounds (sym c.self.view_is)) c.requires) }
