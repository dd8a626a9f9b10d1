use Rattle.std.proofs.Common.{◌≡◌, take, sum_by, Some}
use Rattle.std.specs.Prelude.{slice_get}
use Rattle.deed_core.specs.Covering.{units_held}
use Rattle.slab_layer.specs.Cache.{deeds_of}
use Rattle.stock.specs.Spaces.{SpaceState}
use Rattle.stock.proofs.stocks.Stock.slab_units.Given as goal

abbrev pub invariant-loop-cache : goal.invariant-loop-cache
invariant-loop-cache g l = (s : SpaceState) → slice_get l.self l.arena ≡ Some s → l.units ≡ sum_by (λ c. units_held (deeds_of c.slab)) (take l.cache s.caches)
