use Rattle.std.proofs.Common.{◌≡◌, take, sum_by, Some}
use Rattle.std.specs.Prelude.{slice_get}
use Rattle.deed_core.specs.Covering.{units_held}
use Rattle.magazine_layer.specs.Depots.{depot_rounds}
use Rattle.tag_arena.specs.Spanned.{holdings_of}
use Rattle.stock.specs.Spaces.{SpaceState}
use Rattle.stock.proofs.stocks.Stock.depots_units.Given as goal

abbrev pub invariant-loop-cache : goal.invariant-loop-cache
invariant-loop-cache g l = (s : SpaceState) → slice_get l.self l.arena ≡ Some s → l.units ≡ sum_by (λ c. units_held (holdings_of (depot_rounds c.depot))) (take l.cache s.caches)
