use Rattle.std.proofs.Common.{◌<◌, ◌≤◌, length, ◌∙◌, sym, arith}
use Rattle.deed_core.specs.Covering.{units_in, units_held}
use Rattle.deed_core.proofs.LawProofs.{slice_get_some, sum_by-flat_map}
use Rattle.stock.specs.Spaces.{SpaceState}
use Rattle.stock.specs.Sums.{held_of}
use Rattle.stock.proofs.Counting.{one_more, one_fits, all_counted}
use Rattle.stock.proofs.stocks.Stock.exported_units.Goals as goal

pub overflow_add-units : goal.overflow_add-units
overflow_add-units g c =
    let within : c.loop-child.child < length c.args.self.now = omega arith in
    let x = slice_get_some c.args.self.now c.loop-child.child within in
    let fits = one_fits (λ (y : SpaceState). units_held (held_of c.args.arena y.arena.imported)) c.args.self.now c.loop-child.child x.0 within x.1 in
    let all = sum_by-flat_map units_in (λ (y : SpaceState). held_of c.args.arena y.arena.imported) c.args.self.now in
    omega (arith, fits, all, c.loop-child.invariant, c.requires.fits, c.imported_units-units.ensures x.0 x.1)

pub loop-child-preserved : goal.loop-child-preserved
loop-child-preserved g c =
    let within : c.loop-child.child < length c.args.self.now = omega arith in
    let x = slice_get_some c.args.self.now c.loop-child.child within in
    let more = one_more (λ (y : SpaceState). units_held (held_of c.args.arena y.arena.imported)) c.args.self.now c.loop-child.child x.0 within x.1 in
    omega (arith, more, c.loop-child.invariant, c.imported_units-units.ensures x.0 x.1)

pub returns : goal.returns
returns g c =
    let past : length c.args.self.now ≤ c.loop-child.child = omega arith in
    c.loop-child.invariant ∙ (all_counted (λ (y : SpaceState). units_held (held_of c.args.arena y.arena.imported)) c.args.self.now c.loop-child.child past ∙ sym (sum_by-flat_map units_in (λ (y : SpaceState). held_of c.args.arena y.arena.imported) c.args.self.now))
