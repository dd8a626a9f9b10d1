use Rattle.std.proofs.Common.{◌≡◌, ◌<◌, ◌≤◌, [], None, subst, ap, arith, get_or, length}
use Rattle.std.proofs.lemmas.List.{get_or_default}
use Rattle.std.specs.List.{find}
use Rattle.sorted_rows.specs.Weights.{weighs}
use Rattle.sorted_rows.specs.declared.tops.TheConstants.{UNTOLD}
use Rattle.sorted_rows.proofs.HeadLemmas.{light_row}
use Rattle.sorted_rows.proofs.headed.HeadedRows.is_light.Goals as goal

pub returns-then-index-least : goal.returns-then-index-least
returns-then-index-least g c = λ same.
    let rows = c.self.inside.rows.items in
    let row = get_or rows c.args.seat [] in
    let within : c.args.seat < length rows = omega (arith, c.requires, ap (λ v. length v.items) c.self.view_is) in
    let most : c.args.least ≤ UNTOLD = omega (arith, c.ranges.least.fits) in
    let light : get_or c.self.inside.tops.items c.args.seat c.index.result.now < c.args.least = omega (arith, c.index.ensures, c.if-index-least.true) in
    let none = light_row (g.T.RowEntry.weight c.self.inside.measure) c.self.inside.tops.items rows c.args.seat c.args.least c.index.result.now row c.self.invariant.1 within (get_or_default rows c.args.seat [] row within) light most in
    let now = ap (λ v. get_or v.items c.args.seat []) c.self.view_is in
    subst (λ m. find (weighs (g.T.RowEntry.weight m) c.args.least) (get_or c.args.self.now.items c.args.seat []) ≡ None) (c.is_same.ensures.0 same) (rw now at none)
