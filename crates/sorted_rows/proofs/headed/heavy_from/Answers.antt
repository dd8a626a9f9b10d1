use Rattle.std.proofs.Common.{◌+◌, ◌<◌, ◌≤◌, length, set, refl, sym, ◌∙◌, arith}
use Rattle.sorted_rows.specs.Tops.{Describes, IsTop}
use Rattle.sorted_rows.specs.Weights.{weighs}
use Rattle.sorted_rows.specs.declared.tops.TheConstants.{UNTOLD}
use Rattle.sorted_rows.proofs.HeadLemmas.{heads_told}
use Rattle.sorted_rows.proofs.HeavyLemmas.{row_has, row_lacks, up_to_heavy}
use Rattle.sorted_rows.proofs.headed.heavy_from.Goals as goal

pub loop-seat-init : goal.loop-seat-init
loop-seat-init g c =
    let next = c.next_heavy-seat in
    let within : next.result ≤ length c.args.rows.now = omega (arith, next.ensures.within, c.requires.tops.same) in
    let most : c.args.least ≤ UNTOLD = omega (arith, c.ranges.least.fits) in
    record {
      tops = c.requires.tops;
      within = next.ensures.within;
      found = up_to_heavy (g.T.RowEntry.weight c.args.measure) c.args.tops.now c.args.rows.now c.args.from next.result c.args.least _ c.requires.tops next.ensures.from within next.ensures.light most refl;
    }

pub returns-in-Ok-clause-value : goal.returns-in-Ok-clause-value
returns-in-Ok-clause-value g c =
    let p = weighs (g.T.RowEntry.weight c.args.measure) c.args.least in
    let lt : c.loop-seat.seat < length c.args.rows.now = omega (arith, c.loop-seat.invariant.tops.same, c.loop-seat-test.true) in
    row_has p c.args.rows.now c.loop-seat.seat c.index-rows-seat.result c.in-Ok.entry lt c.index-rows-seat.is (sym c.in-Ok.ensures.found) ∙ sym c.loop-seat.invariant.found

pub loop-seat-preserved : goal.loop-seat-preserved
loop-seat-preserved g c =
    let weight = g.T.RowEntry.weight c.args.measure in
    let p = weighs weight c.args.least in
    let rows = c.args.rows.now in
    let seat = c.loop-seat.seat in
    let are = c.loop-seat.invariant.tops in
    let next = c.next_heavy-seat-in-loop-seat in
    let lt : seat < length rows = omega (arith, are.same, c.loop-seat-test.true) in
    let told = set c.loop-seat.tops seat c.in-Err.top in
    let tops : Describes (IsTop weight) told rows = heads_told (IsTop weight) c.loop-seat.tops rows seat c.in-Err.top c.index-rows-seat.result are lt c.index-rows-seat.is (λ _. c.in-Err.ensures.top) in
    let within : next.result ≤ length rows = omega (arith, next.ensures.within, tops.same) in
    let most : c.args.least ≤ UNTOLD = omega (arith, c.ranges.least.fits) in
    let past = row_lacks p rows seat c.index-rows-seat.result _ lt c.index-rows-seat.is (sym c.in-Err.ensures.none) c.loop-seat.invariant.found in
    record {
      tops = tops;
      within = next.ensures.within;
      found = up_to_heavy weight told rows (seat + 1) next.result c.args.least _ tops next.ensures.from within next.ensures.light most past;
    }
