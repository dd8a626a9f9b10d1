use Rattle.std.proofs.Common.{◌+◌, ◌-◌, ◌<◌, ◌≡◌, length, [], arith}
use Rattle.sorted_rows.proofs.StruckLemmas.{before_here, before_last}
use Rattle.sorted_rows.proofs.struck.before.Goals as goal

pub returns-then-spot-gt0 : goal.returns-then-spot-gt0
returns-then-spot-gt0 g c =
    let e = c.row-row.ensures in
    before_here c.args.rows.now.items c.args.spot.seat c.args.spot.place c.row-row.result.now c.get.result c.requires.spot.0 e (rw e c.requires.spot.1) c.if-spot-gt0.true c.get.ensures

pub returns : goal.returns
returns g c =
    let prev : c.args.spot.seat - 1 < length c.args.rows.now.items = omega (arith, c.requires.spot.0) in
    let e = c.row-row-2.ensures in
    let some : 0 < length c.row-row-2.result.now = rw e (c.requires.laid.filled (c.args.spot.seat - 1) [] prev) in
    let start : c.args.spot.place ≡ 0 = omega arith in
    let near : c.args.spot.seat - 1 + 1 ≡ c.args.spot.seat = omega arith in
    let last : c.len.result - 1 + 1 ≡ length c.row-row-2.result.now = omega (arith, some, c.len.ensures.len) in
    before_last c.args.rows.now.items c.args.spot.seat c.args.spot.place (c.args.spot.seat - 1) (c.len.result - 1) c.row-row-2.result.now c.get-2.result c.requires.spot.0 start near e some last c.get-2.ensures
