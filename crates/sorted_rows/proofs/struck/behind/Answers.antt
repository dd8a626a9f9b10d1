use Rattle.std.proofs.Common.{◌+◌, ◌<◌, ◌≡◌, length, [], ap, suc, arith}
use Rattle.sorted_rows.proofs.StruckLemmas.{behind_here, behind_next, behind_none}
use Rattle.sorted_rows.proofs.struck.behind.Goals as goal

pub returns-then-len-spot-gt1 : goal.returns-then-len-spot-gt1
returns-then-len-spot-gt1 g c =
    let e = c.row-row.ensures in
    let less : c.args.spot.place + 1 < length c.row-row.result.now = omega (arith, c.len.ensures.len) in
    behind_here c.args.rows.now.items c.args.spot.seat c.args.spot.place c.row-row.result.now c.get.result c.requires.spot.0 e less c.get.ensures

pub returns-then-len-spot-gt1-2 : goal.returns-then-len-spot-gt1-2
returns-then-len-spot-gt1-2 g c =
    let e = c.row-row.ensures in
    let s = c.row-next.ensures in
    let end : c.args.spot.place + 1 ≡ length c.row-row.result.now = omega (arith, c.len.ensures.len, ap length e, c.requires.spot.1) in
    let next_lt : c.args.spot.seat + 1 < length c.args.rows.now.items = omega arith in
    let next : c.args.spot.seat + 1 ≡ suc c.args.spot.seat = omega arith in
    behind_next c.args.rows.now.items c.args.spot.seat c.args.spot.place (c.args.spot.seat + 1) c.row-row.result.now c.row-next.result.now c.get-then-len-spot-gt1-2.result c.requires.spot.0 e end next next_lt s (rw s (c.requires.laid.filled (c.args.spot.seat + 1) [] next_lt)) c.get-then-len-spot-gt1-2.ensures

pub returns-else-len-spot-gt1-2 : goal.returns-else-len-spot-gt1-2
returns-else-len-spot-gt1-2 g c =
    let e = c.row-row.ensures in
    let end : c.args.spot.place + 1 ≡ length c.row-row.result.now = omega (arith, c.len.ensures.len, ap length e, c.requires.spot.1) in
    behind_none c.args.rows.now.items c.args.spot.seat c.args.spot.place c.row-row.result.now c.requires.spot.0 e end (omega arith)
