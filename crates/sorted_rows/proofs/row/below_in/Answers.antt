use Rattle.std.proofs.Common.{◌≡◌, ◌+◌, ◌*◌, length-drop, arith}
use Rattle.std.proofs.lemmas.List.{take_rest}
use Rattle.sorted_rows.proofs.PlaceLemmas.{rises_part, place_in_part}
use Rattle.sorted_rows.proofs.row.below_in.Goals as goal

pub count_below-requires : goal.count_below-requires
count_below-requires g c =
    let start = c.blocks_below-start.result * 8 in
    rw (take_rest c.args.items.now start) (rises_part g.T.RowEntry.rank c.args.items.now start c.min.result c.requires)

pub returns : goal.returns
returns g c =
    let items = c.args.items.now in
    let start = c.blocks_below-start.result * 8 in
    place_in_part g.T.RowEntry.rank c.args.key items start c.min.result c.count_below.result c.requires (omega (arith, length-drop start items)) (rw (take_rest items start) at c.count_below.ensures) (λ d some. c.blocks_below-start.ensures.before d (omega arith)) (λ d more.
    let e : start + c.min.result ≡ start + 7 + 1 = omega (arith, length-drop start items) in
    let last = c.blocks_below-start.ensures.after d (omega arith) in
    rw e (let next = c.requires (start + 7) (start + 7 + 1) d (omega arith) (omega arith) in omega (arith, last, next)))
