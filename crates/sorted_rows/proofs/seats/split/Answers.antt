use Rattle.std.proofs.Common.{◌≡◌, [], drop, get_or, length, refl, arith}
use Rattle.std.proofs.lemmas.List.{take-append-drop, length-take-le, length-drop}
use Rattle.std.proofs.lemmas.List.Elements.{All-pop}
use Rattle.sorted_rows.proofs.RowLemmas.{laid_split}
use Rattle.sorted_rows.proofs.seats.split.Goals as goal

pub returns-clause-laid : goal.returns-clause-laid
returns-clause-laid g c =
    let row = get_or c.args.rows.now.items c.args.at [] in
    let full = c.requires.full in
    let low = length-take-le 32 row (omega arith) in
    let high : length (drop 32 row) ≡ 32 = omega (arith, length-drop 32 row) in
    (laid_split g.T.RowEntry.rank c.args.rows.now.items _ c.args.at row _ _ c.requires.laid c.requires.within refl (take-append-drop 32 row) low high c.split.ensures.items c.requires.others).0

pub returns-clause-short : goal.returns-clause-short
returns-clause-short g c =
    let row = get_or c.args.rows.now.items c.args.at [] in
    let full = c.requires.full in
    let low = length-take-le 32 row (omega arith) in
    let high : length (drop 32 row) ≡ 32 = omega (arith, length-drop 32 row) in
    (laid_split g.T.RowEntry.rank c.args.rows.now.items _ c.args.at row _ _ c.requires.laid c.requires.within refl (take-append-drop 32 row) low high c.split.ensures.items c.requires.others).2

pub returns-clause-items : goal.returns-clause-items
returns-clause-items g c =
    let row = get_or c.args.rows.now.items c.args.at [] in
    let full = c.requires.full in
    let low = length-take-le 32 row (omega arith) in
    let high : length (drop 32 row) ≡ 32 = omega (arith, length-drop 32 row) in
    (laid_split g.T.RowEntry.rank c.args.rows.now.items _ c.args.at row _ _ c.requires.laid c.requires.within refl (take-append-drop 32 row) low high c.split.ensures.items c.requires.others).1

pub returns-clause-spare : goal.returns-clause-spare
returns-clause-spare g c = (All-pop (λ r. r ≡ []) _ _ _ c.pop.ensures.items c.requires.spare).0
