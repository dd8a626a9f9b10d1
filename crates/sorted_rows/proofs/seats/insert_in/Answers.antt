use Rattle.std.proofs.Common.{[], refl, sym, subst}
use Rattle.sorted_rows.specs.Order.{Rises, IsRankAt}
use Rattle.sorted_rows.proofs.RowLemmas.{rises_at, laid_insert, short_others}
use Rattle.sorted_rows.proofs.seats.insert_in.Goals as goal

pub below_near-at-requires : goal.below_near-at-requires
below_near-at-requires g c = subst (Rises g.T.RowEntry.rank) (sym c.row.ensures) (rises_at g.T.RowEntry.rank c.args.rows.now.items c.args.seat [] c.requires.within c.requires.laid.rises)

pub returns-clause-laid : goal.returns-clause-laid
returns-clause-laid g c =
    let place = subst (λ r. IsRankAt g.T.RowEntry.rank (g.T.RowEntry.rank c.args.entry) r c.below_near-at.result) c.row.ensures (rw c.key.ensures at c.below_near-at.ensures) in
    rw c.insert.ensures.items (laid_insert g.T.RowEntry.rank _ c.args.seat _ c.args.entry _ c.requires.laid c.requires.within refl c.requires.seat place c.requires.absent).0

pub returns-clause-items : goal.returns-clause-items
returns-clause-items g c =
    let place = subst (λ r. IsRankAt g.T.RowEntry.rank (g.T.RowEntry.rank c.args.entry) r c.below_near-at.result) c.row.ensures (rw c.key.ensures at c.below_near-at.ensures) in
    rw c.insert.ensures.items (laid_insert g.T.RowEntry.rank _ c.args.seat _ c.args.entry _ c.requires.laid c.requires.within refl c.requires.seat place c.requires.absent).1

pub returns-clause-others : goal.returns-clause-others
returns-clause-others g c = rw c.insert.ensures.items (short_others c.args.rows.now.items c.args.seat _ c.requires.short)
