use Rattle.std.proofs.Common.{refl}
use Rattle.sorted_rows.proofs.RowLemmas.{loose_remove}
use Rattle.sorted_rows.proofs.struck.remove_at.Goals as goal

pub returns-clause-loose : goal.returns-clause-loose
returns-clause-loose g c = rw c.remove.ensures.items (loose_remove g.T.RowEntry.rank c.args.rows.now.items c.args.spot.seat c.args.spot.place _ c.requires.laid c.requires.short c.requires.spot.0 refl c.requires.spot.1).0

pub returns-clause-short : goal.returns-clause-short
returns-clause-short g c = rw c.remove.ensures.items (loose_remove g.T.RowEntry.rank c.args.rows.now.items c.args.spot.seat c.args.spot.place _ c.requires.laid c.requires.short c.requires.spot.0 refl c.requires.spot.1).2

pub returns-clause-items : goal.returns-clause-items
returns-clause-items g c = rw c.remove.ensures.items (loose_remove g.T.RowEntry.rank c.args.rows.now.items c.args.spot.seat c.args.spot.place _ c.requires.laid c.requires.short c.requires.spot.0 refl c.requires.spot.1).1
