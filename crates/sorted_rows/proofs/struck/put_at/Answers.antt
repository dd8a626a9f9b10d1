use Rattle.std.proofs.Common.{refl}
use Rattle.sorted_rows.proofs.StruckLemmas.{laid_set}
use Rattle.sorted_rows.proofs.struck.put_at.Goals as goal

pub returns-clause-laid : goal.returns-clause-laid
returns-clause-laid g c = rw c.set.ensures.items (laid_set g.T.RowEntry.rank c.args.entry c.args.rows.now.items c.args.struck _ _ c.requires.laid c.requires.spot refl (rw c.key.ensures at (c.fits.ensures c.if-not-fits.false)) c.requires.absent refl).0

pub returns-clause-items : goal.returns-clause-items
returns-clause-items g c = λ so. rw c.set.ensures.items (laid_set g.T.RowEntry.rank c.args.entry c.args.rows.now.items c.args.struck _ _ c.requires.laid c.requires.spot refl (rw c.key.ensures at (c.fits.ensures c.if-not-fits.false)) c.requires.absent refl).1
