use Rattle.std.proofs.Common.{◌≡◌, [], refl, arith}
use Rattle.std.proofs.lemmas.List.Elements.{All-push}
use Rattle.sorted_rows.proofs.RowLemmas.{laid_merge}
use Rattle.sorted_rows.proofs.seats.merge.Goals as goal

pub returns-clause-laid : goal.returns-clause-laid
returns-clause-laid g c = (laid_merge g.T.RowEntry.rank c.args.rows.now.items _ c.args.at c.requires.loose.0 _ _ c.requires.loose.1 c.requires.loose.2 c.requires.short (omega (arith, c.requires.within)) refl refl c.requires.total c.join-row.ensures.items).0

pub returns-clause-items : goal.returns-clause-items
returns-clause-items g c = (laid_merge g.T.RowEntry.rank c.args.rows.now.items _ c.args.at c.requires.loose.0 _ _ c.requires.loose.1 c.requires.loose.2 c.requires.short (omega (arith, c.requires.within)) refl refl c.requires.total c.join-row.ensures.items).1

pub returns-clause-short : goal.returns-clause-short
returns-clause-short g c = (laid_merge g.T.RowEntry.rank c.args.rows.now.items _ c.args.at c.requires.loose.0 _ _ c.requires.loose.1 c.requires.loose.2 c.requires.short (omega (arith, c.requires.within)) refl refl c.requires.total c.join-row.ensures.items).2

pub returns-clause-spare : goal.returns-clause-spare
returns-clause-spare g c = rw c.push_reserved.ensures.items (All-push (λ r. r ≡ []) _ _ c.requires.spare c.join-row.ensures.empty)
