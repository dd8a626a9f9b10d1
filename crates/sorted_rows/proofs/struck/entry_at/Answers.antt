use Rattle.std.proofs.Common.{sym, ◌∙◌}
use Rattle.sorted_rows.proofs.LastLemmas.{entry_in}
use Rattle.sorted_rows.proofs.struck.entry_at.Goals as goal

pub returns : goal.returns
returns g c =
    let e = c.row-row.ensures in
    λ d. c.get.ensures d ∙ sym (entry_in c.args.rows.now.items c.args.spot.seat c.args.spot.place c.row-row.result.now d c.requires.0 e (rw e c.requires.1)).1
