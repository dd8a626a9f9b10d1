use Rattle.std.proofs.Common.{◌∙◌, sym}
use Rattle.sorted_rows.specs.Layout.{entries_in}
use Rattle.sorted_rows.proofs.StruckLemmas.{first_none_left, first_other, first_struck, spot_within}
use Rattle.sorted_rows.proofs.struck.least_left.Goals as goal

pub returns-in_err-found : goal.returns-in_err-found
returns-in_err-found g c = c.from_residual.ensures ∙ first_none_left g.T.RowEntry.rank c.args.key c.args.rows.now.items c.args.struck c.requires.laid c.requires.spot c.in_err-found.ensures

pub returns-then-key : goal.returns-then-key
returns-then-key g c =
    let at = rw c.in-Some.is at c.requires.spot in
    let same = sym c.key.ensures ∙ (c.if-key.true ∙ c.key-2.ensures) in
    rw c.in-Some.is (c.behind.ensures ∙ first_struck g.T.RowEntry.rank c.args.key (entries_in c.args.rows.now.items) _ c.in_ok-found.found c.entry_at.result c.requires.laid.rises (spot_within c.args.rows.now.items c.in-Some.spot at) c.in_ok-found.ensures (c.entry_at.ensures c.entry_at.result) same)

pub returns-else-key : goal.returns-else-key
returns-else-key g c =
    let at = rw c.in-Some.is at c.requires.spot in
    rw c.in-Some.is (first_other g.T.RowEntry.rank c.args.key (entries_in c.args.rows.now.items) _ c.in_ok-found.found c.entry_at.result c.requires.laid.rises (spot_within c.args.rows.now.items c.in-Some.spot at) c.in_ok-found.ensures (c.entry_at.ensures c.entry_at.result) (λ h. c.if-key.false (c.key.ensures ∙ (h ∙ sym c.key-2.ensures))))
