use Rattle.std.proofs.Common.{ℕ, ap, ◌∙◌, get_or, arith}
use Rattle.std.proofs.lemmas.List.{get_or_default}
use Rattle.sorted_rows.proofs.PlaceLemmas.{is_place, count_on, count_ends}
use Rattle.sorted_rows.proofs.row.count_below.Goals as goal
use Rattle.sorted_rows.proofs.row.count_below.Goals.{then-key, else-key}

pub loop-at-preserved : goal.loop-at-preserved
loop-at-preserved g c =
    let items = c.args.items.now in
    let i = c.loop-at.at in
    let f = λ (d : g.row.T.Denot) (k : ℕ). g.T.RowEntry.rank (get_or items k d) in
    let at = λ (d : g.row.T.Denot). ap g.T.RowEntry.rank (c.index-items-at.is ∙ get_or_default items i _ d (omega arith)) in
    record {
      within = omega arith;
      count = elim c.if-key.branch [
        | then-key w ↦ rw w.low-is (count_on f c.args.key _ i c.loop-at.invariant.count (λ d lt. c.requires c.loop-at.low i d lt (omega arith)) (λ d. omega (arith, at d, c.key.ensures, w.if-key.true)))
        | else-key w ↦ rw w.low-is (count_ends f c.args.key _ i c.loop-at.invariant.count (λ d. omega (arith, at d, c.key.ensures, w.if-key.false)))
      ];
    }

pub returns : goal.returns
returns g c =
    let s = c.loop-at.invariant.count in
    is_place g.T.RowEntry.rank _ _ _ c.requires (omega (arith, s.within)) s.left (λ d lt. s.right d (omega arith))
