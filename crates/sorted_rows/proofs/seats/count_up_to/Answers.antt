use Rattle.std.proofs.Common.{◌+◌, ℕ, [], get_or, arith}
use Rattle.sorted_rows.proofs.PlaceLemmas.{count_on, count_ends}
use Rattle.sorted_rows.proofs.RowLemmas.{firsts_rise}
use Rattle.sorted_rows.proofs.seats.count_up_to.Goals as goal
use Rattle.sorted_rows.proofs.seats.count_up_to.Goals.{then-first-key, else-first-key}

pub loop-at-preserved : goal.loop-at-preserved
loop-at-preserved g c =
    let rows = c.args.rows.now.items in
    let i = c.loop-at.at in
    let f = λ (d : g.row.T.Denot) (k : ℕ). g.T.RowEntry.rank (get_or (get_or rows k []) 0 d) in
    record {
      within = omega arith;
      count = elim c.if-first-key.branch [
        | then-first-key w ↦ rw w.count-is (count_on f (c.args.key + 1) _ i c.loop-at.invariant.count (λ d lt. firsts_rise g.T.RowEntry.rank rows c.loop-at.count i d c.requires.laid lt (omega arith)) (λ d. omega (arith, c.first.ensures d, w.if-first-key.true)))
        | else-first-key w ↦ rw w.count-is (count_ends f (c.args.key + 1) _ i c.loop-at.invariant.count (λ d. omega (arith, c.first.ensures d, w.if-first-key.false)))
      ];
    }
