use Rattle.std.proofs.Common.{◌≡◌, ◌+◌, ◌-◌, ◌*◌, ℕ, ap, ◌∙◌, get_or, arith}
use Rattle.std.proofs.lemmas.List.{get_or_default}
use Rattle.sorted_rows.proofs.PlaceLemmas.{count_on, count_ends}
use Rattle.sorted_rows.proofs.row.blocks_below.Goals as goal
use Rattle.sorted_rows.proofs.row.blocks_below.Goals.{then-key, else-key}

pub loop-at-preserved : goal.loop-at-preserved
loop-at-preserved g c =
    let items = c.args.items.now in
    let i = c.loop-at.at in
    let f = λ (d : g.row.T.Denot) (k : ℕ). g.T.RowEntry.rank (get_or items (k * 8 + 7) d) in
    let at = λ (d : g.row.T.Denot). ap g.T.RowEntry.rank (c.index-items-last.is ∙ get_or_default items (i * 8 + 7) _ d (omega arith)) in
    record {
      within = omega arith;
      count = elim c.if-key.branch [
        | then-key w ↦ rw w.blocks-is (count_on f c.args.key _ i c.loop-at.invariant.count (λ d lt. c.requires (c.loop-at.blocks * 8 + 7) (i * 8 + 7) d (omega arith) (omega arith)) (λ d. omega (arith, at d, c.key.ensures, w.if-key.true)))
        | else-key w ↦ rw w.blocks-is (count_ends f c.args.key _ i c.loop-at.invariant.count (λ d. omega (arith, at d, c.key.ensures, w.if-key.false)))
      ];
    }

pub returns-clause-before : goal.returns-clause-before
returns-clause-before g c d some =
    let e : c.loop-at.blocks * 8 - 1 ≡ (c.loop-at.blocks - 1) * 8 + 7 = omega arith in
    rw e (c.loop-at.invariant.count.left d some)

pub returns-clause-after : goal.returns-clause-after
returns-clause-after g c d more = c.loop-at.invariant.count.right d (omega arith)
