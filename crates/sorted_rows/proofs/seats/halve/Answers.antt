use Rattle.std.proofs.Common.{◌≡◌, ◌+◌, ◌-◌, ◌*◌, ◌/◌, rules, arith, inl, inr}
use Rattle.std.proofs.lemmas.Bool.{cases_lt}
use Rattle.sorted_rows.proofs.RowLemmas.{firsts_rise}
use Rattle.sorted_rows.proofs.seats.halve.Goals as goal

pub loop-count-preserved : goal.loop-count-preserved
loop-count-preserved g c =
    let rows = c.args.rows.now.items in
    let low = c.loop-count.low in
    let count = c.loop-count.count in
    let half = count / 2 in
    let i = c.loop-count.invariant in
    elim (cases_lt c.args.key c.first.result) [
      | inl above ↦
          let none : c.from.result ≡ 0 = search (rules, above) in
          let same : low + half * c.from.result ≡ low = rw none (omega arith) in
          rw same (record {
            within = omega (arith, i.within);
            some = λ _. omega arith;
            left = i.left;
            right = λ d more. elim (cases_lt (low + half) (low + (count - half))) [
              | inl past ↦ let up = firsts_rise g.T.RowEntry.rank rows (low + half) (low + (count - half)) d c.requires.laid past more in omega (arith, up, c.first.ensures d)
              | inr near ↦ let e : low + (count - half) ≡ low + half = omega arith in rw e (omega (arith, c.first.ensures d))
            ];
          })
      | inr below ↦
          let one : c.from.result ≡ 1 = search (rules, below) in
          let same : low + half * c.from.result ≡ low + half = rw one (omega arith) in
          let end : low + half + (count - half) ≡ low + count = omega arith in
          rw same (record {
            within = omega (arith, i.within);
            some = λ _. omega arith;
            left = λ d _. omega (arith, c.first.ensures d);
            right = λ d more. rw end (i.right d (omega arith));
          })
    ]

pub returns-clause-before : goal.returns-clause-before
returns-clause-before g c = λ d some.
    let i = c.loop-count.invariant in
    let up = firsts_rise g.T.RowEntry.rank c.args.rows.now.items (c.loop-count.low - 1) c.loop-count.low d c.requires.laid (omega arith) (omega (arith, i.within, i.some some)) in
    omega (arith, up, i.left d some)
