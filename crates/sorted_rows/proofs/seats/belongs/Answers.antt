use Rattle.std.proofs.Common.{◌+◌, ◌<◌, ◌≤◌, [], get_or, rules, arith, refl}
use Rattle.sorted_rows.proofs.RowLemmas.{is_seat_between}
use Rattle.sorted_rows.proofs.seats.belongs.Goals as goal
use Rattle.sorted_rows.proofs.seats.belongs.Goals.{else-seat-gt0-via-then-seat-gt0+else-key-first, else-seat-gt0-via-else-seat-gt0}

pub returns-then-seat-len-2-clause-seat : goal.returns-then-seat-len-2-clause-seat
returns-then-seat-len-2-clause-seat g c _ =
    let rows = c.args.rows.now.items in
    let i = c.args.seat in
    let left : (d : g.row.T.Denot) → 0 < i → g.T.RowEntry.rank (get_or (get_or rows i []) 0 d) ≤ c.args.key = λ d some. elim c.else-seat-gt0.branch [
      | else-seat-gt0-via-then-seat-gt0+else-key-first w ↦
          omega (arith, w.first.ensures d, w.if-key-first.false)
      | else-seat-gt0-via-else-seat-gt0 w ↦ absurd (omega (arith, w.if-seat-gt0.false))
    ] in
    is_seat_between g.T.RowEntry.rank c.args.key rows i (i + 1) c.requires.laid (omega arith) refl left (λ d more. absurd (omega arith))

pub returns-else-seat-len-2-clause-seat : goal.returns-else-seat-len-2-clause-seat
returns-else-seat-len-2-clause-seat g c below =
    let rows = c.args.rows.now.items in
    let i = c.args.seat in
    let left : (d : g.row.T.Denot) → 0 < i → g.T.RowEntry.rank (get_or (get_or rows i []) 0 d) ≤ c.args.key = λ d some. elim c.else-seat-gt0.branch [
      | else-seat-gt0-via-then-seat-gt0+else-key-first w ↦
          omega (arith, w.first.ensures d, w.if-key-first.false)
      | else-seat-gt0-via-else-seat-gt0 w ↦ absurd (omega (arith, w.if-seat-gt0.false))
    ] in
    is_seat_between g.T.RowEntry.rank c.args.key rows i (i + 1) c.requires.laid (omega arith) refl left (λ d more.
    let less : c.args.key < c.first-else-seat-len-2.result = search (rules, below) in
    omega (arith, c.first-else-seat-len-2.ensures d, less))
