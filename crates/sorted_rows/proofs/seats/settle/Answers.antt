use Rattle.std.proofs.Common.{◌≡◌, [], ◌∙◌, sym, arith}
use Rattle.std.proofs.lemmas.List.{nil_from_length}
use Rattle.std.proofs.lemmas.List.Elements.{All-push}
use Rattle.sorted_rows.proofs.seats.settle.Goals as goal

pub returns-then-here-eq0-clause-spare : goal.returns-then-here-eq0-clause-spare
returns-then-here-eq0-clause-spare g c =
    let row = c.take-row.ensures.row ∙ sym c.row.ensures in
    let empty = row ∙ nil_from_length c.row.result.now (omega (arith, c.len-here.ensures.len, c.if-here-eq0.true)) in
    rw c.push_reserved.ensures.items (All-push (λ r. r ≡ []) _ _ c.requires.spare empty)
