use Rattle.std.proofs.Common.{◌≤◌, ◌+◌, ◌∷◌, ◌++◌, [], arith, codes, length, sym, subst, List, ℕ}
use Rattle.std.proofs.lemmas.List.{length-append}
use Rattle.lease_proto.specs.declared.limits.TheConstants.{LINE_ROOM}
use Rattle.lease_proto.specs.Faults.{error_word}
use Rattle.lease_proto.proofs.ReplyLemmas.{error_short}
use Rattle.lease_proto.proofs.reports.outcome_line.Goals as goal

pub returns-in-Err-clause-short : goal.returns-in-Err-clause-short
returns-in-Err-clause-short c =
    let word = error_word c.in-Err.word in
    let short = error_short c.in-Err.word in
    let size = length-append word (10 ∷ []) in
    let all = length-append (codes "error ") (word ++ 10 ∷ []) in
    subst (λ (ls : List ℕ). length ls ≤ LINE_ROOM) (sym c.line.ensures) (omega (arith, short, size, all))
