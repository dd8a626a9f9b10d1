use Rattle.std.proofs.Common.{◌≡◌, ℕ, List, [], ◌∷◌, ◌++◌, sym, ap, ◌∙◌, arith}
use Rattle.std.specs.Prelude.{codes}
use Rattle.std.specs.Fmt.{decimal}
use Rattle.std.proofs.lemmas.Fmt.{decimal_digit}
use Rattle.vmemd.proofs.watching.version_law.Goals as goal

pub returns : goal.returns
returns c =
    let zero : decimal 0 ≡ 48 ∷ [] = decimal_digit 0 (omega arith) in
    let one : decimal 1 ≡ 49 ∷ [] = decimal_digit 1 (omega arith) in
    sym (ap (λ (x : List ℕ). x ++ codes "." ++ decimal 1 ++ codes "." ++ x) zero
    ∙ ap (λ (x : List ℕ). (48 ∷ []) ++ codes "." ++ x ++ codes "." ++ 48 ∷ []) one)
