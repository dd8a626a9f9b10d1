-- A name in the bytes that hold it.
use Rattle.std.proofs.Common.{◌≡◌, ◌-◌, ◌++◌, ℕ, List, true, take, drop, length, replicate, sym, ◌∙◌, ap}
use Rattle.std.proofs.lemmas.List.{drop-replicate}
use Rattle.std.proofs.Math.Seq.{take-append_seam}
use Rattle.lease_terms.specs.declared.names.TheConstants.{LONGEST_NAME}
use Rattle.lease_terms.specs.Padding.{IsPadded, padded_text}
use Rattle.lease_terms.specs.Names.{is_name}

-- a name that was copied onto zeros
pub is_padded : (text front : List ℕ) → front ≡ text → is_name text ≡ true
    → IsPadded (record { bytes = front ++ drop (length text) (replicate LONGEST_NAME 0); len = length text })
is_padded text front same is =
    let rest = drop (length text) (replicate LONGEST_NAME 0) in
    let shows : take (length text) (front ++ rest) ≡ text = ap (λ f. take (length text) (f ++ rest)) same ∙ take-append_seam text rest in
    let zeros : rest ≡ replicate (LONGEST_NAME - length text) 0 = drop-replicate (length text) LONGEST_NAME 0 in
    (ap is_name shows ∙ is, ap length shows, ap padded_text shows ∙ ap (λ z. text ++ z) (sym zeros) ∙ ap (λ f. f ++ rest) (sym same))
