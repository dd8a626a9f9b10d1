-- Indexes, or none, as numbers of 32 bits.
use Rattle.std.specs.Prelude.{◌≡◌, ℕ, Bool, Option, None, Some, ◌==◌, if◌then◌else◌}
use Rattle.tag_arena.specs.declared.short_indexes.TheConstants.{NO_INDEX}
use Rattle.std.proofs.Common.{sym, ap, ◌∙◌, ⊎_elim}
use Rattle.std.proofs.lemmas.Bool.{cases_Bool, eqb-true}

-- the greatest number stands for none
abbrev pub index_of : ℕ → Option ℕ
index_of n = if n == NO_INDEX then None else Some n

-- and back
abbrev pub number_of : Option ℕ → ℕ
number_of None = NO_INDEX
number_of (Some k) = k

pub number_of-index_of : (n : ℕ) → number_of (index_of n) ≡ n
number_of-index_of n =
    let read : Bool → ℕ = λ b. number_of (if b then None else Some n) in
    ⊎_elim
    (λ is. ap read is ∙ sym (eqb-true n NO_INDEX is))
    (λ isnt. ap read isnt) (cases_Bool (n == NO_INDEX))
