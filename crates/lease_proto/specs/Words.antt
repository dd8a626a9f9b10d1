-- Words and numbers.
use Rattle.std.specs.Prelude.{◌≡◌, ◌==◌, ◌↔◌, ◌≤◌, ◌+◌, ◌-◌, ◌*◌, ℕ, nat_le, Bool, List, [], ◌∷◌}
use Rattle.std.specs.Prelude.{if◌then◌else◌, Option, Some, None, decimal}
use Rattle.std.specs.Char.{is_ascii_digit}
use denote.Ref.{Bor}
use Rattle.std.specs.List.{list_all, slice_split}
use Rattle.lease_terms.specs.declared.values.TheConstants.{LARGEST}
use Rattle.lease_terms.specs.Names.{is_word}

-- the parts between spaces
abbrev pub parts_of : List ℕ → List (List ℕ)
parts_of line = slice_split (λ b. b == 32) line

-- it is words with one space between them
abbrev pub is_sentence : List ℕ → Bool
is_sentence line = list_all is_word (parts_of line)

-- the words that are left of a line, where more is
abbrev pub words_left : Option (Bor (List ℕ)) → List (List ℕ)
words_left None = []
words_left (Some rest) = parts_of rest.now

-- the number that n's digits and these write, up to the largest
abbrev pub digits_from : ℕ → List ℕ → Option ℕ
digits_from n [] = if nat_le n LARGEST then Some n else None
digits_from n (b ∷ bs) = if is_ascii_digit b then digits_from (n * 10 + (b - 48)) bs else None

-- the number that a word writes, without a leading zero
abbrev pub number_in : List ℕ → Option ℕ
number_in [] = None
number_in (b ∷ []) = digits_from 0 (b ∷ [])
number_in (b ∷ c ∷ bs) = if b == 48 then None else digits_from 0 (b ∷ c ∷ bs)

-- a word writes a number just where it is its decimal digits
abbrev pub NumbersAreDecimal : Type 0
NumbersAreDecimal = (word : List ℕ) (n : ℕ)
    → (number_in word ≡ Some n) ↔ ((word ≡ decimal n) × (n ≤ LARGEST))
