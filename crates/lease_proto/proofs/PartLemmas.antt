-- What the parts of a line say before it is known that they are words.
use Rattle.std.proofs.Common.{◌≡◌, ◌<◌, ◌==◌, ℕ, true, List, [], ◌∷◌, length, nat_lt, Result, Ok, Err, inl, inr, refl, ap, ◌∙◌, arith}
use Rattle.std.proofs.lemmas.Bool.{cases_Bool}
use Rattle.std.proofs.lemmas.List.Splits.{length-slice_split}
use Rattle.std.specs.List.{list_all}
use Rattle.lease_terms.specs.Names.{is_word}
use Rattle.lease_proto.specs.declared.limits.TheConstants.{LONGEST_LINE}
use Rattle.lease_proto.specs.declared.faults.LineFault.{LineFault}
use Rattle.lease_proto.specs.declared.faults.LineFault.TheVariants.{TooLong, BadLine}
use Rattle.lease_proto.specs.Words.{is_sentence, parts_of}
use Rattle.lease_proto.specs.Values.{◌>>=◌, words_of, short_parts, first_reason}
use Rattle.lease_proto.specs.Grammar.{end_at}

some_left : (words : List (List ℕ)) → 0 < length words → end_at words ≡ Err BadLine
some_left [] some = absurd (omega arith)
some_left (word ∷ words) some = refl

-- a line has at least one part
pub parts_left : (line : List ℕ) → end_at (parts_of line) ≡ Err BadLine
parts_left line = let many = length-slice_split (λ b. b == 32) line in some_left (parts_of line) (omega (arith, many))

-- parts that are words are read as the line's words,
pub parts_read : {B : Type 0} (bytes : List ℕ) (words : List (List ℕ)) (f : List (List ℕ) → Result B LineFault) (b : B) → short_parts bytes ≡ Ok words
    → list_all is_word words ≡ true → f words ≡ Ok b → (words_of bytes >>= f) ≡ Ok b
parts_read bytes words f b cut all e = elim (cases_Bool (nat_lt LONGEST_LINE (length bytes))) [
  | inl long ↦ let none : Err TooLong ≡ Ok words = rw long at cut in absurd (cc)
  | inr short ↦
      let made : Ok (parts_of bytes) ≡ Ok words = rw short at cut in
      let same : parts_of bytes ≡ words = cc in
      let good : is_sentence bytes ≡ true = ap (list_all is_word) same ∙ all in
      rw (short, good) (ap f same ∙ e)
]

-- those that are refused make the line a bad one first where they aren't words,
pub parts_refused : {B : Type 0} (bytes : List ℕ) (words : List (List ℕ)) (f : List (List ℕ) → Result B LineFault) (fault : LineFault)
    → short_parts bytes ≡ Ok words → f words ≡ Err fault → (words_of bytes >>= f) ≡ Err (first_reason bytes fault)
parts_refused bytes words f fault cut e = elim (cases_Bool (nat_lt LONGEST_LINE (length bytes))) [
  | inl long ↦ let none : Err TooLong ≡ Ok words = rw long at cut in absurd (cc)
  | inr short ↦
      let made : Ok (parts_of bytes) ≡ Ok words = rw short at cut in
      let same : parts_of bytes ≡ words = cc in
      elim (cases_Bool (is_sentence bytes)) [
        | inl good ↦ rw (short, good) (ap f same ∙ e)
        | inr bad ↦ rw (short, bad) refl
      ]
]

-- and a line that is too long is refused for that
pub parts_long : {B : Type 0} (bytes : List ℕ) (f : List (List ℕ) → Result B LineFault) (fault : LineFault) → short_parts bytes ≡ Err fault
    → (words_of bytes >>= f) ≡ Err fault
parts_long bytes f fault cut = elim (cases_Bool (nat_lt LONGEST_LINE (length bytes))) [
  | inl long ↦ let is : Err TooLong ≡ Err fault = rw long at cut in rw long (cc)
  | inr short ↦ let none : Ok (parts_of bytes) ≡ Err fault = rw short at cut in absurd (cc)
]
