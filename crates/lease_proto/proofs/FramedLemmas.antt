-- Bytes that are words are one whole line.
use Rattle.std.proofs.Common.{◌≡◌, ◌≢◌, ℕ, true, List, [], ◌∷◌, ◌++◌, length, Ok, Err, refl, sym, subst, cond, inl, inr, nat_le, nat_lt}
use Rattle.std.proofs.lemmas.Bool.{ltb-false, le-leb, and_parts, cases_Bool}
use Rattle.std.proofs.lemmas.List.Splits.{join_with_byte-slice_split}
use Rattle.std.specs.List.{list_all, join_with_byte}
use Rattle.lease_terms.specs.Names.{is_word, is_word_byte}
use Rattle.lease_proto.specs.declared.faults.LineFault.TheVariants as faults
use Rattle.lease_proto.specs.declared.limits.TheConstants.{LONGEST_LINE}
use Rattle.lease_proto.specs.Frames.{IsOneLine, IsWholeLine}
use Rattle.lease_proto.specs.Words.{is_sentence, parts_of}
use Rattle.lease_proto.specs.Values.{words_of}
use Rattle.lease_proto.specs.Texts.{spaced_text}
use Rattle.lease_proto.proofs.ReadLemmas.{join_with_byte-sentence}

no_line_feed : (b : ℕ) → is_word_byte b ≡ true → b ≢ 10
no_line_feed b word is = let bad : is_word_byte 10 ≡ true = subst (λ x. is_word_byte x ≡ true) is word in absurd (cc)

one_of_bytes : (bs : List ℕ) → list_all is_word_byte bs ≡ true → IsOneLine bs
one_of_bytes [] all = tt
one_of_bytes (b ∷ bs) all =
    let parts = and_parts (is_word_byte b) (list_all is_word_byte bs) all in
    (no_line_feed b parts.0, one_of_bytes bs parts.1)

one_of_word : (word : List ℕ) → is_word word ≡ true → IsOneLine word
one_of_word word is = one_of_bytes word (and_parts (nat_le 1 (length word)) (list_all is_word_byte word) is).1

one_of_both : (xs ys : List ℕ) → IsOneLine xs → IsOneLine ys → IsOneLine (xs ++ ys)
one_of_both [] ys one more = more
one_of_both (x ∷ xs) ys one more = (one.0, one_of_both xs ys one.1 more)

one_of_spaced : (words : List (List ℕ)) → list_all is_word words ≡ true → IsOneLine (spaced_text words)
one_of_spaced [] all = tt
one_of_spaced (word ∷ words) all =
    let parts = and_parts (is_word word) (list_all is_word words) all in
    (λ is. absurd (cc), one_of_both word (spaced_text words) (one_of_word word parts.0) (one_of_spaced words parts.1))

one_of_words : (words : List (List ℕ)) → list_all is_word words ≡ true → IsOneLine (join_with_byte 32 words)
one_of_words [] all = tt
one_of_words (first ∷ words) all =
    let parts = and_parts (is_word first) (list_all is_word words) all in
    subst IsOneLine (sym (join_with_byte-sentence first words))
    (one_of_both first (spaced_text words) (one_of_word first parts.0) (one_of_spaced words parts.1))

pub words_are_whole : (bytes : List ℕ) (words : List (List ℕ)) → words_of bytes ≡ Ok words → IsWholeLine bytes
words_are_whole bytes words e = elim (cases_Bool (nat_lt LONGEST_LINE (length bytes))) [
  | inl long ↦ let bad : Err faults.TooLong ≡ Ok words = rw long at e in absurd (cc)
  | inr short ↦
      let e1 : cond (is_sentence bytes) (Ok (parts_of bytes)) (Err faults.BadLine) ≡ Ok words = rw short at e in
      elim (cases_Bool (is_sentence bytes)) [
        | inl good ↦ record {
          one_line = subst IsOneLine (join_with_byte-slice_split 32 bytes) (one_of_words (parts_of bytes) good);
          frame = rw (le-leb (length bytes) LONGEST_LINE (ltb-false _ _ short)) refl;
        }
        | inr other ↦ let bad : Err faults.BadLine ≡ Ok words = rw other at e1 in absurd (cc)
      ]
]
