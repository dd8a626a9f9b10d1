-- Words with one space between them, byte by byte.
use Rattle.std.proofs.Common.{◌≡◌, ◌≢◌, ◌==◌, ◌&&◌, ℕ, ◌+◌, ◌<◌, ◌≤◌, Bool, true, false, cond, List, [], ◌∷◌, length, drop, get_or, refl, ap, ◌∙◌, arith, suc, inl, inr}
use Rattle.std.proofs.lemmas.Bool.{cases_eq, eq-eqb, ne_eqb, le-leb}
use Rattle.std.proofs.lemmas.List.{drop_all}
use Rattle.std.proofs.Math.Seq.{drop-cons}
use Rattle.std.proofs.lemmas.List.Splits.{slice_split-cons_yes, slice_split-cons_no}
use Rattle.std.specs.List.{list_all, onto_first}
use Rattle.lease_terms.specs.Names.{is_word, is_word_byte}
use Rattle.lease_proto.specs.Words.{is_sentence, parts_of}

-- whether the rest of a line goes on as a sentence, from inside a word or before one
abbrev pub goes_on : Bool → List ℕ → Bool
goes_on inside [] = inside
goes_on inside (b ∷ bs) = cond (is_word_byte b) (goes_on true bs) (cond inside (cond (b == 32) (goes_on false bs) false) false)

-- whether parts are words, the first one's front aside
abbrev goes_inside : List (List ℕ) → Bool
goes_inside [] = true
goes_inside (w ∷ ws) = list_all is_word_byte w && list_all is_word ws

regroup : (t x y : Bool) → ((true && (t && x)) && y) ≡ (t && (x && y))
regroup true x y = refl
regroup false x y = refl

grouped : (t x y : Bool) → ((t && x) && y) ≡ (t && (x && y))
grouped true x y = refl
grouped false x y = refl

picked : (t x : Bool) → (t && x) ≡ cond t x false
picked true x = refl
picked false x = refl

-- a byte that goes to the front of the first part
first_grows : (b : ℕ) (ps : List (List ℕ)) → (list_all is_word (onto_first b ps) ≡ cond (is_word_byte b) (goes_inside ps) false) × (goes_inside (onto_first b ps) ≡ cond (is_word_byte b) (goes_inside ps) false)
first_grows b [] = (
  rw (le-leb 1 (length (b ∷ [])) (omega arith)) (regroup (is_word_byte b) true true ∙ picked (is_word_byte b) true),
  grouped (is_word_byte b) true true ∙ picked (is_word_byte b) true,
)
first_grows b (w ∷ ws) = (
  rw (le-leb 1 (length (b ∷ w)) (omega arith)) (regroup (is_word_byte b) (list_all is_word_byte w) (list_all is_word ws) ∙ picked (is_word_byte b) (goes_inside (w ∷ ws))),
  grouped (is_word_byte b) (list_all is_word_byte w) (list_all is_word ws) ∙ picked (is_word_byte b) (goes_inside (w ∷ ws)),
)

-- what parts are, byte by byte
goes : (xs : List ℕ) → (list_all is_word (parts_of xs) ≡ goes_on false xs) × (goes_inside (parts_of xs) ≡ goes_on true xs)
goes [] = (refl, refl)
goes (b ∷ bs) = elim (cases_eq b 32) [
  | inl is ↦
      let e = slice_split-cons_yes (λ c. c == 32) b bs (eq-eqb b 32 is) in
      rw (e, is) (refl, (goes bs).0)
  | inr not ↦
      let no = ne_eqb b 32 not in
      let e = slice_split-cons_no (λ c. c == 32) b bs no in
      let grows = first_grows b (parts_of bs) in
      let rest = ap (λ x. cond (is_word_byte b) x false) (goes bs).1 in
      rw (e, no) (grows.0 ∙ rest, grows.1 ∙ rest)
]

pub sentence_begun : (line : List ℕ) → is_sentence line ≡ goes_on false (drop 0 line)
sentence_begun line = (goes line).0

-- one byte more: the rest of a word,
goes_at : (line : List ℕ) (k : ℕ) (inside : Bool) → k < length line → is_sentence line ≡ goes_on inside (drop k line) → is_sentence line ≡ goes_on inside (get_or line k 0 ∷ drop (k + 1) line)
goes_at line k inside lt so =
    let next : suc k ≡ k + 1 = omega arith in
    so ∙ (ap (goes_on inside) (drop-cons line k 0 lt) ∙ ap (λ n. goes_on inside (get_or line k 0 ∷ drop n line)) next)

pub past_byte : (line : List ℕ) (k : ℕ) (inside : Bool) → k < length line → is_word_byte (get_or line k 0) ≡ true → is_sentence line ≡ goes_on inside (drop k line) → is_sentence line ≡ goes_on true (drop (k + 1) line)
past_byte line k inside lt is so = rw is at (goes_at line k inside lt so)

-- the space behind it,
pub past_space : (line : List ℕ) (k : ℕ) → k < length line → is_word_byte (get_or line k 0) ≡ false → get_or line k 0 ≡ 32 → is_sentence line ≡ goes_on true (drop k line) → is_sentence line ≡ goes_on false (drop (k + 1) line)
past_space line k lt odd space so = rw (odd, eq-eqb (get_or line k 0) 32 space) at (goes_at line k true lt so)

-- or what ends it
pub no_word_begun : (line : List ℕ) (k : ℕ) → k < length line → is_word_byte (get_or line k 0) ≡ false → is_sentence line ≡ goes_on false (drop k line) → is_sentence line ≡ false
no_word_begun line k lt odd so = rw odd at (goes_at line k false lt so)

pub no_space_behind : (line : List ℕ) (k : ℕ) → k < length line → is_word_byte (get_or line k 0) ≡ false → get_or line k 0 ≢ 32 → is_sentence line ≡ goes_on true (drop k line) → is_sentence line ≡ false
no_space_behind line k lt odd other so = rw (odd, ne_eqb (get_or line k 0) 32 other) at (goes_at line k true lt so)

pub goes_ended : (line : List ℕ) (k : ℕ) (inside : Bool) → length line ≤ k → is_sentence line ≡ goes_on inside (drop k line) → is_sentence line ≡ inside
goes_ended line k inside past so = so ∙ ap (goes_on inside) (drop_all k line past)
