-- Lemmas on words and numbers.
use Rattle.std.proofs.Common.{◌^◌, ◌≡◌, ◌≢◌, ◌==◌, ℕ, ◌≤◌, ◌<◌, ◌+◌, ◌-◌, ◌*◌, Bool, true, false, cond, nat_lt, position, List, [], ◌∷◌, ◌++◌, length, take, drop, get_or, Some, None, refl, sym, ◌∙◌, ap, append_assoc, arith, zero, suc, inl, inr, take-append-drop, decimal, rules, nat_le}
use Rattle.std.proofs.lemmas.List.{drop_more, take_rest, length-take, get_or-take}
use Rattle.std.proofs.lemmas.Bool.{lt-leb, le-leb, leb-true, ne_eqb, eq-eqb, cases_Bool, and_parts, cases_eq, and_from, eqb-true, ltb-false}
use Rattle.std.proofs.lemmas.List.Elements.{All-from_recursion}
use Rattle.std.proofs.lemmas.List.Splits.{slice_split_at, slice_split_none}
use Rattle.std.specs.List.{AllByRecursion}
use Rattle.std.specs.Char.{is_ascii_digit}
use Rattle.std.specs.Str.{all_ascii_digits}
use Rattle.std.proofs.lemmas.Str.Parse.{IsNumeralModel, numerals_by_fold}
use Rattle.std.specs.List.{position_or_len}
use Rattle.std.proofs.lemmas.List.Quantifiers.{position-Some}
use Rattle.std.proofs.lemmas.List.Sums.{fails_before_first}
use Rattle.std.proofs.lemmas.Fmt.{decimal-digits_value, digits_decimal, digits_value-decimal, decimal_nonempty, first_decimal, decimal_digit}
use Rattle.lease_terms.specs.declared.values.TheConstants.{LARGEST}
use Rattle.lease_proto.specs.Words.{digits_from, number_in, parts_of, NumbersAreDecimal}

-- a number that is too large stays so
pub digits_over : (n : ℕ) (bs : List ℕ) → LARGEST < n → digits_from n bs ≡ None
digits_over n [] over = rw (lt-leb n LARGEST over) refl
digits_over n (b ∷ bs) over =
    elim (is_ascii_digit b) as (λ t. cond t (digits_from (n * 10 + (b - 48)) bs) None ≡ None) [
      | true ↦ digits_over (n * 10 + (b - 48)) bs (omega arith)
      | false ↦ refl
    ]

-- no byte of these is a space
spaceless : (xs : List ℕ) → ((k : ℕ) → k < length xs → get_or xs k 0 ≢ 32) → AllByRecursion (λ x. (x == 32) ≡ false) xs
spaceless [] none = tt
spaceless (x ∷ xs) none = (ne_eqb x 32 (none 0 (omega arith)), spaceless xs (λ k below. none (suc k) (omega arith)))

-- what is no space by a test
no_space : (xs : List ℕ) (k : ℕ) → (get_or xs k 0 == 32) ≡ false → get_or xs k 0 ≢ 32
no_space xs k fails is = absurd (cc (sym fails ∙ eq-eqb _ _ is))

-- what a search for the first space says of the line
pub space_there : (line : List ℕ) (i : ℕ) → position (λ b. b == 32) line ≡ Some i
    → (i < length line) × (get_or line i 0 ≡ 32) × ((k : ℕ) → k < i → get_or line k 0 ≢ 32)
space_there line i found =
    let is = position-Some (λ b. b == 32) line i 0 found in
    (is.0, eqb-true _ _ is.1, λ k below. no_space line k (is.2 k below))

pub space_nowhere : (line : List ℕ) → position (λ b. b == 32) line ≡ None → (k : ℕ) → k < length line → get_or line k 0 ≢ 32
space_nowhere line none k within =
    let past : length line ≤ position_or_len (λ b. b == 32) line = by (nat_lt (position_or_len (λ b. b == 32) line) (length line)) refl none in
    no_space line k (fails_before_first (λ b. b == 32) line k 0 (omega (arith, past, within)))
  where
    by : (t : Bool) → nat_lt (position_or_len (λ b. b == 32) line) (length line) ≡ t → cond t (Some (position_or_len (λ b. b == 32) line)) None ≡ None → length line ≤ position_or_len (λ b. b == 32) line
    by true less at = absurd (cc)
    by false less at = ltb-false _ _ less

-- a line with no space is one part
pub parts_of-one : (line : List ℕ) → ((k : ℕ) → k < length line → get_or line k 0 ≢ 32) → parts_of line ≡ line ∷ []
parts_of-one line none = slice_split_none (λ b. b == 32) line (All-from_recursion _ line (spaceless line none))

-- the part before the first space, and the others
pub parts_of-first : (line : List ℕ) (i : ℕ) → i < length line → get_or line i 0 ≡ 32 → ((k : ℕ) → k < i → get_or line k 0 ≢ 32)
    → parts_of line ≡ take i line ∷ parts_of (take (length line - (i + 1)) (drop (i + 1) line))
parts_of-first line i below is none =
    let front = take i line in
    let cut : line ≡ front ++ 32 ∷ drop (i + 1) line =
    sym (take-append-drop i line) ∙ ap (λ l. front ++ l) (drop_more line i 0 below ∙ ap (λ b. b ∷ drop (i + 1) line) is) in
    let clear = spaceless front (λ k lt. let lower : k < i = omega (arith, length-take i line) in
    let same : get_or front k 0 ≡ get_or line k 0 = get_or-take i line k 0 lower in rw same (none k lower)) in
    ap parts_of cut ∙ slice_split_at (λ b. b == 32) front 32 (drop (i + 1) line) (All-from_recursion _ front clear) refl
    ∙ ap (λ l. front ∷ parts_of l) (sym (take_rest line (i + 1)))

-- the number that digits write
abbrev read_on : ℕ → List ℕ → ℕ
read_on n [] = n
read_on n (b ∷ bs) = read_on (n * 10 + (b - 48)) bs

own : IsNumeralModel (λ ds. all_ascii_digits ds ≡ true) (read_on 0)
own = numerals_by_fold _ (search rules) read_on (search rules)

-- what a number that was read says of its digits
digits_say : (m : ℕ) (bs : List ℕ) (n : ℕ) → digits_from m bs ≡ Some n → (all_ascii_digits bs ≡ true) × (read_on m bs ≡ n) × (n ≤ LARGEST)
digits_say m [] n e = elim (cases_Bool (nat_le m LARGEST)) [
  | inl low ↦ let is : m ≡ n = (let found : Some m ≡ Some n = rw low at e in cc) in (refl, is, rw (← is) (leb-true _ _ low))
  | inr high ↦ let none : None ≡ Some n = rw high at e in absurd (cc)
]
digits_say m (b ∷ bs) n e = elim (cases_Bool (is_ascii_digit b)) [
  | inl digit ↦
      let rest = digits_say (m * 10 + (b - 48)) bs n (rw digit at e) in
      (and_from (is_ascii_digit b) (all_ascii_digits bs) digit rest.0, rest.1, rest.2)
  | inr other ↦ let none : None ≡ Some n = rw other at e in absurd (cc)
]

-- digits of a number that isn't too large are read
digits_read : (m : ℕ) (bs : List ℕ) (n : ℕ) → all_ascii_digits bs ≡ true → read_on m bs ≡ n → n ≤ LARGEST → digits_from m bs ≡ Some n
digits_read m [] n all is low = rw is (rw (le-leb n LARGEST low) refl)
digits_read m (b ∷ bs) n all is low =
    let parts = and_parts (is_ascii_digit b) (all_ascii_digits bs) all in
    rw parts.0 (digits_read (m * 10 + (b - 48)) bs n parts.1 is low)

-- the word has no leading zero
abbrev HasPlainFront : List ℕ → Type 0
HasPlainFront word = get_or word 0 0 ≡ 48 → length word ≡ 1

number_says : (word : List ℕ) (n : ℕ) → number_in word ≡ Some n
    → (all_ascii_digits word ≡ true) × (0 < length word) × HasPlainFront word × (read_on 0 word ≡ n) × (n ≤ LARGEST)
number_says [] n e = absurd (cc)
number_says (b ∷ []) n e = let said = digits_say 0 (b ∷ []) n e in (said.0, omega arith, λ _. refl, said.1, said.2)
number_says (b ∷ c ∷ bs) n e = elim (cases_eq b 48) [
  | inl zeros ↦ let none : None ≡ Some n = rw (eq-eqb b 48 zeros) at e in absurd (cc)
  | inr other ↦
      let said = digits_say 0 (b ∷ c ∷ bs) n (rw (ne_eqb b 48 other) at e) in
      (said.0, omega arith, λ is. absurd (other is), said.1, said.2)
]

number_read : (word : List ℕ) (n : ℕ) → all_ascii_digits word ≡ true → 0 < length word → HasPlainFront word → read_on 0 word ≡ n → n ≤ LARGEST
    → number_in word ≡ Some n
number_read [] n all some front is low = absurd (omega arith)
number_read (b ∷ []) n all some front is low = digits_read 0 (b ∷ []) n all is low
number_read (b ∷ c ∷ bs) n all some front is low =
    rw (ne_eqb b 48 (λ zeros. let one : suc (suc (length bs)) ≡ 1 = front zeros in absurd (omega arith)))
    (digits_read 0 (b ∷ c ∷ bs) n all is low)

plain_decimal : (n : ℕ) → n < 2 ^ 64 → HasPlainFront (decimal n)
plain_decimal zero small = λ _. ap length (decimal_digit 0 (omega arith))
plain_decimal (suc n) small = λ is. let above = first_decimal (suc n) (omega arith) small in absurd (omega arith)

pub numbers : NumbersAreDecimal
numbers word n = (
  λ e. let said = number_says word n e in
      (sym (decimal-digits_value own word said.0 said.1 said.2 (omega arith)) ∙ ap decimal said.3, said.4),
  λ given.
      let small : n < 2 ^ 64 = omega arith in
      ap number_in given.0 ∙ number_read (decimal n) n (digits_decimal own n small) (decimal_nonempty n small) (plain_decimal n small)
      (digits_value-decimal own n small) given.1,
)

pub decimal_is_digits : (n : ℕ) → n < 2 ^ 64 → all_ascii_digits (decimal n) ≡ true
decimal_is_digits n small = digits_decimal own n small

-- a number of one digit, after a space
pub one_digit : (xs : List ℕ) (n : ℕ) → n < 10 → (xs ++ 32 ∷ []) ++ (48 + n) ∷ [] ≡ xs ++ 32 ∷ decimal n
one_digit xs n h = rw (decimal_digit n h) (append_assoc xs (32 ∷ []) ((48 + n) ∷ []))
