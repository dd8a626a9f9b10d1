-- Lemmas on what is written and read.
use Rattle.std.proofs.Common.{◌≡◌, ◌==◌, ◌||◌, ◌^◌, ℕ, ◌≤◌, ◌<◌, true, false, List, [], ◌∷◌, ◌++◌, length, get_or, Ok, refl, ◌∙◌, ap, subst, arith, inl, inr, decimal, codes, nat_le, lit≤}
use Rattle.std.proofs.lemmas.List.{append-nil}
use Rattle.std.proofs.lemmas.Bool.{le-leb, leb-true, ne_eqb, and_parts, and_from, cases_eq, eq-eqb}
use Rattle.std.proofs.lemmas.List.Elements.{All-from_recursion}
use Rattle.std.proofs.lemmas.List.Splits.{slice_split_at, slice_split_none}
use Rattle.std.proofs.lemmas.Fmt.{length-decimal-le, decimal_nonempty}
use Rattle.std.specs.List.{All, AllByRecursion, list_all}
use Rattle.std.specs.Str.{all_ascii_digits}
use Rattle.std.specs.Char.{is_ascii_digit}
use Rattle.lease_terms.specs.declared.values.TheConstants.{LARGEST, LAST_CLIENT}
use Rattle.lease_terms.specs.declared.protocols.Protocol.{Protocol}
use Rattle.lease_terms.specs.declared.protocols.Protocol.TheVariants.{One, Two}
use Rattle.lease_terms.specs.declared.names.TheConstants.{LONGEST_NAME}
use Rattle.lease_terms.specs.Names.{is_word, is_word_byte, is_letter, is_name}
use Rattle.lease_terms.specs.Requests.{RequestId, IsRequestId}
use Rattle.lease_proto.specs.Words.{parts_of}
use Rattle.lease_proto.specs.Values.{client_in, ordinal_in, quantity_in, id_in}
use Rattle.lease_proto.specs.declared.lines.LeaseOptions.{LeaseOptions}
use Rattle.lease_proto.specs.Grammar.{end_at, protocol_in}
use Rattle.lease_proto.specs.Texts.{id_words, option_words, options_words, protocol_words, sentence, spaced_text}
use Rattle.lease_proto.proofs.WordLemmas.{numbers, decimal_is_digits}

-- a byte of a word is no space
no_space : (b : ℕ) → is_word_byte b ≡ true → (b == 32) ≡ false
no_space b word = elim (cases_eq b 32) [
  | inl is ↦ let bad : is_word_byte 32 ≡ true = subst (λ x. is_word_byte x ≡ true) is word in absurd (cc)
  | inr other ↦ ne_eqb b 32 other
]

no_spaces : (bs : List ℕ) → list_all is_word_byte bs ≡ true → AllByRecursion (λ x. (x == 32) ≡ false) bs
no_spaces [] all = tt
no_spaces (b ∷ bs) all =
    let parts = and_parts (is_word_byte b) (list_all is_word_byte bs) all in (no_space b parts.0, no_spaces bs parts.1)

word_clear : (word : List ℕ) → is_word word ≡ true → All (λ x. (x == 32) ≡ false) word
word_clear word is = All-from_recursion _ word (no_spaces word (and_parts (nat_le 1 (length word)) (list_all is_word_byte word) is).1)

-- a sentence has its words as its parts
pub parts_of-sentence : (first : List ℕ) (words : List (List ℕ)) → is_word first ≡ true → list_all is_word words ≡ true
    → parts_of (sentence first words) ≡ first ∷ words
parts_of-sentence first [] is all = ap parts_of (append-nil first) ∙ slice_split_none (λ b. b == 32) first (word_clear first is)
parts_of-sentence first (word ∷ words) is all =
    let parts = and_parts (is_word word) (list_all is_word words) all in
    slice_split_at (λ b. b == 32) first 32 (sentence word words) (word_clear first is) refl
    ∙ ap (λ l. first ∷ l) (parts_of-sentence word words parts.0 parts.1)

-- the digits of a number are a word
digits_word : (bs : List ℕ) → all_ascii_digits bs ≡ true → list_all is_word_byte bs ≡ true
digits_word [] all = refl
digits_word (b ∷ bs) all =
    let parts = and_parts (is_ascii_digit b) (all_ascii_digits bs) all in
    and_from (is_word_byte b) (list_all is_word_byte bs)
    (rw parts.0 (elim (is_letter b) as (λ t. (t || true) ≡ true) [ true ↦ refl | false ↦ refl ]))
    (digits_word bs parts.1)

pub decimal_word : (n : ℕ) → n ≤ LARGEST → is_word (decimal n) ≡ true
decimal_word n low =
    let small : n < 2 ^ 64 = omega arith in
    and_from (nat_le 1 (length (decimal n))) (list_all is_word_byte (decimal n)) (le-leb _ _ (decimal_nonempty n small))
    (digits_word (decimal n) (decimal_is_digits n small))

-- what is written of a number is read as that number
pub quantity_again : (n : ℕ) → n ≤ LARGEST → quantity_in (decimal n) ≡ Ok n
quantity_again n low = rw ((numbers (decimal n) n).1 (refl, low)) (rw (le-leb 0 n (omega arith), le-leb n LARGEST low) refl)

pub ordinal_again : (n : ℕ) → 1 ≤ n → n ≤ LARGEST → ordinal_in (decimal n) ≡ Ok n
ordinal_again n one low = rw ((numbers (decimal n) n).1 (refl, low)) (rw (le-leb 1 n one, le-leb n LARGEST low) refl)

pub client_again : (n : ℕ) → 1 ≤ n → n ≤ LAST_CLIENT → client_in (decimal n) ≡ Ok n
client_again n one low = rw ((numbers (decimal n) n).1 (refl, omega arith)) (rw (le-leb 1 n one, le-leb n LAST_CLIENT low) refl)

pub decimal_short : (k n : ℕ) → 0 < k → n < 10 ^ k → n ≤ LARGEST → length (decimal n) ≤ k
decimal_short k n some small low = length-decimal-le k n some small (omega arith)

pub name_short : (name : List ℕ) → is_name name ≡ true → length name ≤ LONGEST_NAME
name_short name is =
    leb-true _ _ (and_parts (is_letter (get_or name 0 0)) (nat_le (length name) LONGEST_NAME) (and_parts (is_word name) _ is).1).1

-- the word of a protocol is read as that protocol
pub protocol_again : (protocol : Protocol) → protocol_in (protocol_words protocol) ≡ Ok protocol
protocol_again One = refl
protocol_again Two = refl

pub protocol_is_word : (protocol : Protocol) → list_all is_word (protocol_words protocol) ≡ true
protocol_is_word One = refl
protocol_is_word Two = refl

pub protocol_short : (protocol : Protocol) → length (spaced_text (protocol_words protocol)) ≤ 2
protocol_short One = lit≤ tt
protocol_short Two = lit≤ tt

-- the words of an id are read as that id
pub id_again : (id : RequestId) → IsRequestId id
    → id_in (decimal id.client, decimal id.incarnation, decimal id.number) ≡ Ok id
unfolding id_in
id_again id is =
    rw (
      client_again id.client is.client.0 is.client.1,
      ordinal_again id.incarnation is.incarnation.0 is.incarnation.1,
      ordinal_again id.number is.number.0 is.number.1,
    ) refl

pub id_are_words : (id : RequestId) (words : List (List ℕ)) → IsRequestId id
    → list_all is_word words ≡ true → list_all is_word (id_words id ++ words) ≡ true
id_are_words id words is are =
    rw (
      decimal_word id.client (let top = is.client.1 in omega arith),
      decimal_word id.incarnation is.incarnation.1,
      decimal_word id.number is.number.1,
    ) are

-- the most bytes that an id takes
pub id_short : (id : RequestId) → IsRequestId id
    → (length (decimal id.client) ≤ 19) × (length (decimal id.incarnation) ≤ 19) × (length (decimal id.number) ≤ 19)
id_short id is =
    let c = is.client.1 in
    let i = is.incarnation.1 in
    let n = is.number.1 in (
      decimal_short 19 id.client (omega arith) (omega arith) (omega arith),
      decimal_short 19 id.incarnation (omega arith) (omega arith) i,
      decimal_short 19 id.number (omega arith) (omega arith) n,
    )

-- where the words have ended, none is left
pub none_left : (words : List (List ℕ)) → end_at words ≡ Ok tt → words ≡ []
none_left [] e = refl
none_left (word ∷ words) e = absurd (cc)

-- where nothing is written, an option has the value of no constraint
none_given : (key : List ℕ) (default value : ℕ) (rest : List (List ℕ)) → option_words key default value ++ rest ≡ []
    → (value ≡ default) × (rest ≡ [])
none_given key default value rest e = elim (cases_eq value default) [
  | inl is ↦ let left : rest ≡ [] = rw (eq-eqb value default is) at e in (is, left)
  | inr other ↦ let some : key ∷ decimal value ∷ rest ≡ [] = rw (ne_eqb value default other) at e in absurd (cc)
]

-- options that are written with no word ask for nothing
pub nothing_asked : (o : LeaseOptions) → options_words o ≡ [] → o ≡ record { align = 0; phase = 0; nocross = 0; min = 0; max = LARGEST }
nothing_asked o e =
    let align = none_given (codes "align") 0 o.align _ e in
    let phase = none_given (codes "phase") 0 o.phase _ align.1 in
    let nocross = none_given (codes "nocross") 0 o.nocross _ phase.1 in
    let min = none_given (codes "min") 0 o.min _ nocross.1 in
    let max = none_given (codes "max") LARGEST o.max [] (append-nil _ ∙ min.1) in
    let a = align.0 in
    let p = phase.0 in
    let x = nocross.0 in
    let l = min.0 in
    let h = max.0 in
    let made : LeaseOptions = record { align = o.align; phase = o.phase; nocross = o.nocross; min = o.min; max = o.max } in
    let same : made ≡ record { align = 0; phase = 0; nocross = 0; min = 0; max = LARGEST } = cc in
    same
