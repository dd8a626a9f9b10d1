-- A line is read just from its texts.
use Rattle.std.proofs.Common.{◌≡◌, ℕ, ◌≤◌, ◌+◌, true, false, List, [], ◌∷◌, ◌++◌, length, Option, Some, None, Result, Ok, refl, sym, ◌∙◌, ap, subst, arith, inl, inr, decimal, codes}
use Rattle.std.proofs.lemmas.List.{append-nil, length-append}
use Rattle.std.proofs.lemmas.Bool.{le-ltb, and_parts, and_from, cases_eq, eq-eqb, ne_eqb}
use Rattle.std.specs.List.{list_all, AllByRecursion}
use Rattle.std.specs.Str.{bytes_eq}
use Rattle.std.specs.List.{join_with_byte}
use Rattle.lease_terms.specs.declared.values.TheConstants.{LARGEST}
use Rattle.lease_terms.specs.declared.names.TheConstants.{LONGEST_NAME}
use Rattle.lease_terms.specs.Names.{is_word}
use Rattle.lease_terms.specs.Ranges.{IsQuantity}
use Rattle.lease_terms.specs.Requests.{RequestId, IsRequestId}
use Rattle.lease_proto.specs.declared.faults.LineFault.{LineFault}
use Rattle.lease_proto.specs.declared.lines.Line.{Line}
use Rattle.lease_proto.specs.declared.lines.Line.TheVariants.{Hello, Request}
use Rattle.lease_proto.specs.declared.lines.Op.{Op}
use Rattle.lease_proto.specs.declared.lines.Op.TheVariants.{Lease, Release}
use Rattle.lease_proto.specs.declared.lines.LeaseLine.{LeaseLine}
use Rattle.lease_proto.specs.declared.limits.TheConstants.{LONGEST_LINE}
use Rattle.lease_proto.specs.Words.{is_sentence}
use Rattle.lease_proto.specs.Values.{◌>>=◌, words_of}
use Rattle.lease_proto.specs.Grammar.{line_of, line_in, line_of_first, hello_in, lease_in, lease_after, release_in, id_at, option_at, quantity_or, end_at}
use Rattle.lease_proto.specs.Texts.{id_words, option_words, options_of, options_words, op_words, op_word, words_after, first_word, sentence, spaced_text, IsLine, IsOp, AreOptions, AsksFor, GivesOptions, MayFollow, IsTextOf, LinesAreTexts, LineIsRead, WrittenLineIsWhole, text_of}
use Rattle.lease_proto.proofs.FramedLemmas.{words_are_whole}
use Rattle.lease_proto.proofs.ReadLemmas.{step, told, words_step, word_step, name_step, end_step, client_step, ordinal_step, quantity_step, quantity_says, id_at_step, id_step, protocol_step, join_with_byte-sentence}
use Rattle.lease_proto.proofs.GrammarLemmas.{client_again, ordinal_again, quantity_again, id_again, protocol_again, protocol_is_word, protocol_short, decimal_word, id_are_words, decimal_short, id_short, name_short, parts_of-sentence}

-- these words don't begin with the key
abbrev NotFirst : List ℕ → List (List ℕ) → Type 0
NotFirst key [] = Unit {0}
NotFirst key (word ∷ words) = bytes_eq word key ≡ false

-- no option has the key
abbrev NoneHas : List ℕ → List (List ℕ × ℕ × ℕ) → Type 0
NoneHas key options = AllByRecursion (λ o. bytes_eq o.0 key ≡ false) options

-- no option has a value above the largest
abbrev AllFit : List (List ℕ × ℕ × ℕ) → Type 0
AllFit options = AllByRecursion (λ o. o.2 ≤ LARGEST) options

not_first : (key : List ℕ) (options : List (List ℕ × ℕ × ℕ)) (words : List (List ℕ)) → NoneHas key options → GivesOptions options words → NotFirst key words
not_first key [] words none is = subst (NotFirst key) (sym is) tt
not_first key ((other, default, value) ∷ options) words none (inl given) = subst (NotFirst key) (sym given.1) none.0
not_first key ((other, default, value) ∷ options) words none (inr left_out) = not_first key options words none.1 left_out.1

option_at-none : (key : List ℕ) (words : List (List ℕ)) → NotFirst key words → option_at key words ≡ (None, words)
option_at-none key [] none = refl
option_at-none key (word ∷ []) none = refl
option_at-none key (word ∷ value ∷ rest) none = rw none refl

-- an option that is given is read, and one that is left out has its value
taken : (key : List ℕ) (default value : ℕ) (options : List (List ℕ × ℕ × ℕ)) (words : List (List ℕ)) → bytes_eq key key ≡ true → NoneHas key options
    → value ≤ LARGEST → GivesOptions ((key, default, value) ∷ options) words
    → (quantity_or default (option_at key words).0 ≡ Ok value) × GivesOptions options (option_at key words).1
taken key default value options words same none low (inl (rest, is, given)) =
    let found : option_at key words ≡ (Some (decimal value), rest) = ap (option_at key) is ∙ rw same refl in
    (ap (λ p. quantity_or default p.0) found ∙ quantity_again value low, subst (λ p. GivesOptions options p.1) (sym found) given)
taken key default value options words same none low (inr (is, given)) =
    let found : option_at key words ≡ (None, words) = option_at-none key words (not_first key options words none given) in
    (ap (λ p. quantity_or default p.0) found ∙ ap Ok (sym is), subst (λ p. GivesOptions options p.1) (sym found) given)

-- the words of a request are read as that request
request_again : (id : RequestId) (op : Op) (rest : List (List ℕ)) → IsRequestId id → IsOp op → AsksFor op rest
    → line_of_first (op_word op) (id_words id ++ rest) ≡ Ok (Request id op)
unfolding line_of_first lease_in lease_after release_in id_at
request_again id (Release r) rest is op may = rw (may, op.0, id_again id is, quantity_again r.base op.1) refl
request_again id (Lease l) rest is op (w, given, may) =
    let o = l.options in
    let max : List (List ℕ × ℕ × ℕ) = (codes "max", LARGEST, o.max) ∷ [] in
    let min : List (List ℕ × ℕ × ℕ) = (codes "min", 0, o.min) ∷ max in
    let nocross : List (List ℕ × ℕ × ℕ) = (codes "nocross", 0, o.nocross) ∷ min in
    let phase : List (List ℕ × ℕ × ℕ) = (codes "phase", 0, o.phase) ∷ nocross in
    let t1 = taken (codes "align") 0 o.align phase w refl (refl, (refl, (refl, (refl, tt)))) op.2.0 given in
    let w1 = (option_at (codes "align") w).1 in
    let t2 = taken (codes "phase") 0 o.phase nocross w1 refl (refl, (refl, (refl, tt))) op.2.1 t1.1 in
    let w2 = (option_at (codes "phase") w1).1 in
    let t3 = taken (codes "nocross") 0 o.nocross min w2 refl (refl, (refl, tt)) op.2.2 t2.1 in
    let w3 = (option_at (codes "nocross") w2).1 in
    let t4 = taken (codes "min") 0 o.min max w3 refl (refl, tt) op.2.3 t3.1 in
    let w4 = (option_at (codes "min") w3).1 in
    let t5 = taken (codes "max") LARGEST o.max [] w4 refl tt op.2.4 t4.1 in
    let ends : end_at (option_at (codes "max") w4).1 ≡ Ok tt = ap end_at t5.1 in
    rw (may, op.0, ends, id_again id is, quantity_again l.size op.1, t1.0, t2.0, t3.0, t4.0, t5.0) refl

-- the words of a text are read as its line
words_again : (line : Line) (words : List (List ℕ)) → IsLine line → MayFollow line words → line_of_first (first_word line) words ≡ Ok line
unfolding line_of_first hello_in
words_again (Hello h) words is may = rw (may, client_again h.client is.0.0 is.0.1, ordinal_again h.incarnation is.1.0 is.1.1, protocol_again h.protocol) refl
words_again (Request id op) words is (rest, may, are) = ap (line_of_first (op_word op)) are ∙ request_again id op rest is.0 is.1 may

-- the words of options are words
options_are_words : (options : List (List ℕ × ℕ × ℕ)) (words : List (List ℕ)) → AllByRecursion (λ o. is_word o.0 ≡ true) options → AllFit options
    → GivesOptions options words → list_all is_word words ≡ true
options_are_words [] words keys fit is = ap (list_all is_word) is
options_are_words ((key, default, value) ∷ options) words keys fit (inl (rest, is, given)) =
    ap (list_all is_word) is ∙ rw (keys.0, decimal_word value fit.0) (options_are_words options rest keys.1 fit.1 given)
options_are_words ((key, default, value) ∷ options) words keys fit (inr (is, given)) = options_are_words options words keys.1 fit.1 given

all_fit : (l : LeaseLine) → AreOptions l.options → AllFit (options_of l.options)
all_fit l is = (is.0, (is.1, (is.2, (is.3, (is.4, tt)))))

op_are_words : (op : Op) (rest : List (List ℕ)) → IsOp op → AsksFor op rest → list_all is_word rest ≡ true
op_are_words (Release r) rest is may =
    let name = and_parts (is_word r.arena) _ is.0 in
    rw (may, name.0, decimal_word r.base is.1) refl
op_are_words (Lease l) rest is (w, given, may) =
    let name = and_parts (is_word l.arena) _ is.0 in
    rw (may, name.0, decimal_word l.size is.1)
    (options_are_words (options_of l.options) w (refl, (refl, (refl, (refl, (refl, tt))))) (all_fit l is.2) given)

are_words : (line : Line) (words : List (List ℕ)) → IsLine line → MayFollow line words → list_all is_word words ≡ true
are_words (Hello h) words is may = rw (may, decimal_word h.client (omega arith), decimal_word h.incarnation is.1.1) (protocol_is_word h.protocol)
are_words (Request id op) words is (rest, may, are) =
    ap (list_all is_word) are ∙ id_are_words id rest is.0 (op_are_words op rest is.1 may)

-- the most bytes that options take
abbrev room : List (List ℕ × ℕ × ℕ) → ℕ
room [] = 0
room (o ∷ options) = length o.0 + 21 + room options

options_short : (options : List (List ℕ × ℕ × ℕ)) (words : List (List ℕ)) → AllFit options → GivesOptions options words → length (spaced_text words) ≤ room options
options_short [] words fit is = rw is (omega arith)
options_short ((key, default, value) ∷ options) words fit (inl (rest, is, given)) =
    let digits = decimal_short 19 value (omega arith) (let low = fit.0 in omega arith) fit.0 in
    let later = options_short options rest fit.1 given in
    rw is (simp length-append (omega arith))
options_short ((key, default, value) ∷ options) words fit (inr (is, given)) =
    let later = options_short options words fit.1 given in
    omega arith

-- the most bytes that what is asked for takes
op_short : (op : Op) (rest : List (List ℕ)) → IsOp op → AsksFor op rest → length (op_word op) + length (spaced_text rest) ≤ LONGEST_NAME + 160
op_short (Release r) rest is may =
    let a = name_short r.arena is.0 in
    let b = decimal_short 19 r.base (omega arith) (omega arith) is.1 in
    rw may (simp length-append (omega arith))
op_short (Lease l) rest is (w, given, may) =
    let a = name_short l.arena is.0 in
    let z = decimal_short 19 l.size (omega arith) (omega arith) is.1 in
    let o = options_short (options_of l.options) w (all_fit l is.2) given in
    rw may (simp length-append (omega arith))

short : (line : Line) (words : List (List ℕ)) → IsLine line → MayFollow line words → length (sentence (first_word line) words) ≤ LONGEST_LINE
short (Hello h) words is may =
    let c = decimal_short 19 h.client (omega arith) (omega arith) (omega arith) in
    let i = decimal_short 19 h.incarnation (omega arith) (omega arith) is.1.1 in
    let p = protocol_short h.protocol in
    rw may (simp length-append (omega arith))
short (Request id op) words is (rest, may, are) =
    let i = id_short id is.0 in
    let o = op_short op rest is.1 may in
    rw are (simp length-append (omega arith))

first_is_word : (line : Line) → is_word (first_word line) ≡ true
first_is_word (Hello h) = refl
first_is_word (Request id (Lease l)) = refl
first_is_word (Request id (Release r)) = refl

-- a text is read as its line
text_is_read : (line : Line) (words : List (List ℕ)) → IsLine line → MayFollow line words → line_of (sentence (first_word line) words) ≡ Ok line
unfolding line_of line_in
text_is_read line words is may =
    let bytes = sentence (first_word line) words in
    let parts = parts_of-sentence (first_word line) words (first_is_word line) (are_words line words is may) in
    let good : is_sentence bytes ≡ true = ap (list_all is_word) parts ∙ and_from (is_word (first_word line)) _ (first_is_word line) (are_words line words is may) in
    rw (le-ltb LONGEST_LINE (length bytes) (short line words is may), good, parts) (words_again line words is may)

-- what is written of options gives them
option_given : (key : List ℕ) (default value : ℕ) (options : List (List ℕ × ℕ × ℕ)) (rest : List (List ℕ)) → GivesOptions options rest
    → GivesOptions ((key, default, value) ∷ options) (option_words key default value ++ rest)
option_given key default value options rest given = elim (cases_eq value default) [
  | inl is ↦ rw (eq-eqb value default is) (inr (is, given))
  | inr other ↦ rw (ne_eqb value default other) (inl (rest, refl, given))
]

op_may : (op : Op) → AsksFor op (op_words op)
op_may (Release r) = refl
op_may (Lease l) =
    let o = l.options in
    let max : List ℕ × ℕ × ℕ = (codes "max", LARGEST, o.max) in
    let min : List ℕ × ℕ × ℕ = (codes "min", 0, o.min) in
    let nocross : List ℕ × ℕ × ℕ = (codes "nocross", 0, o.nocross) in
    let phase : List ℕ × ℕ × ℕ = (codes "phase", 0, o.phase) in
    let last : GivesOptions (max ∷ []) (option_words (codes "max") LARGEST o.max) =
    subst (GivesOptions (max ∷ [])) (append-nil _) (option_given (codes "max") LARGEST o.max [] [] refl) in (
      options_words o,
      option_given (codes "align") 0 o.align (phase ∷ nocross ∷ min ∷ max ∷ []) _
          (option_given (codes "phase") 0 o.phase (nocross ∷ min ∷ max ∷ []) _
          (option_given (codes "nocross") 0 o.nocross (min ∷ max ∷ []) _
          (option_given (codes "min") 0 o.min (max ∷ []) _ last))),
      refl,
    )

written_may : (line : Line) → MayFollow line (words_after line)
written_may (Hello h) = refl
written_may (Request id op) = (op_words op, op_may op, refl)

pub line_is_read : LineIsRead
line_is_read line is = text_is_read line (words_after line) is (written_may line)

-- an option that was read is given, or left out at its value
option_says : (key : List ℕ) (default : ℕ) (options : List (List ℕ × ℕ × ℕ)) (value : ℕ) (words : List (List ℕ)) → default ≤ LARGEST
    → quantity_or default (option_at key words).0 ≡ Ok value → GivesOptions options (option_at key words).1
    → GivesOptions ((key, default, value) ∷ options) words × IsQuantity value
option_says key default options value [] low read given = let is : default ≡ value = cc in (inr (sym is, given), subst (λ n. n ≤ LARGEST) is low)
option_says key default options value (word ∷ []) low read given = let is : default ≡ value = cc in (inr (sym is, given), subst (λ n. n ≤ LARGEST) is low)
option_says key default options value (word ∷ number ∷ rest) low read given =
    let P : Option (List ℕ) × List (List ℕ) → Type 0 = λ p. quantity_or default p.0 ≡ Ok value → GivesOptions options p.1
    → GivesOptions ((key, default, value) ∷ options) (word ∷ number ∷ rest) × IsQuantity value in
    elim (told word key (Some number, rest) (None, word ∷ number ∷ rest) (option_at key (word ∷ number ∷ rest)) refl) [
      | inl p ↦ subst P p.1 (λ read given. let said = quantity_says number value read in
          (inl (rest, ap (λ w. w ∷ number ∷ rest) p.0 ∙ ap (λ w. key ∷ w ∷ rest) said.0, given), said.1)) read given
      | inr p ↦ subst P p (λ read given. let is : default ≡ value = cc in (inr (sym is, given), subst (λ n. n ≤ LARGEST) is low)) read given
    ]

-- a value that may be left out, and so on
option_step : {B P : Type 0} (default : ℕ) (word : Option (List ℕ)) (f : ℕ → Result B LineFault) (b : B) → (quantity_or default word >>= f) ≡ Ok b
    → ((n : ℕ) → quantity_or default word ≡ Ok n → f n ≡ Ok b → P) → P
option_step default word f b e k = let (n, is, next) = step (quantity_or default word) f b e in k n is next

-- what the words of a line say of it
abbrev pub Says : List ℕ → List (List ℕ) → Line → Type 0
Says first words line = IsLine line × (first ≡ first_word line) × MayFollow line words

hello_says : (words : List (List ℕ)) (read : Line) → hello_in words ≡ Ok read → Says (codes "hello") words read
unfolding hello_in
hello_says words read e =
    word_step words _ read e (λ client w1 client_is e1.
    word_step w1 _ read e1 (λ incarnation w2 incarnation_is e2.
    protocol_step w2 _ read e2 (λ p p_words e3.
    client_step client _ read e3 (λ c c_word c_in e4.
    ordinal_step incarnation _ read e4 (λ i i_word i_in e5.
    let read_is : Hello (record { client = c; incarnation = i; protocol = p }) ≡ read = cc in
    subst (Says (codes "hello") words) read_is ((c_in, i_in), refl, cc))))))

release_says : (words : List (List ℕ)) (read : Line) → release_in words ≡ Ok read → Says (codes "release") words read
unfolding release_in
release_says words read e =
    id_at_step words _ read e (λ wc wi wn w1 words_are e1.
    word_step w1 _ read e1 (λ name w2 name_is e2.
    name_step name _ read e2 (λ arena arena_word arena_in e3.
    word_step w2 _ read e3 (λ base w3 base_is e4.
    end_step w3 _ read e4 (λ end_is e5.
    id_step wc wi wn _ read e5 (λ id is c_word i_word n_word e6.
    quantity_step base _ read e6 (λ b b_word b_in e7.
    let read_is : Request id (Release (record { arena = arena; base = b })) ≡ read = cc in
    subst (Says (codes "release") words) read_is
    ((is, (arena_in, b_in)), refl, (arena ∷ decimal b ∷ [], refl, cc)))))))))

lease_says : (words : List (List ℕ)) (read : Line) → lease_in words ≡ Ok read → Says (codes "lease") words read
unfolding lease_in lease_after
lease_says words read e =
    id_at_step words _ read e (λ wc wi wn w1 words_are e1.
    word_step w1 _ read e1 (λ name w2 name_is e2.
    name_step name _ read e2 (λ arena arena_word arena_in e3.
    word_step w2 _ read e3 (λ size w5 size_is e6.
    let align = option_at (codes "align") w5 in
    let phase = option_at (codes "phase") align.1 in
    let nocross = option_at (codes "nocross") phase.1 in
    let min = option_at (codes "min") nocross.1 in
    let max = option_at (codes "max") min.1 in
    end_step max.1 _ read e6 (λ end_is e7.
    id_step wc wi wn _ read e7 (λ id is c_word i_word n_word e10.
    quantity_step size _ read e10 (λ s s_word s_in e11.
    option_step 0 align.0 _ read e11 (λ a a_is e12.
    option_step 0 phase.0 _ read e12 (λ p p_is e13.
    option_step 0 nocross.0 _ read e13 (λ x x_is e14.
    option_step 0 min.0 _ read e14 (λ l l_is e15.
    option_step LARGEST max.0 _ read e15 (λ h h_is e16.
    let lease : LeaseLine = record {
      arena = arena;
      size = s;
      options = record { align = a; phase = p; nocross = x; min = l; max = h };
    } in
    let read_is : Request id (Lease lease) ≡ read = cc in
    let from_max : List (List ℕ × ℕ × ℕ) = (codes "max", LARGEST, h) ∷ [] in
    let from_min : List (List ℕ × ℕ × ℕ) = (codes "min", 0, l) ∷ from_max in
    let from_nocross : List (List ℕ × ℕ × ℕ) = (codes "nocross", 0, x) ∷ from_min in
    let from_phase : List (List ℕ × ℕ × ℕ) = (codes "phase", 0, p) ∷ from_nocross in
    let o5 = option_says (codes "max") LARGEST [] h min.1 (omega arith) h_is end_is in
    let o4 = option_says (codes "min") 0 from_max l nocross.1 (omega arith) l_is o5.0 in
    let o3 = option_says (codes "nocross") 0 from_min x phase.1 (omega arith) x_is o4.0 in
    let o2 = option_says (codes "phase") 0 from_nocross p align.1 (omega arith) p_is o3.0 in
    let o1 = option_says (codes "align") 0 from_phase a w5 (omega arith) a_is o2.0 in
    subst (Says (codes "lease") words) read_is (
      (is, (arena_in, s_in, (o1.1, o2.1, o3.1, o4.1, o5.1))),
      refl,
      (arena ∷ decimal s ∷ w5, (w5, o1.0, refl), cc),
    )))))))))))))

pub words_say : (first : List ℕ) (words : List (List ℕ)) (line : Line) → line_of_first first words ≡ Ok line → Says first words line
unfolding line_of_first
words_say first words line e = elim (told first (codes "hello") _ _ _ e) [
  | inl p ↦ subst (λ f. Says f words line) (sym p.0) (hello_says words line p.1)
  | inr e1 ↦ elim (told first (codes "lease") _ _ _ e1) [
    | inl p ↦ subst (λ f. Says f words line) (sym p.0) (lease_says words line p.1)
    | inr e2 ↦ elim (told first (codes "release") _ _ _ e2) [
      | inl p ↦ subst (λ f. Says f words line) (sym p.0) (release_says words line p.1)
      | inr none ↦ absurd (cc)
    ]
  ]
]

-- they are words
pub line_words : (first : List ℕ) (words : List (List ℕ)) (line : Line) → line_of_first first words ≡ Ok line → list_all is_word (first ∷ words) ≡ true
line_words first words line e =
    let said = words_say first words line e in
    and_from (is_word first) _ (ap is_word said.1 ∙ first_is_word line) (are_words line words said.0 said.2)

-- and so are all parts that are read as a line
pub words_of_line : (words : List (List ℕ)) (line : Line) → line_in words ≡ Ok line → list_all is_word words ≡ true
unfolding line_in
words_of_line [] line e = absurd (cc)
words_of_line (first ∷ words) line e = line_words first words line e

line_says : (bytes : List ℕ) (words : List (List ℕ)) (line : Line) → bytes ≡ join_with_byte 32 words → line_in words ≡ Ok line
    → IsLine line × IsTextOf line bytes
unfolding line_in
line_says bytes [] line is e = absurd (cc)
line_says bytes (first ∷ words) line is e =
    let said = words_say first words line e in
    (said.0, (words, said.2, is ∙ join_with_byte-sentence first words ∙ ap (λ f. sentence f words) said.1))

text_says : (bytes : List ℕ) (line : Line) → line_of bytes ≡ Ok line → IsLine line × IsTextOf line bytes
unfolding line_of
text_says bytes line e = words_step bytes _ line e (λ words is next. line_says bytes words line is next)

pub lines_are_texts : LinesAreTexts
lines_are_texts bytes line = (text_says bytes line, λ is. let (words, may, text) = is.1 in ap line_of text ∙ text_is_read line words is.0 may)

pub written_line_is_whole : WrittenLineIsWhole
unfolding line_of
written_line_is_whole line is =
    let (words, are, next) = step (words_of (text_of line)) line_in line (line_is_read line is) in
    words_are_whole (text_of line) words are
