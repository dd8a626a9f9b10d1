-- Which bytes are served.
use Rattle.std.proofs.Common.{◌≡◌, ℕ, ◌≤◌, true, false, List, [], ◌∷◌, length, Ok, refl, sym, ◌∙◌, ap, subst, inl, inr, codes, decimal, arith}
use Rattle.std.proofs.lemmas.List.{length-append}
use Rattle.std.proofs.lemmas.Bool.{cases_Bool, and_parts, and_from, le-leb, le-ltb}
use Rattle.std.specs.List.{join_with_byte, list_all}
use Rattle.lease_terms.specs.Names.{is_word}
use Rattle.lease_proto.specs.declared.limits.TheConstants.{LONGEST_LINE, LAST_CPU}
use Rattle.lease_proto.specs.declared.lines.Line.{Line}
use Rattle.lease_proto.specs.declared.lines.Line.TheVariants.{Hello, Request}
use Rattle.lease_proto.specs.declared.lines.Op.TheVariants.{Lease, Release}
use Rattle.lease_proto.specs.declared.operators.MagazineSize.{MagazineSize}
use Rattle.lease_proto.specs.declared.operators.MagazineSize.TheVariants.{Three, Seven, Fifteen, ThirtyOne}
use Rattle.lease_proto.specs.declared.operators.OperatorLine.{OperatorLine}
use Rattle.lease_proto.specs.declared.operators.OperatorLine.TheVariants.{Cpu, Offline, Tick, Resize, Grow, Reap, Audit, Clients}
use Rattle.lease_proto.specs.declared.operators.ServedLine.{ServedLine}
use Rattle.lease_proto.specs.declared.operators.ServedLine.TheVariants.{Client, Operator}
use Rattle.lease_proto.specs.Words.{number_in, is_sentence}
use Rattle.lease_proto.specs.Cpus.{IsCpu, cpu_in}
use Rattle.lease_proto.specs.Values.{◌>>=◌, words_of}
use Rattle.lease_proto.specs.Grammar.{end_at, line_of, line_in, line_of_first}
use Rattle.lease_proto.specs.Texts.{first_word, sentence}
use Rattle.lease_proto.specs.Operators.{cpu_line_in, size_in, size_word, resize_in, grow_in, alone_in, operator_in, is_operator_word, operator_word, operator_words, operator_text, IsOperator, served_of, served_in, ClientsAreServed, OperatorsAreServed}
use Rattle.lease_proto.proofs.WordLemmas.{numbers}
use Rattle.lease_proto.proofs.ReadLemmas.{step, told, named, number_within_says, word_step, end_step, name_step, quantity_step, words_says, join_with_byte-sentence}
use Rattle.lease_proto.proofs.GrammarLemmas.{quantity_again, decimal_word, decimal_short, name_short, parts_of-sentence}
use Rattle.lease_proto.proofs.LineLemmas.{words_say, line_words}

-- an operator's word is no client's
client_words : (words : List (List ℕ)) (line : Line) → served_in words ≡ Ok (Client line) → line_in words ≡ Ok line
unfolding served_in line_in
client_words [] line e = absurd (cc)
client_words (first ∷ words) line e = elim (cases_Bool (is_operator_word first)) [
  | inl own ↦
      let found : (operator_in first words >>= λ o. Ok (Operator o)) ≡ Ok (Client line) = rw own at e in
      let (o, is, made) = step (operator_in first words) (λ o. Ok (Operator o)) (Client line) found in
      let m : Operator o ≡ Client line = cc in absurd (cc)
  | inr other ↦
      let found : (line_of_first first words >>= λ l. Ok (Client l)) ≡ Ok (Client line) = rw other at e in
      let (l, is, made) = step (line_of_first first words) (λ l. Ok (Client l)) (Client line) found in
      let same : l ≡ line = cc in is ∙ ap Ok same
]

-- a client's word is no operator's
no_operator : (line : Line) → is_operator_word (first_word line) ≡ false
no_operator (Hello h) = refl
no_operator (Request id (Lease l)) = refl
no_operator (Request id (Release r)) = refl

words_served : (words : List (List ℕ)) (line : Line) → line_in words ≡ Ok line → served_in words ≡ Ok (Client line)
unfolding served_in line_in
words_served [] line e = absurd (cc)
words_served (first ∷ words) line e =
    let said = words_say first words line e in
    let none : is_operator_word first ≡ false = ap is_operator_word said.1 ∙ no_operator line in
    rw (none, e) refl

pub clients_are_served : ClientsAreServed
unfolding served_of line_of
clients_are_served bytes line = (
  λ e. let (words, is, next) = step (words_of bytes) served_in (Client line) e in rw is (client_words words line next),
  λ e. let (words, is, next) = step (words_of bytes) line_in line e in rw is (words_served words line next),
)

-- what the words of an operator's line say of it
abbrev Says : List ℕ → List (List ℕ) → OperatorLine → Type 0
Says first words o = IsOperator o × (first ≡ operator_word o) × (words ≡ operator_words o)

cpu_says : (words : List (List ℕ)) (n : ℕ) → cpu_line_in words ≡ Ok n → IsCpu n × (words ≡ decimal n ∷ [])
unfolding cpu_line_in
cpu_says words n e =
    word_step words _ n e (λ number w1 number_is e1.
    end_step w1 _ n e1 (λ none e2.
    let said = number_within_says 0 LAST_CPU (number_in number) n e2 in
    let word : number ≡ decimal n = ((numbers number n).0 said.0).0 in
    (said.2, cc)))

size_says : (word : List ℕ) (m : MagazineSize) → size_in word ≡ Ok m → word ≡ size_word m
size_says word m e = elim (named size_word word Three _ m e) [
  | inl is ↦ is
  | inr e1 ↦ elim (named size_word word Seven _ m e1) [
    | inl is ↦ is
    | inr e2 ↦ elim (named size_word word Fifteen _ m e2) [
      | inl is ↦ is
      | inr e3 ↦ elim (named size_word word ThirtyOne _ m e3) [ inl is ↦ is | inr none ↦ absurd (cc) ]
    ]
  ]
]

resize_says : (words : List (List ℕ)) (o : OperatorLine) → resize_in words ≡ Ok o → Says (codes "resize") words o
unfolding resize_in
resize_says words o e =
    word_step words _ o e (λ name w1 name_is e1.
    name_step name _ o e1 (λ arena arena_word arena_in e2.
    word_step w1 _ o e2 (λ rounds w2 rounds_is e3.
    end_step w2 _ o e3 (λ none e4.
    let (m, is, e5) = step (size_in rounds) _ o e4 in
    let word = size_says rounds m is in
    let read_is : Resize (record { arena = arena; size = m }) ≡ o = cc in
    subst (Says (codes "resize") words) read_is (arena_in, refl, cc)))))

grow_says : (words : List (List ℕ)) (o : OperatorLine) → (grow_in words >>= λ g. Ok (Grow g)) ≡ Ok o → Says (codes "grow") words o
unfolding grow_in
grow_says words o e =
    let (line, line_is, grown) = step (grow_in words) (λ g. Ok (Grow g)) o e in
    word_step words _ line line_is (λ name w1 name_is e1.
    name_step name _ line e1 (λ arena arena_word arena_in e2.
    word_step w1 _ line e2 (λ base w2 base_is e3.
    word_step w2 _ line e3 (λ len w3 len_is e4.
    end_step w3 _ line e4 (λ none e5.
    quantity_step base _ line e5 (λ b b_word b_in e6.
    quantity_step len _ line e6 (λ l l_word l_in e7.
    let read_is : Grow (record { arena = arena; base = b; len = l }) ≡ o = cc in
    subst (Says (codes "grow") words) read_is ((arena_in, b_in, l_in), refl, cc))))))))

-- a line that is one word
one_says : (key : List ℕ) (words : List (List ℕ)) (o p : OperatorLine) → IsOperator o → key ≡ operator_word o → operator_words o ≡ []
    → (end_at words >>= λ e. Ok o) ≡ Ok p → Says key words p
one_says key words o p own word rest e =
    end_step words (λ e. Ok o) p e (λ none made. let same : o ≡ p = cc in subst (Says key words) same (own, word, none ∙ sym rest))

alone_says : (first : List ℕ) (words : List (List ℕ)) (o : OperatorLine) → alone_in first words ≡ Ok o → Says first words o
alone_says first words o e = elim (told first (codes "tick") _ _ _ e) [
  | inl p ↦ one_says first words Tick o tt p.0 refl p.1
  | inr e1 ↦ elim (told first (codes "reap") _ _ _ e1) [
    | inl p ↦ one_says first words Reap o tt p.0 refl p.1
    | inr e2 ↦ elim (told first (codes "audit") _ _ _ e2) [
      | inl p ↦ one_says first words Audit o tt p.0 refl p.1
      | inr e3 ↦ elim (told first (codes "clients") _ _ _ e3) [
        | inl p ↦ one_says first words Clients o tt p.0 refl p.1
        | inr none ↦ absurd (cc)
      ]
    ]
  ]
]

-- a line that names a CPU
names_cpu : (key : List ℕ) (words : List (List ℕ)) (make : ℕ → OperatorLine) (o : OperatorLine)
    → ((n : ℕ) → IsCpu n → Says key (decimal n ∷ []) (make n)) → (cpu_line_in words >>= λ n. Ok (make n)) ≡ Ok o → Says key words o
names_cpu key words make o own e =
    let (n, is, made) = step (cpu_line_in words) (λ n. Ok (make n)) o e in
    let said = cpu_says words n is in
    let same : make n ≡ o = cc in
    subst (Says key words) same (subst (λ ws. Says key ws (make n)) (sym said.1) (own n said.0))

operator_says : (first : List ℕ) (words : List (List ℕ)) (o : OperatorLine) → operator_in first words ≡ Ok o → Says first words o
unfolding operator_in
operator_says first words o e = elim (told first (codes "cpu") _ _ _ e) [
  | inl p ↦ subst (λ f. Says f words o) (sym p.0) (names_cpu (codes "cpu") words Cpu o (λ n own. (own, refl, refl)) p.1)
  | inr e1 ↦ elim (told first (codes "offline") _ _ _ e1) [
    | inl p ↦ subst (λ f. Says f words o) (sym p.0) (names_cpu (codes "offline") words Offline o (λ n own. (own, refl, refl)) p.1)
    | inr e2 ↦ elim (told first (codes "resize") _ _ _ e2) [
      | inl p ↦ subst (λ f. Says f words o) (sym p.0) (resize_says words o p.1)
      | inr e3 ↦ elim (told first (codes "grow") _ _ _ e3) [
        | inl p ↦ subst (λ f. Says f words o) (sym p.0) (grow_says words o p.1)
        | inr e4 ↦ alone_says first words o e4
      ]
    ]
  ]
]

-- what the words of any line that is served as an operator's say
served_says : (bytes : List ℕ) (words : List (List ℕ)) (o : OperatorLine) → bytes ≡ join_with_byte 32 words → served_in words ≡ Ok (Operator o)
    → IsOperator o × (bytes ≡ operator_text o)
unfolding served_in
served_says bytes [] o is e = absurd (cc)
served_says bytes (first ∷ words) o is e = elim (cases_Bool (is_operator_word first)) [
  | inl own ↦
      let found : (operator_in first words >>= λ o. Ok (Operator o)) ≡ Ok (Operator o) = rw own at e in
      let (p, read, made) = step (operator_in first words) (λ o. Ok (Operator o)) (Operator o) found in
      let same : p ≡ o = cc in
      let said = operator_says first words o (read ∙ ap Ok same) in
      (said.0, is ∙ join_with_byte-sentence first words ∙ ap (λ f. sentence f words) said.1 ∙ ap (sentence (operator_word o)) said.2)
  | inr other ↦
      let found : (line_of_first first words >>= λ l. Ok (Client l)) ≡ Ok (Operator o) = rw other at e in
      let (l, read, made) = step (line_of_first first words) (λ l. Ok (Client l)) (Operator o) found in
      let m : Client l ≡ Operator o = cc in absurd (cc)
]

cpu_again : (n : ℕ) → IsCpu n → cpu_in (decimal n) ≡ Ok n
cpu_again n is = rw ((numbers (decimal n) n).1 (refl, omega arith)) (rw (le-leb 0 n (omega arith), le-leb n LAST_CPU is) refl)

size_again : (m : MagazineSize) → size_in (size_word m) ≡ Ok m
size_again Three = refl
size_again Seven = refl
size_again Fifteen = refl
size_again ThirtyOne = refl

words_again : (o : OperatorLine) → IsOperator o → served_in (operator_word o ∷ operator_words o) ≡ Ok (Operator o)
unfolding served_in operator_in cpu_line_in resize_in grow_in
words_again (Cpu n) is = rw (cpu_again n is) refl
words_again (Offline n) is = rw (cpu_again n is) refl
words_again Tick is = refl
words_again (Resize r) is = rw (is, size_again r.size) refl
words_again (Grow g) is = rw (is.0, quantity_again g.base is.1, quantity_again g.len is.2) refl
words_again Reap is = refl
words_again Audit is = refl
words_again Clients is = refl

size_is_word : (m : MagazineSize) → is_word (size_word m) ≡ true
size_is_word Three = refl
size_is_word Seven = refl
size_is_word Fifteen = refl
size_is_word ThirtyOne = refl

size_short : (m : MagazineSize) → length (size_word m) ≤ 2
size_short Three = omega arith
size_short Seven = omega arith
size_short Fifteen = omega arith
size_short ThirtyOne = omega arith

first_is_word : (o : OperatorLine) → is_word (operator_word o) ≡ true
first_is_word (Cpu n) = refl
first_is_word (Offline n) = refl
first_is_word Tick = refl
first_is_word (Resize r) = refl
first_is_word (Grow g) = refl
first_is_word Reap = refl
first_is_word Audit = refl
first_is_word Clients = refl

are_words : (o : OperatorLine) → IsOperator o → list_all is_word (operator_words o) ≡ true
are_words (Cpu n) is = rw (decimal_word n (omega arith)) refl
are_words (Offline n) is = rw (decimal_word n (omega arith)) refl
are_words Tick is = refl
are_words (Resize r) is =
    let name = and_parts (is_word r.arena) _ is in
    rw (name.0, size_is_word r.size) refl
are_words (Grow g) is =
    let name = and_parts (is_word g.arena) _ is.0 in
    rw (name.0, decimal_word g.base is.1, decimal_word g.len is.2) refl
are_words Reap is = refl
are_words Audit is = refl
are_words Clients is = refl

-- what is served is words
pub served_words : (words : List (List ℕ)) (s : ServedLine) → served_in words ≡ Ok s → list_all is_word words ≡ true
unfolding served_in
served_words [] s e = absurd (cc)
served_words (first ∷ words) s e = elim (cases_Bool (is_operator_word first)) [
  | inl own ↦
      let found : (operator_in first words >>= λ o. Ok (Operator o)) ≡ Ok s = rw own at e in
      let (o, read, made) = step (operator_in first words) (λ o. Ok (Operator o)) s found in
      let said = operator_says first words o read in
      and_from (is_word first) _ (ap is_word said.1 ∙ first_is_word o) (ap (list_all is_word) said.2 ∙ are_words o said.0)
  | inr other ↦
      let found : (line_of_first first words >>= λ l. Ok (Client l)) ≡ Ok s = rw other at e in
      let (l, read, made) = step (line_of_first first words) (λ l. Ok (Client l)) s found in
      line_words first words l read
]

short : (o : OperatorLine) → IsOperator o → length (operator_text o) ≤ LONGEST_LINE
short (Cpu n) is = let d = decimal_short 19 n (omega arith) (omega arith) (omega arith) in simp length-append (omega arith)
short (Offline n) is = let d = decimal_short 19 n (omega arith) (omega arith) (omega arith) in simp length-append (omega arith)
short Tick is = omega arith
short (Resize r) is = let a = name_short r.arena is in let m = size_short r.size in simp length-append (omega arith)
short (Grow g) is =
    let a = name_short g.arena is.0 in
    let b = decimal_short 19 g.base (omega arith) (omega arith) is.1 in
    let l = decimal_short 19 g.len (omega arith) (omega arith) is.2 in
    simp length-append (omega arith)
short Reap is = omega arith
short Audit is = omega arith
short Clients is = omega arith

operator_again : (o : OperatorLine) → IsOperator o → served_of (operator_text o) ≡ Ok (Operator o)
unfolding served_of
operator_again o is =
    let bytes = operator_text o in
    let parts = parts_of-sentence (operator_word o) (operator_words o) (first_is_word o) (are_words o is) in
    let good : is_sentence bytes ≡ true = ap (list_all is_word) parts ∙ and_from (is_word (operator_word o)) _ (first_is_word o) (are_words o is) in
    rw (le-ltb LONGEST_LINE (length bytes) (short o is), good, parts) (words_again o is)

pub operators_are_served : OperatorsAreServed
unfolding served_of
operators_are_served bytes o = (
  λ e. let (words, is, next) = step (words_of bytes) served_in (Operator o) e in
      served_says bytes words o (words_says bytes words is) next,
  λ is. ap served_of is.1 ∙ operator_again o is.0,
)
