-- A setup line is read just from its text.
use Rattle.std.proofs.Common.{◌≡◌, ℕ, ◌≤◌, true, List, [], ◌∷◌, length, Result, Ok, refl, ◌∙◌, ap, subst, arith, inl, inr, codes, lit≤}
use Rattle.std.proofs.lemmas.List.{length-append}
use Rattle.std.proofs.lemmas.Bool.{le-ltb, and_parts, and_from}
use Rattle.std.specs.List.{join_with_byte, list_all}
use Rattle.lease_terms.specs.Names.{is_word}
use Rattle.lease_proto.specs.declared.faults.LineFault.{LineFault}
use Rattle.lease_proto.specs.declared.limits.TheConstants.{LONGEST_LINE}
use Rattle.lease_proto.specs.declared.setup_lines.PolicyWord.{PolicyWord}
use Rattle.lease_proto.specs.declared.setup_lines.PolicyWord.TheVariants.{Instant, Best, Next}
use Rattle.lease_proto.specs.declared.setup_lines.SetupLine.{SetupLine}
use Rattle.lease_proto.specs.declared.setup_lines.SetupLine.TheVariants.{Root, Child, Span}
use Rattle.lease_proto.specs.declared.setup_lines.RootLine.{RootLine}
use Rattle.lease_proto.specs.declared.setup_lines.ChildLine.{ChildLine}
use Rattle.lease_proto.specs.declared.setup_lines.SpanLine.{SpanLine}
use Rattle.lease_proto.specs.Words.{is_sentence}
use Rattle.lease_proto.specs.Values.{◌>>=◌}
use Rattle.lease_proto.specs.SetupLines.{setup_of, setup_in, root_in, child_in, span_in, policy_in}
use Rattle.lease_proto.specs.SetupTexts.{policy_word, root_words, child_words, span_words, setup_word, setup_words, setup_text, IsSetupLine, SetupsAreTexts}
use Rattle.lease_proto.proofs.ReadLemmas.{step, told, named, words_step, word_step, name_step, end_step, quantity_step, join_with_byte-sentence}
use Rattle.lease_proto.proofs.GrammarLemmas.{quantity_again, decimal_word, decimal_short, name_short, parts_of-sentence}

policy_again : (p : PolicyWord) → policy_in (policy_word p) ≡ Ok p
policy_again Instant = refl
policy_again Best = refl
policy_again Next = refl

policy_is_word : (p : PolicyWord) → is_word (policy_word p) ≡ true
policy_is_word Instant = refl
policy_is_word Best = refl
policy_is_word Next = refl

policy_short : (p : PolicyWord) → length (policy_word p) ≤ 7
policy_short Instant = lit≤ tt
policy_short Best = lit≤ tt
policy_short Next = lit≤ tt

policy_says : (word : List ℕ) (p : PolicyWord) → policy_in word ≡ Ok p → word ≡ policy_word p
policy_says word p e = elim (named policy_word word Instant _ p e) [
  | inl is ↦ is
  | inr e1 ↦ elim (named policy_word word Best _ p e1) [
    | inl is ↦ is
    | inr e2 ↦ elim (named policy_word word Next _ p e2) [ inl is ↦ is | inr none ↦ absurd (cc) ]
  ]
]

words_again : (line : SetupLine) → IsSetupLine line → setup_in (setup_word line ∷ setup_words line) ≡ Ok line
unfolding setup_in root_in child_in span_in
words_again (Root r) is = rw (is.0, policy_again r.policy, quantity_again r.base is.1, quantity_again r.len is.2, quantity_again r.quantum is.3, quantity_again r.qcache_max is.4) refl
words_again (Child c) is = rw (is.0, is.1, policy_again c.policy, quantity_again c.quantum is.2, quantity_again c.qcache_max is.3, quantity_again c.import_min is.4) refl
words_again (Span s) is = rw (is.0, quantity_again s.base is.1, quantity_again s.len is.2) refl

first_is_word : (line : SetupLine) → is_word (setup_word line) ≡ true
first_is_word (Root r) = refl
first_is_word (Child c) = refl
first_is_word (Span s) = refl

are_words : (line : SetupLine) → IsSetupLine line → list_all is_word (setup_words line) ≡ true
are_words (Root r) is =
    let name = and_parts (is_word r.name) _ is.0 in
    rw (name.0, policy_is_word r.policy, decimal_word r.base is.1, decimal_word r.len is.2, decimal_word r.quantum is.3, decimal_word r.qcache_max is.4) refl
are_words (Child c) is =
    let name = and_parts (is_word c.name) _ is.0 in
    let source = and_parts (is_word c.source) _ is.1 in
    rw (name.0, source.0, policy_is_word c.policy, decimal_word c.quantum is.2, decimal_word c.qcache_max is.3, decimal_word c.import_min is.4) refl
are_words (Span s) is =
    let name = and_parts (is_word s.name) _ is.0 in
    rw (name.0, decimal_word s.base is.1, decimal_word s.len is.2) refl

short : (line : SetupLine) → IsSetupLine line → length (setup_text line) ≤ LONGEST_LINE
short (Root r) is =
    let n = name_short r.name is.0 in
    let p = policy_short r.policy in
    let b = decimal_short 19 r.base (omega arith) (omega arith) is.1 in
    let l = decimal_short 19 r.len (omega arith) (omega arith) is.2 in
    let q = decimal_short 19 r.quantum (omega arith) (omega arith) is.3 in
    let m = decimal_short 19 r.qcache_max (omega arith) (omega arith) is.4 in
    simp length-append (omega arith)
short (Child c) is =
    let n = name_short c.name is.0 in
    let s = name_short c.source is.1 in
    let p = policy_short c.policy in
    let q = decimal_short 19 c.quantum (omega arith) (omega arith) is.2 in
    let m = decimal_short 19 c.qcache_max (omega arith) (omega arith) is.3 in
    let i = decimal_short 19 c.import_min (omega arith) (omega arith) is.4 in
    simp length-append (omega arith)
short (Span s) is =
    let n = name_short s.name is.0 in
    let b = decimal_short 19 s.base (omega arith) (omega arith) is.1 in
    let l = decimal_short 19 s.len (omega arith) (omega arith) is.2 in
    simp length-append (omega arith)

-- the texts of setup lines are read as these lines
text_is_read : (line : SetupLine) → IsSetupLine line → setup_of (setup_text line) ≡ Ok line
unfolding setup_of
text_is_read line is =
    let parts = parts_of-sentence (setup_word line) (setup_words line) (first_is_word line) (are_words line is) in
    let good : is_sentence (setup_text line) ≡ true = ap (list_all is_word) parts ∙ and_from (is_word (setup_word line)) _ (first_is_word line) (are_words line is) in
    rw (le-ltb LONGEST_LINE (length (setup_text line)) (short line is), good, parts) (words_again line is)

-- what the words after the first say of a root, a child and a span
root_says : (words : List (List ℕ)) (r : RootLine) → root_in words ≡ Ok r → IsSetupLine (Root r) × (words ≡ root_words r)
unfolding root_in
root_says words r e =
    word_step words _ r e (λ name w1 name_is e1.
    name_step name _ r e1 (λ arena arena_word arena_in e2.
    word_step w1 _ r e2 (λ base w2 base_is e3.
    word_step w2 _ r e3 (λ len w3 len_is e4.
    word_step w3 _ r e4 (λ quantum w4 quantum_is e5.
    word_step w4 _ r e5 (λ policy w5 policy_is e6.
    let (p, p_is, e7) = step (policy_in policy) _ r e6 in
    let p_word = policy_says policy p p_is in
    word_step w5 _ r e7 (λ most w6 most_is e8.
    end_step w6 _ r e8 (λ none e9.
    quantity_step base _ r e9 (λ b b_word b_in e10.
    quantity_step len _ r e10 (λ l l_word l_in e11.
    quantity_step quantum _ r e11 (λ q q_word q_in e12.
    quantity_step most _ r e12 (λ m m_word m_in e13.
    let made : RootLine = record { name = arena; base = b; len = l; quantum = q; policy = p; qcache_max = m } in
    let read_is : made ≡ r = cc in
    subst (λ x. IsSetupLine (Root x) × (words ≡ root_words x)) read_is ((arena_in, b_in, l_in, q_in, m_in), cc)))))))))))))

child_says : (words : List (List ℕ)) (c : ChildLine) → child_in words ≡ Ok c → IsSetupLine (Child c) × (words ≡ child_words c)
unfolding child_in
child_says words c e =
    word_step words _ c e (λ name w1 name_is e1.
    name_step name _ c e1 (λ arena arena_word arena_in e2.
    word_step w1 _ c e2 (λ above w2 above_is e3.
    name_step above _ c e3 (λ source source_word source_in e4.
    word_step w2 _ c e4 (λ quantum w3 quantum_is e5.
    word_step w3 _ c e5 (λ policy w4 policy_is e6.
    let (p, p_is, e7) = step (policy_in policy) _ c e6 in
    let p_word = policy_says policy p p_is in
    word_step w4 _ c e7 (λ most w5 most_is e8.
    word_step w5 _ c e8 (λ least w6 least_is e9.
    end_step w6 _ c e9 (λ none e10.
    quantity_step quantum _ c e10 (λ q q_word q_in e11.
    quantity_step most _ c e11 (λ m m_word m_in e12.
    quantity_step least _ c e12 (λ i i_word i_in e13.
    let made : ChildLine = record { name = arena; source = source; quantum = q; policy = p; qcache_max = m; import_min = i } in
    let read_is : made ≡ c = cc in
    subst (λ x. IsSetupLine (Child x) × (words ≡ child_words x)) read_is ((arena_in, source_in, q_in, m_in, i_in), cc)))))))))))))

span_says : (words : List (List ℕ)) (s : SpanLine) → span_in words ≡ Ok s → IsSetupLine (Span s) × (words ≡ span_words s)
unfolding span_in
span_says words s e =
    word_step words _ s e (λ name w1 name_is e1.
    name_step name _ s e1 (λ arena arena_word arena_in e2.
    word_step w1 _ s e2 (λ base w2 base_is e3.
    word_step w2 _ s e3 (λ len w3 len_is e4.
    end_step w3 _ s e4 (λ none e5.
    quantity_step base _ s e5 (λ b b_word b_in e6.
    quantity_step len _ s e6 (λ l l_word l_in e7.
    let made : SpanLine = record { name = arena; base = b; len = l } in
    let read_is : made ≡ s = cc in
    subst (λ x. IsSetupLine (Span x) × (words ≡ span_words x)) read_is ((arena_in, b_in, l_in), cc))))))))

-- what the words of a setup line say of it
abbrev Says : List ℕ → List (List ℕ) → SetupLine → Type 0
Says first words line = IsSetupLine line × (first ∷ words ≡ setup_word line ∷ setup_words line)

-- one kind of line was read
kind : {A : Type 0} (make : A → SetupLine) (read : Result A LineFault) (first : List ℕ) (words : List (List ℕ)) (line : SetupLine)
    → ((r : A) → read ≡ Ok r → Says first words (make r)) → (read >>= λ r. Ok (make r)) ≡ Ok line → Says first words line
kind make read first words line says e =
    let (r, is, made) = step read (λ r. Ok (make r)) line e in
    let same : make r ≡ line = cc in
    subst (Says first words) same (says r is)

both : {first key : List ℕ} {words others : List (List ℕ)} → first ≡ key → words ≡ others → first ∷ words ≡ key ∷ others
both is are = cc

words_say : (words : List (List ℕ)) (line : SetupLine) → setup_in words ≡ Ok line → IsSetupLine line × (words ≡ setup_word line ∷ setup_words line)
unfolding setup_in
words_say [] line e = absurd (cc)
words_say (first ∷ words) line e = elim (told first (codes "root") _ _ _ e) [
  | inl p ↦ kind Root (root_in words) first words line (λ r is. let said = root_says words r is in (said.0, both p.0 said.1)) p.1
  | inr e1 ↦ elim (told first (codes "child") _ _ _ e1) [
    | inl p ↦ kind Child (child_in words) first words line (λ c is. let said = child_says words c is in (said.0, both p.0 said.1)) p.1
    | inr e2 ↦ elim (told first (codes "span") _ _ _ e2) [
      | inl p ↦ kind Span (span_in words) first words line (λ s is. let said = span_says words s is in (said.0, both p.0 said.1)) p.1
      | inr none ↦ absurd (cc)
    ]
  ]
]

text_says : (bytes : List ℕ) (line : SetupLine) → setup_of bytes ≡ Ok line → IsSetupLine line × (bytes ≡ setup_text line)
unfolding setup_of
text_says bytes line e =
    words_step bytes _ line e (λ words is next.
    let said = words_say words line next in
    (said.0, is ∙ ap (join_with_byte 32) said.1 ∙ join_with_byte-sentence (setup_word line) (setup_words line)))

pub setups_are_texts : SetupsAreTexts
setups_are_texts bytes line = (text_says bytes line, λ is. ap setup_of is.1 ∙ text_is_read line is.0)
