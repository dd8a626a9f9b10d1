-- What was read says how it was written.
use Rattle.std.proofs.Common.{◌≡◌, ◌&&◌, ℕ, ◌≤◌, true, List, [], ◌∷◌, ◌++◌, Option, Some, None, Result, Ok, Err, refl, sym, ◌∙◌, ap, subst, cond, ◌⊎◌, inl, inr, decimal, codes, nat_le, nat_lt, length}
use Rattle.std.proofs.lemmas.Bool.{leb-true, cases_Bool, and_parts}
use Rattle.lease_terms.specs.declared.refusals.Refusal.{Refusal}
use Rattle.lease_terms.specs.declared.refusals.Refusal.TheVariants.{NoFit, BadRequest, NoArena, NotYours, Leases}
use Rattle.lease_terms.specs.declared.values.TheConstants.{LARGEST, LAST_CLIENT}
use Rattle.lease_terms.specs.declared.protocols.Protocol.{Protocol}
use Rattle.lease_terms.specs.declared.protocols.Protocol.TheVariants.{Two}
use Rattle.lease_terms.specs.Names.{is_name}
use Rattle.lease_terms.specs.Ranges.{IsClient, IsOrdinal, IsQuantity}
use Rattle.lease_terms.specs.Requests.{RequestId, IsRequestId}
use Rattle.lease_proto.specs.declared.faults.LineFault.{LineFault}
use Rattle.lease_proto.specs.declared.faults.LineFault.TheVariants as faults
use Rattle.lease_proto.specs.declared.faults.ErrorWord.{ErrorWord}
use Rattle.lease_proto.specs.declared.faults.ErrorWord.TheVariants as errors
use Rattle.lease_proto.specs.declared.replies.Welcome.{Welcome}
use Rattle.lease_proto.specs.declared.replies.Granted.{Granted}
use Rattle.lease_proto.specs.declared.replies.RefusedRequest.{RefusedRequest}
use Rattle.lease_proto.specs.declared.replies.Old.{Old}
use Rattle.lease_proto.specs.declared.replies.OutOfTurn.{OutOfTurn}
use Rattle.lease_proto.specs.declared.replies.Again.{Again}
use Rattle.lease_proto.specs.declared.limits.TheConstants.{LONGEST_LINE}
use Rattle.lease_proto.specs.Words.{number_in, is_sentence, parts_of}
use Rattle.lease_proto.specs.Values.{◌>>=◌, words_of, number_within, client_in, ordinal_in, quantity_in, id_in, name_in}
use Rattle.lease_proto.specs.Grammar.{word_at, end_at, id_at, protocol_in}
use Rattle.lease_proto.specs.Texts.{id_words, protocol_words, sentence}
use Rattle.lease_proto.specs.Faults.{error_word_in, error_word}
use Rattle.lease_proto.specs.Replies.{welcome_in, granted_in, released_in, refused_in, old_in, out_of_turn_in, again_in, error_in, refusal_in, refusal_word, welcome_words, granted_words, refused_words, old_words, out_of_turn_words, again_words, IsOutOfTurn}
use Rattle.std.specs.Str.{bytes_eq}
use Rattle.std.specs.List.{join_with_byte}
use Rattle.std.proofs.lemmas.List.{append-nil}
use Rattle.std.proofs.lemmas.List.Splits.{join_with_byte-slice_split}
use Rattle.std.proofs.lemmas.Slice.Eq.{bytes_eq-Decides}
use Rattle.lease_proto.proofs.WordLemmas.{numbers}

-- a step that went well, and the next one
pub step : {A B : Type 0} (r : Result A LineFault) (f : A → Result B LineFault) (b : B) → (r >>= f) ≡ Ok b → (a : A) × (r ≡ Ok a) × (f a ≡ Ok b)
step (Ok a) f b e = (a, refl, e)
step (Err fault) f b e = absurd (cc)

pub number_within_says : (low high : ℕ) (o : Option ℕ) (n : ℕ) → number_within low high o ≡ Ok n → (o ≡ Some n) × (low ≤ n) × (n ≤ high)
number_within_says low high None n e = absurd (cc)
number_within_says low high (Some m) n e = elim (cases_Bool (nat_le low m && nat_le m high)) [
  | inl fits ↦
      let found : Ok m ≡ Ok n = rw fits at e in
      let is : m ≡ n = cc in
      let parts = and_parts (nat_le low m) (nat_le m high) fits in
      (ap Some is, subst (λ k. low ≤ k) is (leb-true _ _ parts.0), subst (λ k. k ≤ high) is (leb-true _ _ parts.1))
  | inr over ↦ let none : Err faults.Number ≡ Ok n = rw over at e in absurd (cc)
]

pub client_says : (word : List ℕ) (n : ℕ) → client_in word ≡ Ok n → (word ≡ decimal n) × IsClient n
client_says word n e = let said = number_within_says 1 LAST_CLIENT (number_in word) n e in (((numbers word n).0 said.0).0, (said.1, said.2))

pub ordinal_says : (word : List ℕ) (n : ℕ) → ordinal_in word ≡ Ok n → (word ≡ decimal n) × IsOrdinal n
ordinal_says word n e = let said = number_within_says 1 LARGEST (number_in word) n e in (((numbers word n).0 said.0).0, (said.1, said.2))

pub quantity_says : (word : List ℕ) (n : ℕ) → quantity_in word ≡ Ok n → (word ≡ decimal n) × IsQuantity n
quantity_says word n e = let said = number_within_says 0 LARGEST (number_in word) n e in (((numbers word n).0 said.0).0, said.2)

pub name_says : (word name : List ℕ) → name_in word ≡ Ok name → (word ≡ name) × (is_name name ≡ true)
name_says word name e = elim (cases_Bool (is_name word)) [
  | inl fits ↦ let found : Ok word ≡ Ok name = rw fits at e in let is : word ≡ name = cc in (is, ap is_name (sym is) ∙ fits)
  | inr other ↦ let none : Err faults.BadLine ≡ Ok name = rw other at e in absurd (cc)
]

-- a word that a test tells from others
pub told : {X : Type 0} (word key : List ℕ) (a b v : X) → cond (bytes_eq word key) a b ≡ v → ((word ≡ key) × (a ≡ v)) ⊎ (b ≡ v)
told word key a b v e = elim (cases_Bool (bytes_eq word key)) [
  | inl same ↦ inl ((bytes_eq-Decides word key).0 same, rw same at e)
  | inr other ↦ inr (rw other at e)
]

-- the same, of a list of words that stand for values
pub named : {X : Type 0} (text : X → List ℕ) (word : List ℕ) (x : X) (rest : Result X LineFault) (v : X)
    → cond (bytes_eq word (text x)) (Ok x) rest ≡ Ok v → (word ≡ text v) ⊎ (rest ≡ Ok v)
named text word x rest v e = elim (told word (text x) (Ok x) rest (Ok v) e) [
  | inl p ↦ let found = p.1 in let is : x ≡ v = cc in inl (p.0 ∙ ap text is)
  | inr other ↦ inr other
]

pub refusal_says : (word : List ℕ) (r : Refusal) → refusal_in word ≡ Ok r → word ≡ refusal_word r
refusal_says word r e = elim (named refusal_word word NoFit _ r e) [
  | inl is ↦ is
  | inr e1 ↦ elim (named refusal_word word BadRequest _ r e1) [
    | inl is ↦ is
    | inr e2 ↦ elim (named refusal_word word NoArena _ r e2) [
      | inl is ↦ is
      | inr e3 ↦ elim (named refusal_word word NotYours _ r e3) [
        | inl is ↦ is
        | inr e4 ↦ elim (named refusal_word word Leases _ r e4) [ inl is ↦ is | inr none ↦ absurd (cc) ]
      ]
    ]
  ]
]

pub error_word_says : (word : List ℕ) (r : ErrorWord) → error_word_in word ≡ Ok r → word ≡ error_word r
error_word_says word r e = elim (named error_word word (errors.Line faults.TooLong) _ r e) [
  | inl is ↦ is
  | inr e1 ↦ elim (named error_word word (errors.Line faults.BadLine) _ r e1) [
    | inl is ↦ is
    | inr e2 ↦ elim (named error_word word (errors.Line faults.Word) _ r e2) [
      | inl is ↦ is
      | inr e3 ↦ elim (named error_word word (errors.Line faults.Number) _ r e3) [
        | inl is ↦ is
        | inr e4 ↦ elim (named error_word word errors.Memory _ r e4) [
          | inl is ↦ is
          | inr e5 ↦ elim (named error_word word errors.NoArena _ r e5) [
            | inl is ↦ is
            | inr e6 ↦ elim (named error_word word errors.Size _ r e6) [
              | inl is ↦ is
              | inr e7 ↦ elim (named error_word word errors.Range _ r e7) [
                | inl is ↦ is
                | inr e8 ↦ elim (named error_word word errors.Many _ r e8) [
                  | inl is ↦ is
                  | inr e9 ↦ elim (named error_word word errors.Misplaced _ r e9) [
                    | inl is ↦ is
                    | inr e10 ↦ elim (named error_word word errors.Busy _ r e10) [
                      | inl is ↦ is
                      | inr none ↦ absurd (cc)
                    ]
                  ]
                ]
              ]
            ]
          ]
        ]
      ]
    ]
  ]
]

-- a word is there, and so on
pub word_step : {B P : Type 0} (words : List (List ℕ)) (f : List ℕ × List (List ℕ) → Result B LineFault) (b : B) → (word_at words >>= f) ≡ Ok b
    → ((word : List ℕ) (rest : List (List ℕ)) → words ≡ word ∷ rest → f (word, rest) ≡ Ok b → P) → P
word_step [] f b e k = absurd (cc)
word_step (word ∷ rest) f b e k = k word rest refl e

-- no word is left, and so on
pub end_step : {B P : Type 0} (words : List (List ℕ)) (f : Unit {0} → Result B LineFault) (b : B) → (end_at words >>= f) ≡ Ok b
    → (words ≡ [] → f tt ≡ Ok b → P) → P
end_step [] f b e k = k refl e
end_step (word ∷ rest) f b e k = absurd (cc)

pub client_step : {B P : Type 0} (word : List ℕ) (f : ℕ → Result B LineFault) (b : B) → (client_in word >>= f) ≡ Ok b
    → ((n : ℕ) → word ≡ decimal n → IsClient n → f n ≡ Ok b → P) → P
client_step word f b e k = let (n, is, next) = step (client_in word) f b e in let said = client_says word n is in k n said.0 said.1 next

pub ordinal_step : {B P : Type 0} (word : List ℕ) (f : ℕ → Result B LineFault) (b : B) → (ordinal_in word >>= f) ≡ Ok b
    → ((n : ℕ) → word ≡ decimal n → IsOrdinal n → f n ≡ Ok b → P) → P
ordinal_step word f b e k = let (n, is, next) = step (ordinal_in word) f b e in let said = ordinal_says word n is in k n said.0 said.1 next

pub quantity_step : {B P : Type 0} (word : List ℕ) (f : ℕ → Result B LineFault) (b : B) → (quantity_in word >>= f) ≡ Ok b
    → ((n : ℕ) → word ≡ decimal n → IsQuantity n → f n ≡ Ok b → P) → P
quantity_step word f b e k = let (n, is, next) = step (quantity_in word) f b e in let said = quantity_says word n is in k n said.0 said.1 next

pub name_step : {B P : Type 0} (word : List ℕ) (f : List ℕ → Result B LineFault) (b : B) → (name_in word >>= f) ≡ Ok b
    → ((name : List ℕ) → word ≡ name → is_name name ≡ true → f name ≡ Ok b → P) → P
name_step word f b e k = let (name, is, next) = step (name_in word) f b e in let said = name_says word name is in k name said.0 said.1 next

refusal_step : {B P : Type 0} (word : List ℕ) (f : Refusal → Result B LineFault) (b : B) → (refusal_in word >>= f) ≡ Ok b
    → ((r : Refusal) → word ≡ refusal_word r → f r ≡ Ok b → P) → P
refusal_step word f b e k = let (r, is, next) = step (refusal_in word) f b e in k r (refusal_says word r is) next

error_step : {B P : Type 0} (word : List ℕ) (f : ErrorWord → Result B LineFault) (b : B) → (error_word_in word >>= f) ≡ Ok b
    → ((r : ErrorWord) → word ≡ error_word r → f r ≡ Ok b → P) → P
error_step word f b e k = let (r, is, next) = step (error_word_in word) f b e in k r (error_word_says word r is) next

-- what a protocol that was read says of its words
protocol_says : (words : List (List ℕ)) (p : Protocol) → protocol_in words ≡ Ok p → words ≡ protocol_words p
protocol_says [] p e = let is : [] ≡ protocol_words p = cc in is
protocol_says (word ∷ []) p e = elim (told word (codes "2") (Ok Two) (Err faults.Number) (Ok p) e) [
  | inl said ↦ let word_is = said.0 in let is = said.1 in let two : Two ≡ p = cc in
      ap (λ w. w ∷ []) word_is ∙ ap protocol_words two
  | inr none ↦ absurd (cc)
]
protocol_says (word ∷ more ∷ words) p e = absurd (cc)

pub protocol_step : {B P : Type 0} (words : List (List ℕ)) (f : Protocol → Result B LineFault) (b : B) → (protocol_in words >>= f) ≡ Ok b
    → ((p : Protocol) → words ≡ protocol_words p → f p ≡ Ok b → P) → P
protocol_step words f b e k = let (p, is, next) = step (protocol_in words) f b e in k p (protocol_says words p is) next

-- the words of an id are there, and so on
pub id_at_step : {B P : Type 0} (words : List (List ℕ))
    (f : (List ℕ × List ℕ × List ℕ) × List (List ℕ) → Result B LineFault) (b : B) → (id_at words >>= f) ≡ Ok b
    → ((c i n : List ℕ) (rest : List (List ℕ)) → words ≡ c ∷ i ∷ n ∷ rest → f ((c, i, n), rest) ≡ Ok b → P) → P
unfolding id_at
id_at_step [] f b e k = absurd (cc)
id_at_step (c ∷ []) f b e k = absurd (cc)
id_at_step (c ∷ i ∷ []) f b e k = absurd (cc)
id_at_step (c ∷ i ∷ n ∷ rest) f b e k = k c i n rest refl e

-- what an id that was read says of its words
abbrev pub IdSays : List ℕ → List ℕ → List ℕ → RequestId → Type 0
IdSays c i n id = IsRequestId id × (c ≡ decimal id.client) × (i ≡ decimal id.incarnation) × (n ≡ decimal id.number)

pub id_says : (wc wi wn : List ℕ) (id : RequestId) → id_in (wc, wi, wn) ≡ Ok id → IdSays wc wi wn id
unfolding id_in
id_says wc wi wn id e =
    client_step wc _ id e (λ c c_word c_in e1.
    ordinal_step wi _ id e1 (λ i i_word i_in e2.
    ordinal_step wn _ id e2 (λ n n_word n_in e3.
    let id_is : record { client = c; incarnation = i; number = n } ≡ id = cc in
    subst (IdSays wc wi wn) id_is (record { client = c_in; incarnation = i_in; number = n_in }, c_word, i_word, n_word))))

pub id_step : {B P : Type 0} (wc wi wn : List ℕ) (f : RequestId → Result B LineFault) (b : B) → (id_in (wc, wi, wn) >>= f) ≡ Ok b
    → ((id : RequestId) → IsRequestId id → wc ≡ decimal id.client → wi ≡ decimal id.incarnation
    → wn ≡ decimal id.number → f id ≡ Ok b → P) → P
id_step wc wi wn f b e k =
    let (id, is, next) = step (id_in (wc, wi, wn)) f b e in
    let said = id_says wc wi wn id is in k id said.0 said.1 said.2 said.3 next

pub error_says : (words : List (List ℕ)) (read : ErrorWord) → error_in words ≡ Ok read → words ≡ error_word read ∷ []
unfolding error_in
error_says words read e =
    word_step words _ read e (λ word w1 word_is e1.
    error_step word _ read e1 (λ error error_is e2.
    end_step w1 _ read e2 (λ end_is e3.
    let read_is : error ≡ read = cc in
    subst (λ (r : ErrorWord). words ≡ error_word r ∷ []) read_is (cc))))

-- words with one space between them
pub join_with_byte-sentence : (first : List ℕ) (words : List (List ℕ)) → join_with_byte 32 (first ∷ words) ≡ sentence first words
join_with_byte-sentence first [] = sym (append-nil first)
join_with_byte-sentence first (word ∷ words) = ap (λ t. first ++ (32 ∷ t)) (join_with_byte-sentence word words)

pub words_says : (bytes : List ℕ) (words : List (List ℕ)) → words_of bytes ≡ Ok words → bytes ≡ join_with_byte 32 words
words_says bytes words e = elim (cases_Bool (nat_lt LONGEST_LINE (length bytes))) [
  | inl long ↦ let bad : Err faults.TooLong ≡ Ok words = rw long at e in absurd (cc)
  | inr short ↦
      let e1 : cond (is_sentence bytes) (Ok (parts_of bytes)) (Err faults.BadLine) ≡ Ok words = rw short at e in
      elim (cases_Bool (is_sentence bytes)) [
        | inl good ↦
            let found : Ok (parts_of bytes) ≡ Ok words = rw good at e1 in
            let are : parts_of bytes ≡ words = cc in
            sym (join_with_byte-slice_split 32 bytes) ∙ ap (join_with_byte 32) are
        | inr other ↦ let bad : Err faults.BadLine ≡ Ok words = rw other at e1 in absurd (cc)
      ]
]

-- the bytes are words, and so on
pub words_step : {B P : Type 0} (bytes : List ℕ) (f : List (List ℕ) → Result B LineFault) (b : B) → (words_of bytes >>= f) ≡ Ok b
    → ((words : List (List ℕ)) → bytes ≡ join_with_byte 32 words → f words ≡ Ok b → P) → P
words_step bytes f b e k = let (words, is, next) = step (words_of bytes) f b e in k words (words_says bytes words is) next

pub welcome_says : (words : List (List ℕ)) (read : Welcome) → welcome_in words ≡ Ok read → (IsClient read.client × IsOrdinal read.incarnation) × (words ≡ welcome_words read)
unfolding welcome_in
welcome_says words read e =
    word_step words _ read e (λ client w1 client_is e1.
    word_step w1 _ read e1 (λ incarnation w2 incarnation_is e2.
    protocol_step w2 _ read e2 (λ p p_words e3.
    client_step client _ read e3 (λ c c_word c_in e4.
    ordinal_step incarnation _ read e4 (λ i i_word i_in e5.
    let read_is : record { client = c; incarnation = i; protocol = p } ≡ read = cc in
    subst (λ (r : Welcome). (IsClient r.client × IsOrdinal r.incarnation) × (words ≡ welcome_words r)) read_is ((c_in, i_in), cc))))))

pub granted_says : (words : List (List ℕ)) (read : Granted) → granted_in words ≡ Ok read
    → (IsRequestId read.id × (is_name read.arena ≡ true) × IsQuantity read.base × IsQuantity read.len) × (words ≡ granted_words read)
unfolding granted_in
granted_says words read e =
    id_at_step words _ read e (λ wc wi wn w1 words_are e1.
    word_step w1 _ read e1 (λ name w2 name_is e2.
    name_step name _ read e2 (λ arena arena_word arena_in e3.
    word_step w2 _ read e3 (λ base w3 base_is e4.
    word_step w3 _ read e4 (λ len w4 len_is e5.
    end_step w4 _ read e5 (λ end_is e6.
    id_step wc wi wn _ read e6 (λ id is c_word i_word n_word e7.
    quantity_step base _ read e7 (λ b b_word b_in e8.
    quantity_step len _ read e8 (λ l l_word l_in e9.
    let read_is : record { id = id; arena = arena; base = b; len = l } ≡ read = cc in
    subst (λ (r : Granted). (IsRequestId r.id × (is_name r.arena ≡ true) × IsQuantity r.base × IsQuantity r.len) × (words ≡ granted_words r))
    read_is ((is, arena_in, b_in, l_in), cc))))))))))

pub released_says : (words : List (List ℕ)) (read : RequestId) → released_in words ≡ Ok read → IsRequestId read × (words ≡ id_words read)
unfolding released_in
released_says words read e =
    id_at_step words _ read e (λ wc wi wn w1 words_are e1.
    end_step w1 _ read e1 (λ end_is e2.
    let said = id_says wc wi wn read e2 in
    let c_word = said.1 in
    let i_word = said.2 in
    let n_word = said.3 in
    (said.0, cc)))

pub refused_says : (words : List (List ℕ)) (read : RefusedRequest) → refused_in words ≡ Ok read → IsRequestId read.id × (words ≡ refused_words read)
unfolding refused_in
refused_says words read e =
    id_at_step words _ read e (λ wc wi wn w1 words_are e1.
    word_step w1 _ read e1 (λ word w2 word_is e2.
    refusal_step word _ read e2 (λ refusal refusal_word_is e3.
    end_step w2 _ read e3 (λ end_is e4.
    id_step wc wi wn _ read e4 (λ id is c_word i_word n_word e5.
    let read_is : record { id = id; refusal = refusal } ≡ read = cc in
    subst (λ (r : RefusedRequest). IsRequestId r.id × (words ≡ refused_words r)) read_is (is, cc))))))

pub old_says : (words : List (List ℕ)) (read : Old) → old_in words ≡ Ok read → (IsClient read.client × IsQuantity read.current) × (words ≡ old_words read)
unfolding old_in
old_says words read e =
    word_step words _ read e (λ client w1 client_is e1.
    word_step w1 _ read e1 (λ current w2 current_is e2.
    end_step w2 _ read e2 (λ end_is e3.
    client_step client _ read e3 (λ c c_word c_in e4.
    quantity_step current _ read e4 (λ v v_word v_in e5.
    let read_is : record { client = c; current = v } ≡ read = cc in
    subst (λ (r : Old). (IsClient r.client × IsQuantity r.current) × (words ≡ old_words r)) read_is ((c_in, v_in), cc))))))

pub out_of_turn_says : (words : List (List ℕ)) (read : OutOfTurn) → out_of_turn_in words ≡ Ok read → IsOutOfTurn read × (words ≡ out_of_turn_words read)
unfolding out_of_turn_in
out_of_turn_says words read e =
    id_at_step words _ read e (λ wc wi wn w1 words_are e1.
    word_step w1 _ read e1 (λ last w2 last_is e2.
    end_step w2 _ read e2 (λ end_is e3.
    id_step wc wi wn _ read e3 (λ id is c_word i_word n_word e4.
    quantity_step last _ read e4 (λ v v_word v_in e5.
    let read_is : record { id = id; last = v } ≡ read = cc in
    subst (λ (r : OutOfTurn). IsOutOfTurn r × (words ≡ out_of_turn_words r)) read_is ((is, v_in), cc))))))

pub again_says : (words : List (List ℕ)) (read : Again) → again_in words ≡ Ok read → (IsClient read.client × IsOrdinal read.incarnation × IsQuantity read.number) × (words ≡ again_words read)
unfolding again_in
again_says words read e =
    word_step words _ read e (λ client w1 client_is e1.
    word_step w1 _ read e1 (λ incarnation w2 incarnation_is e2.
    word_step w2 _ read e2 (λ number w3 number_is e3.
    end_step w3 _ read e3 (λ end_is e4.
    client_step client _ read e4 (λ c c_word c_in e5.
    ordinal_step incarnation _ read e5 (λ i i_word i_in e6.
    quantity_step number _ read e6 (λ n n_word n_in e7.
    let read_is : record { client = c; incarnation = i; number = n } ≡ read = cc in
    subst (λ (r : Again). (IsClient r.client × IsOrdinal r.incarnation × IsQuantity r.number) × (words ≡ again_words r)) read_is ((c_in, i_in, n_in), cc))))))))
