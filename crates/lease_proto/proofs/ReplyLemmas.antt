-- What is written of a reply is read again.
use Rattle.std.proofs.Common.{◌≡◌, ℕ, ◌≤◌, true, if◌then◌else◌, List, [], ◌∷◌, length, decimal, Result, Ok, Err, refl, ◌∙◌, ap, subst, arith, inl, inr, codes, lit≤}
use Rattle.std.proofs.lemmas.List.{length-append}
use Rattle.std.proofs.lemmas.Bool.{le-ltb, and_parts, and_from}
use Rattle.std.specs.List.{list_all}
use Rattle.lease_terms.specs.declared.refusals.Refusal.{Refusal}
use Rattle.lease_terms.specs.declared.refusals.Refusal.TheVariants.{NoFit, BadRequest, NoArena, NotYours, Leases}
use Rattle.lease_terms.specs.Names.{is_word}
use Rattle.lease_proto.specs.declared.faults.LineFault.{LineFault}
use Rattle.lease_proto.specs.declared.faults.LineFault.TheVariants as faults
use Rattle.lease_proto.specs.declared.faults.ErrorWord.{ErrorWord}
use Rattle.lease_proto.specs.declared.faults.ErrorWord.TheVariants as errors
use Rattle.lease_proto.specs.declared.replies.Reply.{Reply}
use Rattle.lease_proto.specs.declared.replies.Reply.TheVariants.{Welcome, Granted, Released, Refused, Old, Stale, Gap, Again, Error}
use Rattle.lease_proto.specs.declared.replies.OutOfTurn.{OutOfTurn}
use Rattle.lease_proto.specs.Faults.{error_word_in, error_word}
use Rattle.lease_proto.specs.declared.limits.TheConstants.{LONGEST_LINE}
use Rattle.lease_proto.specs.Words.{is_sentence}
use Rattle.lease_proto.specs.Grammar.{id_at}
use Rattle.lease_proto.specs.Texts.{sentence}
use Rattle.lease_proto.specs.Replies.{reply_of, reply_in, welcome_in, granted_in, released_in, refused_in, old_in, out_of_turn_in, again_in, error_in, refusal_in, refusal_word, first_reply_word, reply_words, out_of_turn_words, reply_text, IsReply, IsOutOfTurn, RepliesAreTexts, WrittenReplyIsWhole}
use Rattle.std.specs.Str.{bytes_eq}
use Rattle.std.specs.List.{join_with_byte}
use Rattle.lease_proto.specs.Values.{◌>>=◌, words_of}
use Rattle.lease_proto.proofs.FramedLemmas.{words_are_whole}
use Rattle.lease_proto.proofs.ReadLemmas.{step, told, words_step, join_with_byte-sentence, welcome_says, granted_says, released_says, refused_says, old_says, out_of_turn_says, again_says, error_says}
use Rattle.lease_proto.proofs.GrammarLemmas.{client_again, ordinal_again, quantity_again, id_again, protocol_again, protocol_is_word, protocol_short, id_are_words, id_short, decimal_word, decimal_short, name_short, parts_of-sentence}

refusal_again : (refusal : Refusal) → refusal_in (refusal_word refusal) ≡ Ok refusal
refusal_again NoFit = refl
refusal_again BadRequest = refl
refusal_again NoArena = refl
refusal_again NotYours = refl
refusal_again Leases = refl

refusal_is_word : (refusal : Refusal) → is_word (refusal_word refusal) ≡ true
refusal_is_word NoFit = refl
refusal_is_word BadRequest = refl
refusal_is_word NoArena = refl
refusal_is_word NotYours = refl
refusal_is_word Leases = refl

refusal_short : (refusal : Refusal) → length (refusal_word refusal) ≤ 10
refusal_short NoFit = lit≤ tt
refusal_short BadRequest = lit≤ tt
refusal_short NoArena = lit≤ tt
refusal_short NotYours = lit≤ tt
refusal_short Leases = lit≤ tt

error_again : (error : ErrorWord) → error_word_in (error_word error) ≡ Ok error
error_again (errors.Line faults.TooLong) = refl
error_again (errors.Line faults.BadLine) = refl
error_again (errors.Line faults.Word) = refl
error_again (errors.Line faults.Number) = refl
error_again errors.Memory = refl
error_again errors.NoArena = refl
error_again errors.Size = refl
error_again errors.Range = refl
error_again errors.Many = refl
error_again errors.Misplaced = refl
error_again errors.Busy = refl

error_is_word : (error : ErrorWord) → is_word (error_word error) ≡ true
error_is_word (errors.Line faults.TooLong) = refl
error_is_word (errors.Line faults.BadLine) = refl
error_is_word (errors.Line faults.Word) = refl
error_is_word (errors.Line faults.Number) = refl
error_is_word errors.Memory = refl
error_is_word errors.NoArena = refl
error_is_word errors.Size = refl
error_is_word errors.Range = refl
error_is_word errors.Many = refl
error_is_word errors.Misplaced = refl
error_is_word errors.Busy = refl

pub error_short : (error : ErrorWord) → length (error_word error) ≤ 9
error_short (errors.Line faults.TooLong) = lit≤ tt
error_short (errors.Line faults.BadLine) = lit≤ tt
error_short (errors.Line faults.Word) = lit≤ tt
error_short (errors.Line faults.Number) = lit≤ tt
error_short errors.Memory = lit≤ tt
error_short errors.NoArena = lit≤ tt
error_short errors.Size = lit≤ tt
error_short errors.Range = lit≤ tt
error_short errors.Many = lit≤ tt
error_short errors.Misplaced = lit≤ tt
error_short errors.Busy = lit≤ tt

words_again : (reply : Reply) → IsReply reply → reply_in (first_reply_word reply ∷ reply_words reply) ≡ Ok reply
unfolding reply_in id_at welcome_in granted_in released_in refused_in old_in out_of_turn_in again_in error_in
words_again (Welcome w) is = rw (client_again w.client is.0.0 is.0.1, ordinal_again w.incarnation is.1.0 is.1.1, protocol_again w.protocol) refl
words_again (Granted g) is = rw (is.1, id_again g.id is.0, quantity_again g.base is.2, quantity_again g.len is.3) refl
words_again (Released id) is = rw (id_again id is) refl
words_again (Refused r) is = rw (refusal_again r.refusal, id_again r.id is) refl
words_again (Old o) is = rw (client_again o.client is.0.0 is.0.1, quantity_again o.current is.1) refl
words_again (Stale s) is = rw (id_again s.id is.0, quantity_again s.last is.1) refl
words_again (Gap g) is = rw (id_again g.id is.0, quantity_again g.last is.1) refl
words_again (Again a) is = rw (client_again a.client is.0.0 is.0.1, ordinal_again a.incarnation is.1.0 is.1.1, quantity_again a.number is.2) refl
words_again (Error error) is = rw (error_again error) refl

out_of_turn_are_words : (r : OutOfTurn) → IsOutOfTurn r → list_all is_word (out_of_turn_words r) ≡ true
out_of_turn_are_words r is = id_are_words r.id (decimal r.last ∷ []) is.0 (rw (decimal_word r.last is.1) refl)

are_words : (reply : Reply) → IsReply reply → list_all is_word (reply_words reply) ≡ true
are_words (Welcome w) is = rw (decimal_word w.client (omega arith), decimal_word w.incarnation is.1.1) (protocol_is_word w.protocol)
are_words (Granted g) is =
    let name = and_parts (is_word g.arena) _ is.1 in
    id_are_words g.id (g.arena ∷ decimal g.base ∷ decimal g.len ∷ []) is.0
    (rw (name.0, decimal_word g.base is.2, decimal_word g.len is.3) refl)
are_words (Released id) is = id_are_words id [] is refl
are_words (Refused r) is = id_are_words r.id (refusal_word r.refusal ∷ []) is (rw (refusal_is_word r.refusal) refl)
are_words (Old o) is = rw (decimal_word o.client (omega arith), decimal_word o.current is.1) refl
are_words (Stale s) is = out_of_turn_are_words s is
are_words (Gap g) is = out_of_turn_are_words g is
are_words (Again a) is = rw (decimal_word a.client (omega arith), decimal_word a.incarnation is.1.1, decimal_word a.number is.2) refl
are_words (Error error) is = rw (error_is_word error) refl

out_of_turn_short : (first : List ℕ) (r : OutOfTurn) → length first ≤ 10 → IsOutOfTurn r → length (sentence first (out_of_turn_words r)) ≤ LONGEST_LINE
out_of_turn_short first r key is =
    let id = id_short r.id is.0 in
    let v = decimal_short 19 r.last (omega arith) (omega arith) is.1 in
    simp length-append (omega arith)

short : (reply : Reply) → IsReply reply → length (reply_text reply) ≤ LONGEST_LINE
short (Welcome w) is =
    let c = decimal_short 19 w.client (omega arith) (omega arith) (omega arith) in
    let i = decimal_short 19 w.incarnation (omega arith) (omega arith) is.1.1 in
    let p = protocol_short w.protocol in
    simp length-append (omega arith)
short (Granted g) is =
    let id = id_short g.id is.0 in
    let a = name_short g.arena is.1 in
    let b = decimal_short 19 g.base (omega arith) (omega arith) is.2 in
    let l = decimal_short 19 g.len (omega arith) (omega arith) is.3 in
    simp length-append (omega arith)
short (Released id) is =
    let i = id_short id is in
    simp length-append (omega arith)
short (Refused r) is =
    let id = id_short r.id is in
    let w = refusal_short r.refusal in
    simp length-append (omega arith)
short (Old o) is =
    let c = decimal_short 19 o.client (omega arith) (omega arith) (omega arith) in
    let v = decimal_short 19 o.current (omega arith) (omega arith) is.1 in
    simp length-append (omega arith)
short (Stale s) is = out_of_turn_short (codes "stale") s (lit≤ tt) is
short (Gap g) is = out_of_turn_short (codes "gap") g (lit≤ tt) is
short (Again a) is =
    let c = decimal_short 19 a.client (omega arith) (omega arith) (omega arith) in
    let i = decimal_short 19 a.incarnation (omega arith) (omega arith) is.1.1 in
    let n = decimal_short 19 a.number (omega arith) (omega arith) is.2 in
    simp length-append (omega arith)
short (Error error) is =
    let w = error_short error in
    simp length-append (omega arith)

first_is_word : (reply : Reply) → is_word (first_reply_word reply) ≡ true
first_is_word (Welcome w) = refl
first_is_word (Granted g) = refl
first_is_word (Released r) = refl
first_is_word (Refused r) = refl
first_is_word (Old o) = refl
first_is_word (Stale s) = refl
first_is_word (Gap g) = refl
first_is_word (Again a) = refl
first_is_word (Error error) = refl

-- the texts of replies are read as these replies
text_is_read : (reply : Reply) → IsReply reply → reply_of (reply_text reply) ≡ Ok reply
unfolding reply_of
text_is_read reply is =
    let parts = parts_of-sentence (first_reply_word reply) (reply_words reply) (first_is_word reply) (are_words reply is) in
    let words : is_sentence (reply_text reply) ≡ true = ap (list_all is_word) parts ∙ and_from (is_word (first_reply_word reply)) _ (first_is_word reply) (are_words reply is) in
    rw (le-ltb LONGEST_LINE (length (reply_text reply)) (short reply is), words, parts) (words_again reply is)

-- what the words of a reply say of it
abbrev Says : List ℕ → List (List ℕ) → Reply → Type 0
Says first words reply = IsReply reply × (first ∷ words ≡ first_reply_word reply ∷ reply_words reply)

-- one kind of reply was read
kind : {A : Type 0} (make : A → Reply) (read : Result A LineFault) (first : List ℕ) (words : List (List ℕ)) (reply : Reply)
    → ((r : A) → read ≡ Ok r → Says first words (make r)) → (read >>= λ r. Ok (make r)) ≡ Ok reply → Says first words reply
kind make read first words reply says e =
    let (r, is, made) = step read (λ r. Ok (make r)) reply e in
    let same : make r ≡ reply = cc in
    subst (Says first words) same (says r is)

both : {first key : List ℕ} {words others : List (List ℕ)} → first ≡ key → words ≡ others → first ∷ words ≡ key ∷ others
both is are = cc

-- the replies that aren't kept
abbrev other_reply : List ℕ → List (List ℕ) → Result Reply LineFault
other_reply first words =
    if bytes_eq first (codes "old") then (old_in words >>= λ r. Ok (Old r))
    else if bytes_eq first (codes "stale") then (out_of_turn_in words >>= λ r. Ok (Stale r))
    else if bytes_eq first (codes "gap") then (out_of_turn_in words >>= λ r. Ok (Gap r))
    else if bytes_eq first (codes "again") then (again_in words >>= λ r. Ok (Again r))
    else if bytes_eq first (codes "error") then (error_in words >>= λ r. Ok (Error r))
    else Err faults.Word

other_words_say : (first : List ℕ) (words : List (List ℕ)) (reply : Reply) → other_reply first words ≡ Ok reply → Says first words reply
other_words_say first words reply e = elim (told first (codes "old") _ _ _ e) [
  | inl p ↦ kind Old (old_in words) first words reply (λ r is. let said = old_says words r is in (said.0, both p.0 said.1)) p.1
  | inr e1 ↦ elim (told first (codes "stale") _ _ _ e1) [
    | inl p ↦ kind Stale (out_of_turn_in words) first words reply (λ r is. let said = out_of_turn_says words r is in (said.0, both p.0 said.1)) p.1
    | inr e2 ↦ elim (told first (codes "gap") _ _ _ e2) [
      | inl p ↦ kind Gap (out_of_turn_in words) first words reply (λ r is. let said = out_of_turn_says words r is in (said.0, both p.0 said.1)) p.1
      | inr e3 ↦ elim (told first (codes "again") _ _ _ e3) [
        | inl p ↦ kind Again (again_in words) first words reply (λ r is. let said = again_says words r is in (said.0, both p.0 said.1)) p.1
        | inr e4 ↦ elim (told first (codes "error") _ _ _ e4) [
          | inl p ↦ kind Error (error_in words) first words reply (λ r is. (tt, both p.0 (error_says words r is))) p.1
          | inr none ↦ absurd (cc)
        ]
      ]
    ]
  ]
]

words_say : (words : List (List ℕ)) (reply : Reply) → reply_in words ≡ Ok reply
    → IsReply reply × (words ≡ first_reply_word reply ∷ reply_words reply)
unfolding reply_in
words_say [] reply e = absurd (cc)
words_say (first ∷ words) reply e = elim (told first (codes "welcome") _ _ _ e) [
  | inl p ↦ kind Welcome (welcome_in words) first words reply (λ r is. let said = welcome_says words r is in (said.0, both p.0 said.1)) p.1
  | inr e1 ↦ elim (told first (codes "granted") _ _ _ e1) [
    | inl p ↦ kind Granted (granted_in words) first words reply (λ r is. let said = granted_says words r is in (said.0, both p.0 said.1)) p.1
    | inr e2 ↦ elim (told first (codes "released") _ _ _ e2) [
      | inl p ↦ kind Released (released_in words) first words reply (λ r is. let said = released_says words r is in (said.0, both p.0 said.1)) p.1
      | inr e3 ↦ elim (told first (codes "refused") _ _ _ e3) [
        | inl p ↦ kind Refused (refused_in words) first words reply (λ r is. let said = refused_says words r is in (said.0, both p.0 said.1)) p.1
        | inr e4 ↦ other_words_say first words reply e4
      ]
    ]
  ]
]

text_says : (bytes : List ℕ) (reply : Reply) → reply_of bytes ≡ Ok reply → IsReply reply × (bytes ≡ reply_text reply)
unfolding reply_of
text_says bytes reply e =
    words_step bytes _ reply e (λ words is next.
    let said = words_say words reply next in
    (said.0, is ∙ ap (join_with_byte 32) said.1 ∙ join_with_byte-sentence (first_reply_word reply) (reply_words reply)))

pub replies_are_texts : RepliesAreTexts
replies_are_texts bytes reply = (text_says bytes reply, λ is. ap reply_of is.1 ∙ text_is_read reply is.0)

pub written_reply_is_whole : WrittenReplyIsWhole
unfolding reply_of
written_reply_is_whole reply is =
    let (words, are, next) = step (words_of (reply_text reply)) reply_in reply (text_is_read reply is) in
    words_are_whole (reply_text reply) words are
