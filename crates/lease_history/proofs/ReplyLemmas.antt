-- What a client gets keeps it known.
use Rattle.std.proofs.Common.{◌≡◌, inl, inr, ℕ, ◌+◌, ◌<◌, ◌≤◌, ◌==◌, ◌&&◌, Bool, true, false, not, cond, List, [], ◌∷◌, ◌++◌, Some, None, sum_by, nat_lt, refl, sym, ap, subst, ◌∙◌, arith}
use Rattle.std.proofs.lemmas.Bool.{false≢true, and_parts, eqb-true, ltb-true, cond-true, cond_both, or_cases, both_ways, false_from_ne_true, not_from_false}
use Rattle.lease_terms.specs.Requests.{RequestId}
use Rattle.lease_terms.specs.declared.protocols.Protocol.{Protocol}
use Rattle.lease_terms.specs.declared.protocols.Protocol.TheVariants.{One, Two}
use Rattle.lease_proto.specs.declared.lines.Line.{Line}
use Rattle.lease_proto.specs.declared.lines.Line.TheVariants as lines
use Rattle.lease_proto.specs.declared.lines.Op.{Op}
use Rattle.lease_proto.specs.declared.lines.Op.TheVariants as ops
use Rattle.lease_proto.specs.declared.replies.Granted.{Granted}
use Rattle.lease_proto.specs.declared.replies.Old.{Old}
use Rattle.lease_proto.specs.declared.replies.Welcome.{Welcome}
use Rattle.lease_proto.specs.declared.replies.Reply.{Reply}
use Rattle.lease_proto.specs.declared.replies.Reply.TheVariants as replies
use Rattle.lease_book.specs.declared.receipts.KeptReply.{KeptReply}
use Rattle.lease_book.specs.declared.receipts.KeptReply.TheVariants as kept
use Rattle.lease_book.specs.Receipts.{Kept}
use Rattle.lease_book.specs.Entry.{Entry, Hello, Settled, Swept}
use Rattle.lease_book.specs.History.{incarnation, first_protocol, outcome_of, leases_of, AreOrderly}
use Rattle.lease_book.proofs.LawProofs.{outcomes_stay}
use Rattle.lease_client.specs.declared.held.HeldSegment.{HeldSegment}
use Rattle.lease_client.specs.Answers.{is_same_request, is_same_protocol, answers, answers_one, unanswered}
use Rattle.lease_client.specs.ClientState.{ClientState, IsSoundClient, is_numbered, line_at, AreOwn}
use Rattle.lease_client.specs.Replies.{is_ahead, accepts, after_accept, after_reply, segment_of}
use Rattle.lease_client.specs.Runs.{Get}
use Rattle.lease_client.proofs.LawProofs.{moves_keep_sound, no_request, answers_none}
use Rattle.lease_history.specs.Known.{weight_told, weight_kept, weight_due, one_ending, ending_at, weight_left, IsKnown}
use Rattle.lease_history.specs.Told.{reply_to, IsOutcome, MayTell}
use Rattle.lease_history.specs.Laws.{RepliesKeepKnown, ToldStaysTold, RepliesAgree}
use Rattle.lease_history.proofs.Sums.{sum_push, sum_le, filter_le, filter_keeps, filter_gives, find_kept}
use Rattle.lease_history.proofs.PlaceLemmas.{settled_ends, left_more}
use Rattle.lease_history.proofs.ProtocolLemmas.{first_stays}

-- What may be told stays so.

incarnation_grows : (c : ℕ) (e : Entry) (es : List Entry) → AreOrderly (e ∷ es) → incarnation c es ≤ incarnation c (e ∷ es)
incarnation_grows c (Hello d i p) es orderly = by (c == d) refl
  where
    by : (b : Bool) → (c == d) ≡ b → incarnation c es ≤ cond b i (incarnation c es)
    by true is =
        let same : incarnation c es ≡ incarnation d es = ap (λ (n : ℕ). incarnation n es) (eqb-true c d is) in
        omega (arith, orderly.1)
    by false is = omega arith
incarnation_grows c (Settled id s) es orderly = omega arith
incarnation_grows c (Swept d i a b) es orderly = omega arith

outcome_stays : (names : ℕ → List ℕ) (e : Entry) (es : List Entry) (id : RequestId) (reply : Reply) → AreOrderly (e ∷ es)
    → IsOutcome names es id reply → IsOutcome names (e ∷ es) id reply
outcome_stays names e es id reply orderly is = (is.0, outcomes_stay.later (e ∷ []) es id is.0 orderly is.1, is.2)

pub told_stays_told : ToldStaysTold
told_stays_told names e es (replies.Granted g) orderly may = outcome_stays names e es g.id (replies.Granted g) orderly may
told_stays_told names e es (replies.Released id) orderly may = outcome_stays names e es id (replies.Released id) orderly may
told_stays_told names e es (replies.Refused r) orderly may = outcome_stays names e es r.id (replies.Refused r) orderly may
told_stays_told names e es (replies.Old o) orderly may = omega (arith, may, incarnation_grows o.client e es orderly)
told_stays_told names e es (replies.Welcome w) orderly may = first_stays e es w.client w.incarnation w.protocol may
told_stays_told names e es (replies.Stale t) orderly may = tt
told_stays_told names e es (replies.Gap t) orderly may = tt
told_stays_told names e es (replies.Again a) orderly may = tt
told_stays_told names e es (replies.Error x) orderly may = tt

pub replies_agree : RepliesAgree
replies_agree names es id a b one other =
    let same : one.0 ≡ other.0 = (let both : Some one.0 ≡ Some other.0 = sym one.1 ∙ other.1 in cc) in
    one.2 ∙ ap (λ (k : Kept). reply_to names id k.reply) same ∙ sym other.2

-- What is accepted.

sound_accepted : (reply : Reply) (c : ClientState) → IsSoundClient c → accepts reply c ≡ true → IsSoundClient (after_accept reply c)
sound_accepted reply c is accept =
    subst IsSoundClient (cond-true (accepts reply c) (after_accept reply c) c accept) (moves_keep_sound (Get reply) c (after_reply reply c) is refl)

-- a line that is a hello, or a request that was settled
abbrev IsSettled : List Entry → Line → Type 0
IsSettled es (lines.Hello h) = Unit {0}
IsSettled es (lines.Request id op) = (k : Kept) × (outcome_of id es ≡ Some k)

no_end : (es : List Entry) (arena : List ℕ) (base : ℕ) (line : Line) → IsSettled es line → one_ending es arena base line ≡ 0
no_end es arena base (lines.Hello h) is = refl
no_end es arena base (lines.Request id op) is = settled_ends es arena base id op is.0 is.1

-- some settled lines don't wait any more, and what was due for them is held at most
known_ends : (names : ℕ → List ℕ) (es : List Entry) (c : ClientState) (reply : Reply) (opened : Bool) (held : List HeldSegment) → IsKnown names es c
    → IsSoundClient (record c { outstanding = unanswered reply c.outstanding; is_open = opened; held = held })
    → (opened ≡ true → first_protocol c.id c.incarnation es ≡ Some c.protocol)
    → ((line : Line) → answers reply line ≡ true → IsSettled es line)
    → ((f : HeldSegment → ℕ) → sum_by f held + sum_by (weight_due names f es) (unanswered reply c.outstanding)
    ≤ sum_by f c.held + sum_by (weight_due names f es) c.outstanding)
    → IsKnown names es (record c { outstanding = unanswered reply c.outstanding; is_open = opened; held = held })
known_ends names es c reply opened held know sound stands settled le = record {
  sound = sound;
  behind = know.behind;
  before = know.before;
  protocol = stands;
  waits = waits;
  once = know.once;
  ending = λ arena base. omega (arith, know.ending arena base, ends arena base);
  held = λ f. omega (
    arith,
    know.held f,
    le f,
    sum_le (weight_left names c.incarnation es c.outstanding f) (weight_left names c.incarnation es (unanswered reply c.outstanding) f)
        (λ l. left_more names c.incarnation es es c.outstanding (unanswered reply c.outstanding) f f l (omega (arith, ends (names l.segment.arena) l.segment.holding.range.base)) (omega arith)) (leases_of c.id es),
  );
}
  where
    ends : (arena : List ℕ) (base : ℕ) → ending_at es arena base (unanswered reply c.outstanding) ≡ ending_at es arena base c.outstanding
    ends arena base = filter_keeps (one_ending es arena base) (λ line. answers reply line) c.outstanding (λ line is. no_end es arena base line (settled line is))

    waits : (id : RequestId) → id.client ≡ c.id → id.incarnation ≡ c.incarnation → 1 ≤ id.number → id.number < c.next → outcome_of id es ≡ None
        → (op : Op) × (line_at id.number (unanswered reply c.outstanding) ≡ Some (lines.Request id op))
    waits id client inc from below none =
        let at = know.waits id client inc from below none in
        let stays : answers reply (lines.Request id at.0) ≡ false = false_from_ne_true (answers reply (lines.Request id at.0))
        (λ is. let was = settled (lines.Request id at.0) is in let never : None ≡ Some was.0 = sym none ∙ was.1 in cc) in
        (at.0, find_kept (is_numbered id.number) (λ line. not (answers reply line)) c.outstanding (lines.Request id at.0) at.1 (not_from_false (answers reply (lines.Request id at.0)) stays))

same_request : (a b : RequestId) → is_same_request a b ≡ true → a ≡ b
same_request a b is =
    let parts = and_parts (a.client == b.client) ((a.incarnation == b.incarnation) && (a.number == b.number)) is in
    let rest = and_parts (a.incarnation == b.incarnation) (a.number == b.number) parts.1 in
    ap (λ (n : ℕ). record a { client = n }) (eqb-true a.client b.client parts.0)
    ∙ ap (λ (n : ℕ). record a { client = b.client; incarnation = n }) (eqb-true a.incarnation b.incarnation rest.0)
    ∙ ap (λ (n : ℕ). record b { number = n }) (eqb-true a.number b.number rest.1)

told_weight : (names : ℕ → List ℕ) (f : HeldSegment → ℕ) (g : Granted) (r : KeptReply) → replies.Granted g ≡ reply_to names g.id r
    → f (segment_of g) ≡ weight_told names f r
told_weight names f g (kept.Granted arena base len) is =
    let same : g ≡ record { id = g.id; arena = names arena; base = base; len = len } = cc in
    ap (λ (x : Granted). f (segment_of x)) same
told_weight names f g (kept.Released arena base) is = absurd cc
told_weight names f g (kept.Refused why) is = absurd cc

-- the outcome that a reply tells is that of the request that it answers
told_outcome : (names : ℕ → List ℕ) (es : List Entry) (named id : RequestId) (reply : Reply) → is_same_request named id ≡ true
    → (told : IsOutcome names es named reply) → outcome_of id es ≡ Some told.0
told_outcome names es named id reply is told = ap (λ (i : RequestId). outcome_of i es) (sym (same_request named id is)) ∙ told.1

-- a `welcome` that is accepted names the protocol that the client asks for
same_protocol : (p q : Protocol) → is_same_protocol p q ≡ true → p ≡ q
same_protocol One One is = refl
same_protocol Two Two is = refl
same_protocol One Two is = absurd (false≢true is)
same_protocol Two One is = absurd (false≢true is)

welcomed_own : (w : Welcome) (c i : ℕ) (p : Protocol) (next : ℕ) (o : Bool) (ls : List Line) → AreOwn c i p next o ls → answers_one (replies.Welcome w) ls ≡ true
    → w ≡ record { client = c; incarnation = i; protocol = p }
welcomed_own w c i p next o [] own one = absurd (false≢true one)
welcomed_own w c i p next o (lines.Request id op ∷ ls) own one = absurd (both_ways (answers_one (replies.Welcome w) ls) (no_request w c i 1 next (lines.Request id op ∷ ls) own.1) one)
welcomed_own w c i p next o (lines.Hello h ∷ ls) own one =
    let none : answers_one (replies.Welcome w) ls ≡ false = ap (answers_one (replies.Welcome w)) own.5 in
    elim (or_cases (answers (replies.Welcome w) (lines.Hello h)) (answers_one (replies.Welcome w) ls) one) as (λ _. w ≡ record { client = c; incarnation = i; protocol = p }) [
      | inr later ↦ absurd (both_ways (answers_one (replies.Welcome w) ls) none later)
      | inl here ↦ (let parts = and_parts (w.client == h.client) ((w.incarnation == h.incarnation) && is_same_protocol w.protocol h.protocol) here in
          let rest = and_parts (w.incarnation == h.incarnation) (is_same_protocol w.protocol h.protocol) parts.1 in
          ap (λ (n : ℕ). record w { client = n }) (eqb-true w.client h.client parts.0 ∙ own.0)
          ∙ ap (λ (n : ℕ). record w { client = c; incarnation = n }) (eqb-true w.incarnation h.incarnation rest.0 ∙ own.1)
          ∙ ap (λ (q : Protocol). record { client = c; incarnation = i; protocol = q }) (same_protocol w.protocol h.protocol rest.1 ∙ own.6))
    ]

welcomed_so : (es : List Entry) (c : ClientState) (w : Welcome) → IsSoundClient c → first_protocol w.client w.incarnation es ≡ Some w.protocol
    → answers_one (replies.Welcome w) c.outstanding ≡ true → first_protocol c.id c.incarnation es ≡ Some c.protocol
welcomed_so es c w is told one =
    subst (λ (x : Welcome). first_protocol x.client x.incarnation es ≡ Some x.protocol) (welcomed_own w c.id c.incarnation c.protocol c.next c.is_open c.outstanding is.outstanding one) told

-- Which lines each reply ends.

welcome_ends : (es : List Entry) (w : _) (line : Line) → answers (replies.Welcome w) line ≡ true → IsSettled es line
welcome_ends es w (lines.Hello h) is = tt
welcome_ends es w (lines.Request id op) is = absurd (false≢true is)

granted_ends : (names : ℕ → List ℕ) (es : List Entry) (g : Granted) → IsOutcome names es g.id (replies.Granted g) → (line : Line)
    → answers (replies.Granted g) line ≡ true → IsSettled es line
granted_ends names es g told (lines.Hello h) is = tt
granted_ends names es g told (lines.Request id (ops.Lease l)) is = (told.0, told_outcome names es g.id id (replies.Granted g) is told)
granted_ends names es g told (lines.Request id (ops.Release r)) is = absurd (false≢true is)

-- what a grant brings was due
granted_due : (names : ℕ → List ℕ) (es : List Entry) (g : Granted) → IsOutcome names es g.id (replies.Granted g) → (f : HeldSegment → ℕ) (line : Line)
    → answers (replies.Granted g) line ≡ true → weight_due names f es line ≡ f (segment_of g)
granted_due names es g told f (lines.Hello h) is = absurd (false≢true is)
granted_due names es g told f (lines.Request id (ops.Release r)) is = absurd (false≢true is)
granted_due names es g told f (lines.Request id (ops.Lease l)) is =
    ap (weight_kept names f) (told_outcome names es g.id id (replies.Granted g) is told) ∙ sym (told_weight names f g told.0.reply told.2)

released_ends : (names : ℕ → List ℕ) (es : List Entry) (named : RequestId) → IsOutcome names es named (replies.Released named) → (line : Line)
    → answers (replies.Released named) line ≡ true → IsSettled es line
released_ends names es named told (lines.Hello h) is = tt
released_ends names es named told (lines.Request id (ops.Lease l)) is = absurd (false≢true is)
released_ends names es named told (lines.Request id (ops.Release r)) is = (told.0, told_outcome names es named id (replies.Released named) is told)

refused_ends : (names : ℕ → List ℕ) (es : List Entry) (r : _) → IsOutcome names es r.id (replies.Refused r) → (line : Line)
    → answers (replies.Refused r) line ≡ true → IsSettled es line
refused_ends names es r told (lines.Hello h) is = tt
refused_ends names es r told (lines.Request id op) is = (told.0, told_outcome names es r.id id (replies.Refused r) is told)

-- a reply that answers no line isn't accepted, and an `old` from the book isn't news
never : (names : ℕ → List ℕ) (es : List Entry) (c : ClientState) (reply : Reply) → accepts reply c ≡ answers_one reply c.outstanding
    → ((line : Line) → answers reply line ≡ false) → accepts reply c ≡ true → IsKnown names es (after_accept reply c)
never names es c reply is none accept = absurd (both_ways (accepts reply c) (is ∙ answers_none reply none c.outstanding) accept)

old_is_no_news : (names : ℕ → List ℕ) (es : List Entry) (c : ClientState) (o : Old) → IsKnown names es c
    → o.current ≤ incarnation o.client es → is_ahead (replies.Old o) c ≡ true → ⊥
old_is_no_news names es c o know may ahead =
    let parts = and_parts (o.client == c.id) (nat_lt c.incarnation o.current) ahead in
    let same : incarnation o.client es ≡ incarnation c.id es = ap (λ (n : ℕ). incarnation n es) (eqb-true o.client c.id parts.0) in
    omega (arith, may, ltb-true c.incarnation o.current parts.1, know.behind)

known_accepted : (names : ℕ → List ℕ) (es : List Entry) (c : ClientState) (reply : Reply) → IsKnown names es c → MayTell names es reply
    → accepts reply c ≡ true → IsKnown names es (after_accept reply c)
known_accepted names es c (replies.Welcome w) know may accept =
    known_ends names es c (replies.Welcome w) true c.held know (sound_accepted (replies.Welcome w) c know.sound accept)
    (λ _. welcomed_so es c w know.sound may accept) (welcome_ends es w)
    (λ f. omega (arith, filter_le (weight_due names f es) (λ line. not (answers (replies.Welcome w) line)) c.outstanding))
known_accepted names es c (replies.Granted g) know may accept =
    known_ends names es c (replies.Granted g) c.is_open (c.held ++ segment_of g ∷ []) know (sound_accepted (replies.Granted g) c know.sound accept) know.protocol (granted_ends names es g may)
    (λ f. omega (
      arith,
      sum_push f c.held (segment_of g),
      filter_gives (weight_due names f es) (f (segment_of g)) (λ line. answers (replies.Granted g) line) c.outstanding (granted_due names es g may f) accept,
    ))
known_accepted names es c (replies.Released id) know may accept =
    known_ends names es c (replies.Released id) c.is_open c.held know (sound_accepted (replies.Released id) c know.sound accept) know.protocol (released_ends names es id may)
    (λ f. omega (arith, filter_le (weight_due names f es) (λ line. not (answers (replies.Released id) line)) c.outstanding))
known_accepted names es c (replies.Refused r) know may accept =
    known_ends names es c (replies.Refused r) c.is_open c.held know (sound_accepted (replies.Refused r) c know.sound accept) know.protocol (refused_ends names es r may)
    (λ f. omega (arith, filter_le (weight_due names f es) (λ line. not (answers (replies.Refused r) line)) c.outstanding))
known_accepted names es c (replies.Old o) know may accept =
    elim (or_cases (is_ahead (replies.Old o) c) (answers_one (replies.Old o) c.outstanding) accept) as (λ _. IsKnown names es (after_accept (replies.Old o) c)) [
      | inl ahead ↦ absurd (old_is_no_news names es c o know may ahead)
      | inr one ↦ absurd (both_ways (answers_one (replies.Old o) c.outstanding) (answers_none (replies.Old o) (λ line. refl) c.outstanding) one)
    ]
known_accepted names es c (replies.Stale t) know may accept = never names es c (replies.Stale t) refl (λ line. refl) accept
known_accepted names es c (replies.Gap t) know may accept = never names es c (replies.Gap t) refl (λ line. refl) accept
known_accepted names es c (replies.Again a) know may accept = never names es c (replies.Again a) refl (λ line. refl) accept
known_accepted names es c (replies.Error e) know may accept = never names es c (replies.Error e) refl (λ line. refl) accept

pub replies_keep_known : RepliesKeepKnown
replies_keep_known names es c reply know may =
    cond_both (accepts reply c) (after_accept reply c) c (IsKnown names es) (λ accept. known_accepted names es c reply know may accept) (λ _. know)
