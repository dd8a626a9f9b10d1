-- What a client sends keeps it known.
use Rattle.std.proofs.Common.{◌≡◌, inl, inr, ℕ, ◌+◌, ◌<◌, ◌≤◌, Bool, true, false, not, cond, List, [], ◌∷◌, ◌++◌, Option, Some, None, sum_by, refl, sym, ap, ◌∙◌, arith, eq-eqb}
use Rattle.std.proofs.lemmas.Bool.{false≢true, both_ways, cases_lt, cond-true, cond-false}
use Rattle.lease_terms.specs.Requests.{RequestId}
use Rattle.lease_terms.specs.Protocols.{window_of}
use Rattle.lease_terms.specs.declared.protocols.Protocol.{Protocol}
use Rattle.lease_proto.specs.declared.lines.Op.{Op}
use Rattle.lease_proto.specs.declared.lines.Op.TheVariants as ops
use Rattle.lease_proto.specs.declared.lines.Line.{Line}
use Rattle.lease_proto.specs.declared.lines.Line.TheVariants as lines
use Rattle.lease_book.specs.declared.receipts.KeptReply.{KeptReply}
use Rattle.lease_book.specs.declared.receipts.KeptReply.TheVariants as kept
use Rattle.lease_book.specs.Receipts.{Kept}
use Rattle.lease_book.specs.Replies.{greatest}
use Rattle.lease_book.specs.Account.{Lease}
use Rattle.lease_book.specs.Entry.{Entry}
use Rattle.lease_book.specs.History.{incarnation, settled_in, last_in, outcome_of, leases_of, AreOrderly}
use Rattle.lease_book.proofs.LawProofs.{settled_for_incarnation, numbers_settled_once, leases_not_above}
use Rattle.lease_client.specs.declared.held.HeldSegment.{HeldSegment}
use Rattle.lease_client.specs.ClientState.{ClientState, is_at, holds_at, is_numbered, line_at, AreRequests}
use Rattle.lease_client.specs.Calls.{may_restart, after_restart, is_of_held, is_full, refusal, after_send, next_id, next_request, held_after}
use Rattle.lease_client.specs.Runs.{Restart, Send}
use Rattle.lease_client.proofs.LawProofs.{moves_keep_sound, moves_in_turn, own_requests, found_push}
use Rattle.lease_history.specs.Known.{told_segment, weight_in, weight_told, weight_kept, weight_due, one_at, leased_at, one_ending, ending_at, weight_left, IsKnown}
use Rattle.lease_history.specs.Laws.{MovesKeepKnown}
use Rattle.lease_history.proofs.Sums.{sum_push, sum_le, sum_where, sum_zero, sum_none, none_or_some, find_last}
use Rattle.lease_history.proofs.PlaceLemmas.{at_place, held_here, elsewhere, held_elsewhere, ending_most, ending_place, in_most, in_other, left_most, left_more, none_left, leased_most}
use Rattle.lease_history.proofs.LineLemmas.{none_next, due_none}

known_restarted : (names : ℕ → List ℕ) (es : List Entry) (c : ClientState) (i : ℕ) (p : Protocol) → AreOrderly es → IsKnown names es c
    → may_restart i c ≡ true → IsKnown names es (after_restart i p c)
known_restarted names es c i p orderly know may =
    let above : c.incarnation < i = (moves_in_turn.restart i c may).0 in
    let behind : incarnation c.id es ≤ c.incarnation = know.behind in
    let fresh : settled_in c.id i es ≡ [] = settled_for_incarnation.to_come es c.id i orderly (omega arith) in
    let none : last_in c.id i es ≡ 0 = ap greatest fresh in
    record {
      sound = moves_keep_sound (Restart i p) c (after_restart i p c) know.sound (may, refl);
      behind = omega arith;
      before = omega arith;
      protocol = λ never. absurd (false≢true never);
      waits = λ id client own from below unsettled. absurd (omega (arith, from, below));
      once = λ arena base.
          let leased = sum_none (λ (l : Lease). l.incarnation ≤ incarnation c.id es) (weight_in names i (one_at arena base))
          (λ l low. in_other names i (one_at arena base) l (λ same. omega (arith, same, low))) (leases_of c.id es) (leases_not_above es c.id orderly) in
          omega (arith, leased);
      ending = λ arena base. omega arith;
      held = λ f. omega arith;
    }

-- A number that is sent first isn't settled, and waits.

waits_sent : (names : ℕ → List ℕ) (es : List Entry) (c : ClientState) (op : Op) → IsKnown names es c → AreRequests c.id c.incarnation 1 c.next c.outstanding
    → (id : RequestId) → id.client ≡ c.id → id.incarnation ≡ c.incarnation → 1 ≤ id.number → id.number < c.next + 1 → outcome_of id es ≡ None
    → (asked : Op) × (line_at id.number (c.outstanding ++ next_request op c ∷ []) ≡ Some (lines.Request id asked))
waits_sent names es c op know are id client inc from below none = elim (cases_lt id.number c.next) as (λ _. (asked : Op) × (line_at id.number (c.outstanding ++ next_request op c ∷ []) ≡ Some (lines.Request id asked))) [
  | inl less ↦ (let at = know.waits id client inc from less none in (at.0, found_push id.number c.outstanding (lines.Request id at.0) (next_request op c) at.1))
  | inr past ↦ (op, last (omega (arith, past, below)))
]
  where
    last : id.number ≡ c.next → line_at id.number (c.outstanding ++ next_request op c ∷ []) ≡ Some (lines.Request id op)
    last number =
        let same : next_id c ≡ id = ap (λ (n : ℕ). record (next_id c) { client = n }) (sym client)
        ∙ ap (λ (n : ℕ). record id { incarnation = n; number = c.next }) (sym inc)
        ∙ ap (λ (n : ℕ). record id { number = n }) (sym number) in
        find_last (is_numbered id.number) c.outstanding (next_request op c) (none_next c.id c.incarnation 1 c.next id.number c.outstanding (omega (arith, number)) are) (eq-eqb id.number c.next number)
        ∙ ap (λ (x : RequestId). Some (lines.Request x op)) same

-- A release.

-- what is given back is held, and so it is leased once, and isn't due nor given back already
record IsAlone (names : ℕ → List ℕ) (es : List Entry) (c : ClientState) (arena : List ℕ) (base : ℕ) : Type 0 where
  leased : 1 ≤ leased_at names c.incarnation arena base (leases_of c.id es)
  due : sum_by (weight_due names (one_at arena base) es) c.outstanding ≡ 0
  ending : ending_at es arena base c.outstanding ≡ 0

held_alone : (names : ℕ → List ℕ) (es : List Entry) (c : ClientState) (arena : List ℕ) (base : ℕ) → IsKnown names es c → holds_at arena base c.held ≡ true
    → IsAlone names es c arena base
held_alone names es c arena base know holds = record {
  leased = omega (arith, here, held, most);
  due = omega (arith, here, held, most, know.once arena base);
  ending = elim (none_or_some (ending_at es arena base c.outstanding)) as (λ _. ending_at es arena base c.outstanding ≡ 0) [
    | inl none ↦ none
    | inr some ↦ absurd (let nothing = sum_zero (weight_left names c.incarnation es c.outstanding (one_at arena base)) (none_left names c.incarnation es c.outstanding arena base some) (leases_of c.id es) in omega (arith, here, held, nothing))
  ];
}
  where
    left : ℕ
    left = sum_by (weight_left names c.incarnation es c.outstanding (one_at arena base)) (leases_of c.id es)

    here : 1 ≤ sum_by (one_at arena base) c.held
    here = held_here arena base c.held holds

    held : sum_by (one_at arena base) c.held + sum_by (weight_due names (one_at arena base) es) c.outstanding ≤ left
    held = know.held (one_at arena base)

    most : left ≤ leased_at names c.incarnation arena base (leases_of c.id es)
    most = leased_most names c.incarnation es c.outstanding arena base (leases_of c.id es)

segment_elsewhere : (arena : List ℕ) (base : ℕ) (f : HeldSegment → ℕ) (s : HeldSegment) → one_at arena base s ≡ 0 → f s ≤ elsewhere arena base f s
segment_elsewhere arena base f s none = by (is_at arena base s) none
  where
    by : (z : Bool) → ◌≡◌ {A = ℕ} (cond z 1 0) 0 → f s ≤ cond z 0 (f s)
    by true never = absurd (omega (arith, never))
    by false none = omega arith

-- what is due is due elsewhere
due_elsewhere : (names : ℕ → List ℕ) (f : HeldSegment → ℕ) (es : List Entry) (arena : List ℕ) (base : ℕ) (line : Line)
    → weight_due names (one_at arena base) es line ≡ 0 → weight_due names f es line ≤ weight_due names (elsewhere arena base f) es line
due_elsewhere names f es arena base (lines.Hello h) none = omega arith
due_elsewhere names f es arena base (lines.Request id (ops.Release r)) none = omega arith
due_elsewhere names f es arena base (lines.Request id (ops.Lease l)) none = by (outcome_of id es) none
  where
    told : (r : KeptReply) → weight_told names (one_at arena base) r ≡ 0 → weight_told names f r ≤ weight_told names (elsewhere arena base f) r
    told (kept.Granted home at len) none = segment_elsewhere arena base f (record { arena = names home; base = at; len = len }) none
    told (kept.Released home at) none = omega arith
    told (kept.Refused why) none = omega arith

    by : (o : Option Kept) → weight_kept names (one_at arena base) o ≡ 0 → weight_kept names f o ≤ weight_kept names (elsewhere arena base f) o
    by None none = omega arith
    by (Some k) none = told k.reply none

-- what is left elsewhere is left after the release too
left_elsewhere : (names : ℕ → List ℕ) (i : ℕ) (es : List Entry) (ls : List Line) (id : RequestId) (r : _) (f : HeldSegment → ℕ) (l : Lease)
    → weight_left names i es ls (elsewhere r.arena r.base f) l ≤ weight_left names i es (ls ++ lines.Request id (ops.Release r) ∷ []) f l
left_elsewhere names i es ls id r f l = by (is_at r.arena r.base s) refl
  where
    s : HeldSegment
    s = told_segment names l.segment

    new : Line
    new = lines.Request id (ops.Release r)

    ends_none : is_at r.arena r.base s ≡ false → one_ending es s.arena s.base new ≡ 0
    ends_none is = elim (none_or_some (one_ending es s.arena s.base new)) as (λ _. one_ending es s.arena s.base new ≡ 0) [
      | inl none ↦ none
      | inr some ↦ absurd (let place = ending_place es s.arena s.base id r some in both_ways (is_at r.arena r.base s) is (at_place r.arena r.base s (sym place.0) (sym place.1)))
    ]

    by : (z : Bool) → is_at r.arena r.base s ≡ z → weight_left names i es ls (elsewhere r.arena r.base f) l ≤ weight_left names i es (ls ++ new ∷ []) f l
    by true is = omega (arith, left_most names i es ls (elsewhere r.arena r.base f) l, in_most names i (elsewhere r.arena r.base f) l, cond-true (is_at r.arena r.base s) 0 (f s) is)
    by false is = left_more names i es es ls (ls ++ new ∷ []) (elsewhere r.arena r.base f) f l
        (omega (arith, sum_push (one_ending es s.arena s.base) ls new, ends_none is)) (omega (arith, cond-false (is_at r.arena r.base s) 0 (f s) is))

-- What is sent.

-- a release is of something that is held
of_held : {F : Type 0} (opened busy held out : Bool) (w x y z : F)
    → cond (not opened) (Some w) (cond busy (Some x) (cond (not held) (Some y) (cond out (Some z) None))) ≡ None → held ≡ true
of_held true false true out w x y z is = refl
of_held true false false out w x y z is = absurd cc
of_held true true held out w x y z is = absurd cc
of_held false busy held out w x y z is = absurd cc

module _ (names : ℕ → List ℕ) (es : List Entry) (c : ClientState) (know : IsKnown names es c) where
  ending_sent : (op : Op) → is_of_held op c.held ≡ true → (arena : List ℕ) (base : ℕ)
      → ending_at es arena base (c.outstanding ++ next_request op c ∷ []) ≤ leased_at names c.incarnation arena base (leases_of c.id es)
  ending_sent (ops.Lease l) holds arena base = omega (arith, know.ending arena base, sum_push (one_ending es arena base) c.outstanding (next_request (ops.Lease l) c))
  ending_sent (ops.Release r) holds arena base = elim (none_or_some (one_ending es arena base new)) as (λ _. ending_at es arena base (c.outstanding ++ new ∷ []) ≤ leased_at names c.incarnation arena base (leases_of c.id es)) [
    | inl none ↦ omega (arith, know.ending arena base, push, none)
    | inr some ↦ (let place = ending_place es arena base (next_id c) r some in
        let ends : ending_at es arena base c.outstanding ≡ ending_at es r.arena r.base c.outstanding
        = ap (λ (a : List ℕ). ending_at es a base c.outstanding) (sym place.0) ∙ ap (λ (b : ℕ). ending_at es r.arena b c.outstanding) (sym place.1) in
        let stands : leased_at names c.incarnation arena base (leases_of c.id es) ≡ leased_at names c.incarnation r.arena r.base (leases_of c.id es)
        = ap (λ (a : List ℕ). leased_at names c.incarnation a base (leases_of c.id es)) (sym place.0) ∙ ap (λ (b : ℕ). leased_at names c.incarnation r.arena b (leases_of c.id es)) (sym place.1) in
        omega (arith, push, ends, stands, alone.leased, alone.ending, ending_most es arena base new))
  ]
    where
      new : Line
      new = next_request (ops.Release r) c

      push : ending_at es arena base (c.outstanding ++ new ∷ []) ≡ ending_at es arena base c.outstanding + one_ending es arena base new
      push = sum_push (one_ending es arena base) c.outstanding new

      alone : IsAlone names es c r.arena r.base
      alone = held_alone names es c r.arena r.base know holds

  held_sent : (op : Op) → is_of_held op c.held ≡ true → outcome_of (next_id c) es ≡ None → (f : HeldSegment → ℕ)
      → sum_by f (held_after op c.held) + sum_by (weight_due names f es) (c.outstanding ++ next_request op c ∷ [])
      ≤ sum_by (weight_left names c.incarnation es (c.outstanding ++ next_request op c ∷ []) f) (leases_of c.id es)
  held_sent (ops.Lease l) holds none f = omega (
    arith,
    know.held f,
    sum_push (weight_due names f es) c.outstanding new,
    due_none names f es (next_id c) (ops.Lease l) none,
    sum_le (weight_left names c.incarnation es c.outstanding f) (weight_left names c.incarnation es (c.outstanding ++ new ∷ []) f) stays (leases_of c.id es),
  )
    where
      new : Line
      new = next_request (ops.Lease l) c

      stays : (x : Lease) → weight_left names c.incarnation es c.outstanding f x ≤ weight_left names c.incarnation es (c.outstanding ++ new ∷ []) f x
      stays x = left_more names c.incarnation es es c.outstanding (c.outstanding ++ new ∷ []) f f x
          (omega (arith, sum_push (one_ending es (names x.segment.arena) x.segment.holding.range.base) c.outstanding new)) (omega arith)
  held_sent (ops.Release r) holds none f = omega (
    arith,
    know.held (elsewhere r.arena r.base f),
    held_elsewhere r.arena r.base f c.held,
    sum_push (weight_due names f es) c.outstanding new,
    sum_where (weight_due names (one_at r.arena r.base) es) (weight_due names f es) (weight_due names (elsewhere r.arena r.base f) es) (due_elsewhere names f es r.arena r.base) c.outstanding alone.due,
    sum_le (weight_left names c.incarnation es c.outstanding (elsewhere r.arena r.base f)) (weight_left names c.incarnation es (c.outstanding ++ new ∷ []) f)
        (left_elsewhere names c.incarnation es c.outstanding (next_id c) r f) (leases_of c.id es),
  )
    where
      new : Line
      new = next_request (ops.Release r) c

      alone : IsAlone names es c r.arena r.base
      alone = held_alone names es c r.arena r.base know holds

known_sent : (names : ℕ → List ℕ) (es : List Entry) (c : ClientState) (op : Op) → IsKnown names es c
    → refusal op c ≡ None → IsKnown names es (after_send op c)
known_sent names es c op know may =
    let turn = moves_in_turn.send op c know.sound may in
    let before : last_in c.id c.incarnation es < c.next = know.before in
    let none : outcome_of (next_id c) es ≡ None = numbers_settled_once.unsettled es (next_id c) before in
    let holds : is_of_held op c.held ≡ true = of_held c.is_open (is_full (window_of c.protocol) c.next c.outstanding) (is_of_held op c.held) _ _ _ _ _ may in
    let are = own_requests c.id c.incarnation c.protocol c.next c.is_open c.outstanding turn.0 know.sound.outstanding in
    record {
      sound = moves_keep_sound (Send op) c (after_send op c) know.sound (may, refl);
      behind = know.behind;
      before = omega arith;
      protocol = know.protocol;
      waits = waits_sent names es c op know are;
      once = know.once;
      ending = ending_sent names es c know op holds;
      held = held_sent names es c know op holds none;
    }

pub moves_keep_known : MovesKeepKnown
moves_keep_known = record { restart = known_restarted; send = known_sent }
