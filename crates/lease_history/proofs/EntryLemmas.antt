-- Each entry keeps its clients known.
use Rattle.std.proofs.Common.{◌≡◌, ◌⊎◌, inl, inr, ℕ, ◌≤◌, ◌==◌, Bool, true, false, cond, List, ◌∷◌, Some, None, sum_by, refl, sym, ap, ◌∙◌, arith}
use Rattle.std.proofs.lemmas.Bool.{eqb-true, cases_eq}
use Rattle.lease_terms.specs.Requests.{RequestId}
use Rattle.lease_proto.specs.declared.lines.Line.TheVariants as lines
use Rattle.lease_proto.specs.declared.lines.Op.{Op}
use Rattle.lease_book.specs.Replies.{greatest}
use Rattle.lease_book.specs.Entry.{Entry, Settlement, Hello, Settled, Swept, Grant, Return, Refuse}
use Rattle.lease_book.specs.Account.{Lease, is_lease, without_first, leases_after, lease_of}
use Rattle.lease_book.specs.History.{incarnation, last_in, outcome_of, leases_of}
use Rattle.lease_book.proofs.LawProofs.{settled_for_incarnation}
use Rattle.lease_client.specs.declared.held.HeldSegment.{HeldSegment}
use Rattle.lease_client.specs.ClientState.{ClientState, line_at, AreOwn}
use Rattle.lease_client.specs.Runs.{MayBeSent}
use Rattle.lease_history.specs.Known.{weight_in, one_at, ending_at, weight_left, IsKnown}
use Rattle.lease_history.specs.Laws.{HellosKeepKnown, SweepsKeepKnown, SettlementsKeepKnown}
use Rattle.lease_history.proofs.Sums.{sum_push, sum_le, without_keeps}
use Rattle.lease_history.proofs.PlaceLemmas.{in_other, left_most, left_more, lease_keys}
use Rattle.lease_history.proofs.ProtocolLemmas.{first_stays}
use Rattle.lease_history.proofs.LineLemmas.{outcome_others, due_others, ending_others}
use Rattle.lease_history.proofs.SettledLemmas.{own_settled}

pub hellos_keep_known : HellosKeepKnown
hellos_keep_known names es c d i p know le = record {
  sound = know.sound;
  behind = by (c.id == d) refl;
  before = know.before;
  protocol = λ opened. first_stays (Hello d i p) es c.id c.incarnation c.protocol (know.protocol opened);
  waits = know.waits;
  once = know.once;
  ending = know.ending;
  held = know.held;
}
  where
    by : (b : Bool) → (c.id == d) ≡ b → cond b i (incarnation c.id es) ≤ c.incarnation
    by true is = le (sym (eqb-true c.id d is))
    by false is = know.behind

-- Leases of other incarnations weigh nothing.

left_other : (names : ℕ → List ℕ) (c : ClientState) (es : List Entry) (f : HeldSegment → ℕ) (l : Lease) → (c.incarnation ≡ l.incarnation → ⊥)
    → weight_left names c.incarnation es c.outstanding f l ≡ 0
left_other names c es f l other = omega (arith, left_most names c.incarnation es c.outstanding f l, in_other names c.incarnation f l other)

pub sweeps_keep_known : SweepsKeepKnown
sweeps_keep_known names es c d i a b know older = record {
  sound = know.sound;
  behind = know.behind;
  before = know.before;
  protocol = know.protocol;
  waits = know.waits;
  once = λ arena base. omega (arith, know.once arena base, leased (one_at arena base));
  ending = λ arena base. omega (arith, know.ending arena base, leased (one_at arena base));
  held = λ f. omega (arith, know.held f, same (weight_left names c.incarnation es c.outstanding f) (left_other names c es f));
}
  where
    same : (w : Lease → ℕ) → ((l : Lease) → (c.incarnation ≡ l.incarnation → ⊥) → w l ≡ 0) → sum_by w (leases_of c.id (Swept d i a b ∷ es)) ≡ sum_by w (leases_of c.id es)
    same w none = by (c.id == d) refl
      where
        by : (z : Bool) → (c.id == d) ≡ z → sum_by w (cond z (without_first (is_lease i a b) (leases_of c.id es)) (leases_of c.id es)) ≡ sum_by w (leases_of c.id es)
        by true is =
            let mine : incarnation c.id es ≡ incarnation d es = ap (λ (n : ℕ). incarnation n es) (eqb-true c.id d is) in
            let behind : incarnation c.id es ≤ c.incarnation = know.behind in
            without_keeps w (is_lease i a b) (leases_of c.id es) (λ l taken. none l (λ e. omega (arith, e, (lease_keys i a b l taken).0, mine, behind, older)))
        by false is = refl

    leased : (f : HeldSegment → ℕ) → sum_by (weight_in names c.incarnation f) (leases_of c.id (Swept d i a b ∷ es)) ≡ sum_by (weight_in names c.incarnation f) (leases_of c.id es)
    leased f = same (weight_in names c.incarnation f) (in_other names c.incarnation f)

-- Another client's request, or one of another incarnation.

other_leases : (w : Lease → ℕ) (i : ℕ) (id : RequestId) (s : Settlement) (leases : List Lease) → (i ≡ id.incarnation → ⊥)
    → ((l : Lease) → (i ≡ l.incarnation → ⊥) → w l ≡ 0) → sum_by w (leases_after id s leases) ≡ sum_by w leases
other_leases w i id (Grant t terms) leases other none = omega (arith, sum_push w leases (lease_of id t), none (lease_of id t) other)
other_leases w i id (Return a b) leases other none =
    without_keeps w (is_lease id.incarnation a b) leases (λ l taken. none l (λ same. other (same ∙ sym (lease_keys id.incarnation a b l taken).0)))
other_leases w i id (Refuse why) leases other none = refl

other_settled : (names : ℕ → List ℕ) (es : List Entry) (c : ClientState) (id : RequestId) (s : Settlement) → IsKnown names es c
    → ((c.id ≡ id.client) × (c.incarnation ≡ id.incarnation) → ⊥) → IsKnown names (Settled id s ∷ es) c
other_settled names es c id s know other = record {
  sound = know.sound;
  behind = know.behind;
  before = omega (arith, know.before, last);
  protocol = know.protocol;
  waits = λ mine client incarnation from below none. know.waits mine client incarnation from below (sym (outcome_others es id s c.id c.incarnation c.protocol c.next c.is_open c.outstanding other own mine client incarnation) ∙ none);
  once = λ arena base. omega (arith, know.once arena base, leased (one_at arena base));
  ending = λ arena base. omega (arith, know.ending arena base, ends arena base, leased (one_at arena base));
  held = λ f. omega (
    arith,
    know.held f,
    due_others es id s c.id c.incarnation c.protocol c.next c.is_open c.outstanding other own names f,
    same (weight_left names c.incarnation after c.outstanding f) (left_other names c after f),
    sum_le (weight_left names c.incarnation es c.outstanding f) (weight_left names c.incarnation after c.outstanding f)
        (λ l. left_more names c.incarnation es after c.outstanding c.outstanding f f l (omega (arith, ends (names l.segment.arena) l.segment.holding.range.base)) (omega arith)) (leases_of c.id es),
  );
}
  where
    after : List Entry
    after = Settled id s ∷ es

    own : AreOwn c.id c.incarnation c.protocol c.next c.is_open c.outstanding
    own = know.sound.outstanding

    ends : (arena : List ℕ) (base : ℕ) → ending_at after arena base c.outstanding ≡ ending_at es arena base c.outstanding
    ends = ending_others es id s c.id c.incarnation c.protocol c.next c.is_open c.outstanding other own

    last : last_in c.id c.incarnation after ≡ last_in c.id c.incarnation es
    last = ap greatest (settled_for_incarnation.others es id s c.id c.incarnation other)

    same : (w : Lease → ℕ) → ((l : Lease) → (c.incarnation ≡ l.incarnation → ⊥) → w l ≡ 0) → sum_by w (leases_of c.id after) ≡ sum_by w (leases_of c.id es)
    same w none = by (c.id == id.client) refl
      where
        by : (z : Bool) → (c.id == id.client) ≡ z → sum_by w (cond z (leases_after id s (leases_of c.id es)) (leases_of c.id es)) ≡ sum_by w (leases_of c.id es)
        by true is = other_leases w c.incarnation id s (leases_of c.id es) (λ e. other (eqb-true c.id id.client is, e)) none
        by false is = refl

    leased : (f : HeldSegment → ℕ) → sum_by (weight_in names c.incarnation f) (leases_of c.id after) ≡ sum_by (weight_in names c.incarnation f) (leases_of c.id es)
    leased f = same (weight_in names c.incarnation f) (in_other names c.incarnation f)

-- a number of the client's own incarnation that isn't settled waits
waits_now : (names : ℕ → List ℕ) (es : List Entry) (c : ClientState) (id : RequestId) (op : Op) → IsKnown names es c → MayBeSent id op c
    → c.id ≡ id.client → c.incarnation ≡ id.incarnation → 1 ≤ id.number → outcome_of id es ≡ None → line_at id.number c.outstanding ≡ Some (lines.Request id op)
waits_now names es c id op know (inr waits) client inc from none = waits
waits_now names es c id op know (inl (inl lt)) client inc from none = absurd (omega (arith, lt, inc))
waits_now names es c id op know (inl (inr done)) client inc from none =
    let waits = know.waits id (sym client) (sym inc) from done.1 none in
    let never : None ≡ Some (lines.Request id waits.0) = sym done.2 ∙ waits.1 in
    absurd cc

pub settlements_keep_known : SettlementsKeepKnown
settlements_keep_known names es c id op s know orderly is sent apart = by (cases_eq c.id id.client) (cases_eq c.incarnation id.incarnation)
  where
    by : (c.id ≡ id.client) ⊎ (c.id ≡ id.client → ⊥) → (c.incarnation ≡ id.incarnation) ⊎ (c.incarnation ≡ id.incarnation → ⊥)
        → IsKnown names (Settled id s ∷ es) c
    by (inl client) (inl inc) = own_settled names es c id op s (record {
      known = know;
      unsettled = orderly.2;
      client = client;
      incarnation = inc;
      waits = waits_now names es c id op know (sent (sym client)) client inc orderly.0.0.number.0 orderly.2;
    }) is (apart (sym client))
    by (inl client) (inr other) = other_settled names es c id s know (λ both. other both.1)
    by (inr other) inc = other_settled names es c id s know (λ both. other both.0)
