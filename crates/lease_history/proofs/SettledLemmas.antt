-- A client's own request is settled.
use Rattle.std.proofs.Common.{◌≡◌, ◌≢◌, inl, inr, ℕ, ◌+◌, ◌<◌, ◌≤◌, ◌==◌, true, List, [], ◌∷◌, ◌++◌, Some, None, sum_by, refl, sym, ap, subst, ◌∙◌, arith, eq-eqb}
use Rattle.std.proofs.lemmas.Bool.{cases_Bool, cond-true}
use Rattle.deed_core.specs.Tag.{Tag}
use Rattle.lease_terms.specs.Requests.{RequestId}
use Rattle.lease_terms.specs.declared.refusals.Refusal.{Refusal}
use Rattle.lease_proto.specs.declared.lines.Line.TheVariants as lines
use Rattle.lease_proto.specs.declared.lines.Op.{Op}
use Rattle.lease_proto.specs.declared.lines.Op.TheVariants as ops
use Rattle.lease_book.specs.declared.receipts.Terms.{Terms}
use Rattle.lease_book.specs.Replies.{greatest, larger}
use Rattle.lease_book.specs.Entry.{Entry, Settlement, Settled, Grant, Return, Refuse, kept_settlement}
use Rattle.lease_book.specs.Account.{Lease, is_lease, without_first, leases_after, lease_of}
use Rattle.lease_book.specs.History.{last_in, outcome_of, leases_of}
use Rattle.lease_book.proofs.LawProofs.{settled_for_incarnation, outcomes_stay, larger_below}
use Rattle.lease_client.specs.declared.held.HeldSegment.{HeldSegment}
use Rattle.lease_client.specs.ClientState.{ClientState, is_at, line_at, AreRequests}
use Rattle.lease_client.proofs.LawProofs.{found_own}
use Rattle.lease_history.specs.Known.{told_segment, weight_in, weight_kept, weight_due, one_at, leased_at, one_ending, ending_at, weight_left, IsKnown, IsFor, IsApart}
use Rattle.lease_history.proofs.Sums.{sum_push, sum_le, without_keeps, without_less, without_most}
use Rattle.lease_history.proofs.PlaceLemmas.{same_place, at_place, one_here, none_here, ending_here, settled_ends, in_most, in_own, left_whole, left_more, ending_there, left_ended, lease_keys}
use Rattle.lease_history.proofs.LineLemmas.{requests_of, due_none, due_own, ending_own}

-- a known client, and one of its requests that waits and isn't settled
pub record IsOpenRequest (names : ℕ → List ℕ) (es : List Entry) (c : ClientState) (id : RequestId) (op : Op) : Type 0 where
  pub known : IsKnown names es c
  pub unsettled : outcome_of id es ≡ None
  pub client : c.id ≡ id.client
  pub incarnation : c.incarnation ≡ id.incarnation
  pub waits : line_at id.number c.outstanding ≡ Some (lines.Request id op)

module _ (names : ℕ → List ℕ) (es : List Entry) (c : ClientState) (id : RequestId) (op : Op) (s : Settlement)
    (request : IsOpenRequest names es c id op) where
  abbrev after : List Entry
  after = Settled id s ∷ es

  abbrev leases : List Lease
  leases = leases_of c.id es

  are : AreRequests c.id c.incarnation 1 c.next c.outstanding
  are = requests_of c.id c.incarnation c.protocol c.next id.number c.is_open c.outstanding id op request.known.sound.outstanding request.waits

  settled : outcome_of id after ≡ Some (kept_settlement id.number s)
  settled = outcomes_stay.own es id s

  -- fewer releases wait, by this one
  ends : (arena : List ℕ) (base : ℕ) → ending_at after arena base c.outstanding + one_ending es arena base (lines.Request id op) ≡ ending_at es arena base c.outstanding
  ends arena base = omega (
    arith,
    ending_own es id s c.id c.incarnation c.next c.outstanding op are request.waits arena base,
    settled_ends after arena base id op (kept_settlement id.number s) settled,
  )

  fewer : (l : Lease) → ending_at after (names l.segment.arena) l.segment.holding.range.base c.outstanding
      ≤ ending_at es (names l.segment.arena) l.segment.holding.range.base c.outstanding
  fewer l = omega (arith, ends (names l.segment.arena) l.segment.holding.range.base)

  -- and so no less is left of the leases
  left_after : (f : HeldSegment → ℕ) (some : List Lease)
      → sum_by (weight_left names c.incarnation es c.outstanding f) some ≤ sum_by (weight_left names c.incarnation after c.outstanding f) some
  left_after f some = sum_le (weight_left names c.incarnation es c.outstanding f) (weight_left names c.incarnation after c.outstanding f)
      (λ l. left_more names c.incarnation es after c.outstanding c.outstanding f f l (fewer l) (omega arith)) some

  -- what is due for it is due first now
  due_after : (f : HeldSegment → ℕ) → sum_by (weight_due names f after) c.outstanding
      ≡ sum_by (weight_due names f es) c.outstanding + weight_due names f after (lines.Request id op)
  due_after f = omega (arith, due_own es id s c.id c.incarnation c.next c.outstanding op are request.waits names f, due_none names f es id op request.unsettled)

  before_after : last_in c.id c.incarnation after < c.next
  before_after =
      let own = found_own c.id c.incarnation 1 c.next id.number c.outstanding id op are request.waits in
      let same : last_in id.client id.incarnation es ≡ last_in c.id c.incarnation es
      = ap (λ (n : ℕ). last_in n id.incarnation es) (sym request.client) ∙ ap (λ (n : ℕ). last_in c.id n es) (sym request.incarnation) in
      let last : last_in id.client id.incarnation after ≡ larger id.number (last_in id.client id.incarnation es)
      = ap greatest (settled_for_incarnation.own es id s) in
      let moved : last_in c.id c.incarnation after ≡ last_in id.client id.incarnation after
      = ap (λ (n : ℕ). last_in n c.incarnation after) request.client ∙ ap (λ (n : ℕ). last_in id.client n after) request.incarnation in
      omega (arith, moved, last, larger_below id.number (last_in id.client id.incarnation es) c.next own.3 (omega (arith, request.known.before, same)))

  -- the others that wait aren't settled as they weren't
  waits_after : (mine : RequestId) → mine.client ≡ c.id → mine.incarnation ≡ c.incarnation → 1 ≤ mine.number → mine.number < c.next
      → outcome_of mine after ≡ None → (asked : Op) × (line_at mine.number c.outstanding ≡ Some (lines.Request mine asked))
  waits_after mine own now from below none = request.known.waits mine own now from below (sym (outcomes_stay.others es id s mine differs) ∙ none)
    where
      differs : mine ≢ id
      differs same =
          let never : None ≡ Some (kept_settlement id.number s) = sym none ∙ (ap (λ (x : RequestId). outcome_of x after) same ∙ settled) in
          absurd cc

  known_after : (now : List Lease) → leases_of c.id after ≡ now
      → ((arena : List ℕ) (base : ℕ) → leased_at names c.incarnation arena base now ≤ 1)
      → ((arena : List ℕ) (base : ℕ) → ending_at after arena base c.outstanding ≤ leased_at names c.incarnation arena base now)
      → ((f : HeldSegment → ℕ) → sum_by f c.held + sum_by (weight_due names f after) c.outstanding ≤ sum_by (weight_left names c.incarnation after c.outstanding f) now)
      → IsKnown names after c
  known_after now is once ending held = record {
    sound = request.known.sound;
    behind = request.known.behind;
    before = before_after;
    protocol = request.known.protocol;
    waits = waits_after;
    once = λ arena base. subst (λ (ls : List Lease). leased_at names c.incarnation arena base ls ≤ 1) (sym is) (once arena base);
    ending = λ arena base. subst (λ (ls : List Lease). ending_at after arena base c.outstanding ≤ leased_at names c.incarnation arena base ls) (sym is) (ending arena base);
    held = λ f. subst (λ (ls : List Lease). sum_by f c.held + sum_by (weight_due names f after) c.outstanding ≤ sum_by (weight_left names c.incarnation after c.outstanding f) ls) (sym is) (held f);
  }

  leases_now : leases_of c.id after ≡ leases_after id s leases
  leases_now = cond-true (c.id == id.client) (leases_after id s leases) leases (eq-eqb c.id id.client request.client)

-- A lease is granted.

module _ (names : ℕ → List ℕ) (es : List Entry) (c : ClientState) (id : RequestId) (l : _) (t : Tag) (terms : Terms)
    (request : IsOpenRequest names es c id (ops.Lease l)) (apart : IsApart names id (leases_of id.client es) (Grant t terms)) where
  abbrev granted_es : List Entry
  granted_es = Settled id (Grant t terms) ∷ es

  abbrev base : ℕ
  base = t.holding.range.base

  -- none stands there
  standing : leased_at names c.incarnation (names t.arena) base (leases_of c.id es) ≡ 0
  standing = ap (λ (n : ℕ). leased_at names n (names t.arena) base (leases_of c.id es)) request.incarnation
      ∙ (ap (λ (n : ℕ). leased_at names id.incarnation (names t.arena) base (leases_of n es)) request.client ∙ apart)

  weighs : (f : HeldSegment → ℕ) → weight_in names c.incarnation f (lease_of id t) ≡ f (told_segment names t)
  weighs f = in_own names c.incarnation f (lease_of id t) request.incarnation

  granted_once : (a : List ℕ) (b : ℕ) → leased_at names c.incarnation a b (leases_of c.id es ++ lease_of id t ∷ []) ≤ 1
  granted_once a b = elim (cases_Bool (is_at a b (told_segment names t))) as (λ _. leased_at names c.incarnation a b (leases_of c.id es ++ lease_of id t ∷ []) ≤ 1) [
    | inl here ↦ (let place = same_place a b (told_segment names t) here in
        let there : leased_at names c.incarnation a b (leases_of c.id es) ≡ leased_at names c.incarnation (names t.arena) base (leases_of c.id es)
        = ap (λ (n : List ℕ). leased_at names c.incarnation n b (leases_of c.id es)) (sym place.0) ∙ ap (λ (n : ℕ). leased_at names c.incarnation (names t.arena) n (leases_of c.id es)) (sym place.1) in
        omega (arith, push, there, standing, weighs (one_at a b), one_here a b (told_segment names t) here))
    | inr away ↦ omega (arith, push, request.known.once a b, weighs (one_at a b), none_here a b (told_segment names t) away)
  ]
    where
      push : leased_at names c.incarnation a b (leases_of c.id es ++ lease_of id t ∷ [])
          ≡ leased_at names c.incarnation a b (leases_of c.id es) + weight_in names c.incarnation (one_at a b) (lease_of id t)
      push = sum_push (weight_in names c.incarnation (one_at a b)) (leases_of c.id es) (lease_of id t)

  granted_ending : (a : List ℕ) (b : ℕ) → ending_at granted_es a b c.outstanding ≤ leased_at names c.incarnation a b (leases_of c.id es ++ lease_of id t ∷ [])
  granted_ending a b = omega (
    arith,
    ends names es c id (ops.Lease l) (Grant t terms) request a b,
    request.known.ending a b,
    sum_push (weight_in names c.incarnation (one_at a b)) (leases_of c.id es) (lease_of id t),
  )

  granted_held : (f : HeldSegment → ℕ) → sum_by f c.held + sum_by (weight_due names f granted_es) c.outstanding
      ≤ sum_by (weight_left names c.incarnation granted_es c.outstanding f) (leases_of c.id es ++ lease_of id t ∷ [])
  granted_held f =
      let due : weight_due names f granted_es (lines.Request id (ops.Lease l)) ≡ f (told_segment names t)
      = ap (weight_kept names f) (settled names es c id (ops.Lease l) (Grant t terms) request) in
      let none : ending_at granted_es (names t.arena) base c.outstanding ≡ 0 = omega (
        arith,
        ends names es c id (ops.Lease l) (Grant t terms) request (names t.arena) base,
        request.known.ending (names t.arena) base,
        standing,
      ) in
      let whole = left_whole names c.incarnation granted_es c.outstanding f (lease_of id t) none in
      omega (
        arith,
        request.known.held f,
        due_after names es c id (ops.Lease l) (Grant t terms) request f,
        due,
        left_after names es c id (ops.Lease l) (Grant t terms) request f (leases_of c.id es),
        sum_push (weight_left names c.incarnation granted_es c.outstanding f) (leases_of c.id es) (lease_of id t),
        whole,
        weighs f,
      )

  own_granted : IsKnown names granted_es c
  own_granted = known_after names es c id (ops.Lease l) (Grant t terms) request (leases_of c.id es ++ lease_of id t ∷ [])
      (leases_now names es c id (ops.Lease l) (Grant t terms) request) granted_once granted_ending granted_held

-- It is refused.

module _ (names : ℕ → List ℕ) (es : List Entry) (c : ClientState) (id : RequestId) (op : Op) (why : Refusal)
    (request : IsOpenRequest names es c id op) where
  abbrev refused_es : List Entry
  refused_es = Settled id (Refuse why) ∷ es

  refused_due : (f : HeldSegment → ℕ) (asked : Op) → outcome_of id refused_es ≡ Some (kept_settlement id.number (Refuse why))
      → weight_due names f refused_es (lines.Request id asked) ≡ 0
  refused_due f (ops.Lease l) is = ap (weight_kept names f) is
  refused_due f (ops.Release r) is = refl

  own_refused : IsKnown names refused_es c
  own_refused = known_after names es c id op (Refuse why) request (leases_of c.id es)
      (leases_now names es c id op (Refuse why) request)
      request.known.once
      (λ a b. omega (arith, ends names es c id op (Refuse why) request a b, request.known.ending a b))
      (λ f. omega (
        arith,
        request.known.held f,
        due_after names es c id op (Refuse why) request f,
        refused_due f op (settled names es c id op (Refuse why) request),
        left_after names es c id op (Refuse why) request f (leases_of c.id es),
      ))

-- A lease is given back.

module _ (names : ℕ → List ℕ) (es : List Entry) (c : ClientState) (id : RequestId) (r : _) (a b : ℕ)
    (request : IsOpenRequest names es c id (ops.Release r)) (home : names a ≡ r.arena) (at : b ≡ r.base) where
  abbrev returned_es : List Entry
  returned_es = Settled id (Return a b) ∷ es

  abbrev others : List Lease
  others = without_first (is_lease id.incarnation a b) (leases_of c.id es)

  -- what is taken away stood where the release says
  taken_at : (x : Lease) → is_lease id.incarnation a b x ≡ true → (names x.segment.arena ≡ r.arena) × (x.segment.holding.range.base ≡ r.base)
  taken_at x is = let keys = lease_keys id.incarnation a b x is in (ap names (sym keys.1) ∙ home, sym keys.2 ∙ at)

  -- and nothing was left of it
  taken_none : (f : HeldSegment → ℕ) (x : Lease) → is_lease id.incarnation a b x ≡ true → weight_left names c.incarnation es c.outstanding f x ≡ 0
  taken_none f x is =
      let place = taken_at x is in
      let there = ending_there names c.incarnation es c.outstanding r.arena r.base x (at_place r.arena r.base (told_segment names x.segment) place.0 place.1) in
      left_ended names c.incarnation es c.outstanding f x (omega (
        arith,
        there,
        ends names es c id (ops.Release r) (Return a b) request r.arena r.base,
        ending_here es id r request.unsettled,
      ))

  -- it counted at the release's place only
  taken_most : (x : List ℕ) (y : ℕ) (lease : Lease) → is_lease id.incarnation a b lease ≡ true
      → weight_in names c.incarnation (one_at x y) lease ≤ one_ending es x y (lines.Request id (ops.Release r))
  taken_most x y lease is = elim (cases_Bool (is_at x y segment)) as (λ _. weight_in names c.incarnation (one_at x y) lease ≤ one_ending es x y (lines.Request id (ops.Release r))) [
    | inl here ↦ (let place = same_place x y segment here in
        let stood = taken_at lease is in
        let counts : one_ending es x y (lines.Request id (ops.Release r)) ≡ 1
        = ap (λ (n : List ℕ). one_ending es n y (lines.Request id (ops.Release r))) (sym place.0 ∙ stood.0)
        ∙ (ap (λ (n : ℕ). one_ending es r.arena n (lines.Request id (ops.Release r))) (sym place.1 ∙ stood.1) ∙ ending_here es id r request.unsettled) in
        omega (arith, in_most names c.incarnation (one_at x y) lease, one_here x y segment here, counts))
    | inr away ↦ omega (arith, in_most names c.incarnation (one_at x y) lease, none_here x y segment away)
  ]
    where
      segment : HeldSegment
      segment = told_segment names lease.segment

  own_returned : IsKnown names returned_es c
  own_returned = known_after names es c id (ops.Release r) (Return a b) request others
      (leases_now names es c id (ops.Release r) (Return a b) request)
      (λ x y. omega (arith, request.known.once x y, without_less (weight_in names c.incarnation (one_at x y)) (is_lease id.incarnation a b) (leases_of c.id es)))
      (λ x y. omega (
        arith,
        ends names es c id (ops.Release r) (Return a b) request x y,
        request.known.ending x y,
        without_most (weight_in names c.incarnation (one_at x y)) (one_ending es x y (lines.Request id (ops.Release r))) (is_lease id.incarnation a b) (leases_of c.id es) (taken_most x y),
      ))
      (λ f. omega (
        arith,
        request.known.held f,
        due_after names es c id (ops.Release r) (Return a b) request f,
        without_keeps (weight_left names c.incarnation es c.outstanding f) (is_lease id.incarnation a b) (leases_of c.id es) (taken_none f),
        left_after names es c id (ops.Release r) (Return a b) request f others,
      ))

pub own_settled : (names : ℕ → List ℕ) (es : List Entry) (c : ClientState) (id : RequestId) (op : Op) (s : Settlement) → IsOpenRequest names es c id op
    → IsFor names op s → IsApart names id (leases_of id.client es) s → IsKnown names (Settled id s ∷ es) c
own_settled names es c id (ops.Lease l) (Grant t terms) request is apart = own_granted names es c id l t terms request apart
own_settled names es c id (ops.Lease l) (Return a b) request is apart = absurd is
own_settled names es c id (ops.Lease l) (Refuse why) request is apart = own_refused names es c id (ops.Lease l) why request
own_settled names es c id (ops.Release r) (Grant t terms) request is apart = absurd is
own_settled names es c id (ops.Release r) (Return a b) request is apart = own_returned names es c id r a b request is.0 is.1
own_settled names es c id (ops.Release r) (Refuse why) request is apart = own_refused names es c id (ops.Release r) why request
