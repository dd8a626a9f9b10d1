-- What the lines that wait weigh, as requests are settled.
use Rattle.std.proofs.Common.{◌≡◌, ◌≢◌, ℕ, ◌+◌, ◌<◌, ◌≤◌, ◌==◌, nat_eq, Bool, true, false, cond, List, [], ◌∷◌, Some, None, sum_by, refl, sym, ap, ◌∙◌, arith}
use Rattle.std.proofs.lemmas.Bool.{eqb-true, eqb-false, ne_eqb}
use Rattle.std.proofs.lemmas.List.Sums.{sum_by-cons}
use Rattle.lease_terms.specs.Requests.{RequestId}
use Rattle.lease_terms.specs.Protocols.{window_of}
use Rattle.lease_terms.specs.declared.protocols.Protocol.{Protocol}
use Rattle.lease_proto.specs.declared.lines.Line.{Line}
use Rattle.lease_proto.specs.declared.lines.Line.TheVariants as lines
use Rattle.lease_proto.specs.declared.lines.HelloLine.{HelloLine}
use Rattle.lease_proto.specs.declared.lines.Op.{Op}
use Rattle.lease_proto.specs.declared.lines.Op.TheVariants as ops
use Rattle.lease_book.specs.Entry.{Entry, Settlement, Settled}
use Rattle.lease_book.specs.History.{outcome_of}
use Rattle.lease_book.proofs.LawProofs.{outcomes_stay}
use Rattle.lease_client.specs.declared.held.HeldSegment.{HeldSegment}
use Rattle.lease_client.specs.ClientState.{ClientState, IsSoundClient, is_numbered, line_at, AreRequests, AreOwn}
use Rattle.lease_client.proofs.LawProofs.{found_own, found_above}
use Rattle.lease_history.specs.Known.{weight_kept, weight_due, one_ending, ending_at}
use Rattle.lease_history.proofs.Sums.{sum_one}
use Rattle.lease_history.proofs.PlaceLemmas.{ending_same}

-- where a request waits, all that wait are requests of an open client, in the window
window_at : (c i : ℕ) (p : Protocol) (next n : ℕ) (o : Bool) (ls : List Line) (id : RequestId) (op : Op) → AreOwn c i p next o ls
    → line_at n ls ≡ Some (lines.Request id op) → (o ≡ true) × (next ≤ n + window_of p) × AreRequests c i 1 next ls
window_at c i p next n o [] id op own waits = absurd cc
window_at c i p next n o (lines.Hello h ∷ ls) id op own waits =
    let never : None ≡ Some (lines.Request id op) = sym (ap (line_at n) own.5) ∙ waits in
    absurd cc
window_at c i p next n o (lines.Request first asks ∷ ls) id op own waits = (own.0, omega (arith, own.2, least), own.1)
  where
    from_first : AreRequests c i first.number next (lines.Request first asks ∷ ls)
    from_first = (own.1.0, own.1.1, omega arith, own.1.3, own.1.4)

    least : first.number ≤ n
    least = found_above c i first.number next n (lines.Request first asks ∷ ls) (lines.Request id op) from_first waits

-- where a request waits, all that wait are requests
pub requests_of : (c i : ℕ) (p : Protocol) (next n : ℕ) (o : Bool) (ls : List Line) (id : RequestId) (op : Op) → AreOwn c i p next o ls
    → line_at n ls ≡ Some (lines.Request id op) → AreRequests c i 1 next ls
requests_of c i p next n o [] id op own waits = tt
requests_of c i p next n o (lines.Hello h ∷ ls) id op own waits =
    let never : None ≡ Some (lines.Request id op) = sym (ap (line_at n) own.5) ∙ waits in
    absurd cc
requests_of c i p next n o (lines.Request first asks ∷ ls) id op own waits = own.1

-- a request of an open client that waits, in the window below the next number
pub record IsOneOf (c : ClientState) (n : ℕ) (id : RequestId) : Type 0 where
  pub opened : c.is_open ≡ true
  pub client : id.client ≡ c.id
  pub incarnation : id.incarnation ≡ c.incarnation
  pub number : n ≡ id.number
  pub below : n < c.next
  pub near : c.next ≤ n + window_of c.protocol

pub one_of : (c : ClientState) (n : ℕ) (id : RequestId) (op : Op) → IsSoundClient c → line_at n c.outstanding ≡ Some (lines.Request id op) → IsOneOf c n id
one_of c n id op is waits = record {
  opened = whole.0;
  client = own.0;
  incarnation = own.1;
  number = own.2;
  below = own.3;
  near = whole.1;
}
  where
    whole : (c.is_open ≡ true) × (c.next ≤ n + window_of c.protocol) × AreRequests c.id c.incarnation 1 c.next c.outstanding
    whole = window_at c.id c.incarnation c.protocol c.next n c.is_open c.outstanding id op is.outstanding waits

    own : (id.client ≡ c.id) × (id.incarnation ≡ c.incarnation) × (n ≡ id.number) × (n < c.next)
    own = found_own c.id c.incarnation 1 c.next n c.outstanding id op whole.2 waits

-- the next number waits nowhere
pub none_next : (c i from next n : ℕ) (ls : List Line) → next ≤ n → AreRequests c i from next ls → line_at n ls ≡ None
none_next c i from next n [] past are = refl
none_next c i from next n (lines.Hello h ∷ ls) past are = absurd are
none_next c i from next n (lines.Request id op ∷ ls) past are =
    let differs : nat_eq n id.number ≡ false = ne_eqb n id.number (λ e. omega (arith, past, are.3, e)) in
    (λ j. cond (differs j) (Some (lines.Request id op)) (line_at n ls)) ∙ none_next c i (id.number + 1) next n ls past are.4

-- Two measures that differ at one number only.

module _ (g h : Line → ℕ) where
  same_above : (c i from next n : ℕ) (ls : List Line) → n < from → AreRequests c i from next ls
      → ((line : Line) → is_numbered n line ≡ false → g line ≡ h line) → sum_by g ls ≡ sum_by h ls
  same_above c i from next n [] low are same = refl
  same_above c i from next n (lines.Hello x ∷ ls) low are same = absurd are
  same_above c i from next n (lines.Request id op ∷ ls) low are same =
      let differs : nat_eq n id.number ≡ false = ne_eqb n id.number (λ e. omega (arith, low, are.2, e)) in
      omega (
        arith,
        same (lines.Request id op) differs,
        same_above c i (id.number + 1) next n ls (omega (arith, low, are.2)) are.4 same,
        sum_by-cons g (lines.Request id op) ls,
        sum_by-cons h (lines.Request id op) ls,
      )

  pub changed_at : (c i from next n : ℕ) (ls : List Line) (line : Line) → AreRequests c i from next ls → line_at n ls ≡ Some line
      → ((other : Line) → is_numbered n other ≡ false → g other ≡ h other) → sum_by g ls + h line ≡ sum_by h ls + g line
  changed_at c i from next n [] line are at same = absurd cc
  changed_at c i from next n (lines.Hello x ∷ ls) line are at same = absurd are
  changed_at c i from next n (lines.Request id op ∷ ls) line are at same = by (nat_eq n id.number) refl at (changed_at c i (id.number + 1) next n ls line are.4)
    where
      first : Line
      first = lines.Request id op

      by : (b : Bool) → nat_eq n id.number ≡ b → cond b (Some first) (line_at n ls) ≡ Some line
          → (line_at n ls ≡ Some line → ((other : Line) → is_numbered n other ≡ false → g other ≡ h other) → sum_by g ls + h line ≡ sum_by h ls + g line)
          → sum_by g (first ∷ ls) + h line ≡ sum_by h (first ∷ ls) + g line
      by true is at rest =
          let here : first ≡ line = cc in
          let number : n ≡ id.number = eqb-true n id.number is in
          omega (
            arith,
            ap g here,
            ap h here,
            same_above c i (id.number + 1) next n ls (omega (arith, number)) are.4 same,
            sum_by-cons g first ls,
            sum_by-cons h first ls,
          )
      by false is at rest = omega (arith, same first is, rest at same, sum_by-cons g first ls, sum_by-cons h first ls)

  requests_same : (c i from next : ℕ) (ls : List Line) → AreRequests c i from next ls
      → ((id : RequestId) (op : Op) → id.client ≡ c → id.incarnation ≡ i → g (lines.Request id op) ≡ h (lines.Request id op))
      → sum_by g ls ≡ sum_by h ls
  requests_same c i from next [] are same = refl
  requests_same c i from next (lines.Hello x ∷ ls) are same = absurd are
  requests_same c i from next (lines.Request id op ∷ ls) are same = omega (
    arith,
    same id op are.0 are.1,
    requests_same c i (id.number + 1) next ls are.4 same,
    sum_by-cons g (lines.Request id op) ls,
    sum_by-cons h (lines.Request id op) ls,
  )

  -- and two that agree at all that a client may send
  pub own_same : (c i : ℕ) (p : Protocol) (next : ℕ) (o : Bool) (ls : List Line) → AreOwn c i p next o ls → ((x : HelloLine) → g (lines.Hello x) ≡ h (lines.Hello x))
      → ((id : RequestId) (op : Op) → id.client ≡ c → id.incarnation ≡ i → g (lines.Request id op) ≡ h (lines.Request id op))
      → sum_by g ls ≡ sum_by h ls
  own_same c i p next o [] own hellos same = refl
  own_same c i p next o (lines.Hello x ∷ ls) own hellos same = omega (
    arith,
    hellos x,
    ap (λ (more : List Line). sum_by g (lines.Hello x ∷ more)) own.5,
    ap (λ (more : List Line). sum_by h (lines.Hello x ∷ more)) own.5,
    sum_one g (lines.Hello x),
    sum_one h (lines.Hello x),
  )
  own_same c i p next o (lines.Request id op ∷ ls) own hellos same = requests_same c i 1 next (lines.Request id op ∷ ls) own.1 same

-- What is due, and what ends, after a request was settled.

pub due_same : (names : ℕ → List ℕ) (f : HeldSegment → ℕ) (es fs : List Entry) (id : RequestId) (op : Op) → outcome_of id fs ≡ outcome_of id es
    → weight_due names f fs (lines.Request id op) ≡ weight_due names f es (lines.Request id op)
due_same names f es fs id (ops.Lease l) same = ap (weight_kept names f) same
due_same names f es fs id (ops.Release r) same = refl

-- what isn't settled isn't due
pub due_none : (names : ℕ → List ℕ) (f : HeldSegment → ℕ) (es : List Entry) (id : RequestId) (op : Op) → outcome_of id es ≡ None
    → weight_due names f es (lines.Request id op) ≡ 0
due_none names f es id (ops.Lease l) none = ap (weight_kept names f) none
due_none names f es id (ops.Release r) none = refl

module _ (es : List Entry) (id : RequestId) (s : Settlement) where
  abbrev after : List Entry
  after = Settled id s ∷ es

  -- the others' requests stand as they did
  module _ (c i : ℕ) (p : Protocol) (next : ℕ) (o : Bool) (ls : List Line) (other : (c ≡ id.client) × (i ≡ id.incarnation) → ⊥) (own : AreOwn c i p next o ls) where
    pub outcome_others : (mine : RequestId) → mine.client ≡ c → mine.incarnation ≡ i → outcome_of mine after ≡ outcome_of mine es
    outcome_others mine client incarnation = outcomes_stay.others es id s mine
        (λ same. other (sym client ∙ ap (λ (x : RequestId). x.client) same, sym incarnation ∙ ap (λ (x : RequestId). x.incarnation) same))

    pub due_others : (names : ℕ → List ℕ) (f : HeldSegment → ℕ) → sum_by (weight_due names f after) ls ≡ sum_by (weight_due names f es) ls
    due_others names f = own_same (weight_due names f after) (weight_due names f es) c i p next o ls own (λ x. refl)
        (λ mine op client incarnation. due_same names f es after mine op (outcome_others mine client incarnation))

    pub ending_others : (arena : List ℕ) (base : ℕ) → ending_at after arena base ls ≡ ending_at es arena base ls
    ending_others arena base = own_same (one_ending after arena base) (one_ending es arena base) c i p next o ls own (λ x. refl)
        (λ mine op client incarnation. ending_same es after arena base mine op (outcome_others mine client incarnation))

  -- of the client's own only this one changes
  module _ (c i next : ℕ) (ls : List Line) (op : Op) (are : AreRequests c i 1 next ls) (waits : line_at id.number ls ≡ Some (lines.Request id op)) where
    differs : (mine : RequestId) → (id.number == mine.number) ≡ false → mine ≢ id
    differs mine other same = eqb-false id.number mine.number other (ap (λ (x : RequestId). x.number) (sym same))

    pub due_own : (names : ℕ → List ℕ) (f : HeldSegment → ℕ)
        → sum_by (weight_due names f after) ls + weight_due names f es (lines.Request id op)
        ≡ sum_by (weight_due names f es) ls + weight_due names f after (lines.Request id op)
    due_own names f = changed_at (weight_due names f after) (weight_due names f es) c i 1 next id.number ls (lines.Request id op) are waits same
      where
        same : (line : Line) → is_numbered id.number line ≡ false → weight_due names f after line ≡ weight_due names f es line
        same (lines.Hello h) other = refl
        same (lines.Request mine asks) other = due_same names f es after mine asks (outcomes_stay.others es id s mine (differs mine other))

    pub ending_own : (arena : List ℕ) (base : ℕ)
        → ending_at after arena base ls + one_ending es arena base (lines.Request id op)
        ≡ ending_at es arena base ls + one_ending after arena base (lines.Request id op)
    ending_own arena base = changed_at (one_ending after arena base) (one_ending es arena base) c i 1 next id.number ls (lines.Request id op) are waits same
      where
        same : (line : Line) → is_numbered id.number line ≡ false → one_ending after arena base line ≡ one_ending es arena base line
        same (lines.Hello h) other = refl
        same (lines.Request mine asks) other = ending_same es after arena base mine asks (outcomes_stay.others es id s mine (differs mine other))
