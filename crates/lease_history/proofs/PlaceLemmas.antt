-- What stands, and what ends, at one base of one arena.
use Rattle.std.proofs.Common.{◌≡◌, inl, inr, ℕ, ◌≤◌, ◌==◌, ◌&&◌, Bool, true, false, not, cond, List, [], ◌∷◌, filter, Option, Some, None, is_none, sum_by, refl, ap, ◌∙◌, arith, eq-eqb}
use Rattle.std.specs.Str.{bytes_eq}
use Rattle.std.specs.List.{All}
use Rattle.std.proofs.lemmas.Slice.Eq.{bytes_eq-Decides}
use Rattle.std.proofs.lemmas.Bool.{and_parts, and_from, eqb-true, ne_eqb, cases_Bool, cond-true, cond-false}
use Rattle.std.proofs.lemmas.List.Sums.{sum_by-cons}
use Rattle.lease_terms.specs.Requests.{RequestId}
use Rattle.lease_proto.specs.declared.lines.Line.{Line}
use Rattle.lease_proto.specs.declared.lines.Line.TheVariants as lines
use Rattle.lease_proto.specs.declared.lines.Op.{Op}
use Rattle.lease_proto.specs.declared.lines.Op.TheVariants as ops
use Rattle.lease_book.specs.Receipts.{Kept}
use Rattle.lease_book.specs.Entry.{Entry}
use Rattle.lease_book.specs.Account.{Lease, is_lease}
use Rattle.lease_book.specs.History.{outcome_of}
use Rattle.lease_client.specs.declared.held.HeldSegment.{HeldSegment}
use Rattle.lease_client.specs.ClientState.{is_at, holds_at}
use Rattle.lease_history.specs.Known.{told_segment, weight_in, one_at, leased_at, one_ending, ending_at, weight_left}
use Rattle.lease_history.proofs.Sums.{sum_le, sum_none, filter_gives, none_or_some}

-- a place is of one arena, at one base
pub same_place : (arena : List ℕ) (base : ℕ) (s : HeldSegment) → is_at arena base s ≡ true → (s.arena ≡ arena) × (s.base ≡ base)
same_place arena base s is =
    let parts = and_parts (bytes_eq s.arena arena) (s.base == base) is in
    ((bytes_eq-Decides s.arena arena).0 parts.0, eqb-true s.base base parts.1)

pub at_place : (arena : List ℕ) (base : ℕ) (s : HeldSegment) → s.arena ≡ arena → s.base ≡ base → is_at arena base s ≡ true
at_place arena base s home at = and_from _ _ ((bytes_eq-Decides s.arena arena).1 home) (eq-eqb s.base base at)

pub one_here : (arena : List ℕ) (base : ℕ) (s : HeldSegment) → is_at arena base s ≡ true → one_at arena base s ≡ 1
one_here arena base s is = cond-true (is_at arena base s) 1 0 is

pub none_here : (arena : List ℕ) (base : ℕ) (s : HeldSegment) → is_at arena base s ≡ false → one_at arena base s ≡ 0
none_here arena base s is = cond-false (is_at arena base s) 1 0 is

-- what is held there counts
pub held_here : (arena : List ℕ) (base : ℕ) (held : List HeldSegment) → holds_at arena base held ≡ true → 1 ≤ sum_by (one_at arena base) held
held_here arena base held is =
    omega (arith, filter_gives (one_at arena base) 1 (is_at arena base) held (one_here arena base) is)

-- what is weighed elsewhere than there
abbrev pub elsewhere : List ℕ → ℕ → (HeldSegment → ℕ) → HeldSegment → ℕ
elsewhere arena base f s = cond (is_at arena base s) 0 (f s)

pub held_elsewhere : (arena : List ℕ) (base : ℕ) (f : HeldSegment → ℕ) (held : List HeldSegment)
    → sum_by f (filter (λ s. not (is_at arena base s)) held) ≡ sum_by (elsewhere arena base f) held
held_elsewhere arena base f [] = refl
held_elsewhere arena base f (s ∷ held) = by (is_at arena base s) refl (held_elsewhere arena base f held)
  where
    others : List HeldSegment
    others = filter (λ s. not (is_at arena base s)) held

    by : (b : Bool) → is_at arena base s ≡ b → sum_by f others ≡ sum_by (elsewhere arena base f) held
        → sum_by f (cond (not b) (s ∷ others) others) ≡ sum_by (elsewhere arena base f) (s ∷ held)
    by true is rest = omega (arith, rest, cond-true (is_at arena base s) 0 (f s) is, sum_by-cons (elsewhere arena base f) s held)
    by false is rest = omega (arith, rest, cond-false (is_at arena base s) 0 (f s) is, sum_by-cons f s others, sum_by-cons (elsewhere arena base f) s held)

-- Releases that aren't settled.

pub ending_most : (es : List Entry) (arena : List ℕ) (base : ℕ) (line : Line) → one_ending es arena base line ≤ 1
ending_most es arena base (lines.Hello h) = omega arith
ending_most es arena base (lines.Request id (ops.Lease l)) = omega arith
ending_most es arena base (lines.Request id (ops.Release r)) = by (is_none (outcome_of id es) && (bytes_eq r.arena arena && (r.base == base)))
  where
    by : (b : Bool) → cond b 1 0 ≤ 1
    by true = omega arith
    by false = omega arith

-- one that is counted is of the place
pub ending_place : (es : List Entry) (arena : List ℕ) (base : ℕ) (id : RequestId) (r : _) → 1 ≤ one_ending es arena base (lines.Request id (ops.Release r))
    → (r.arena ≡ arena) × (r.base ≡ base)
ending_place es arena base id r some = by (is_none (outcome_of id es)) (bytes_eq r.arena arena) (r.base == base) refl refl some
  where
    by : (n a b : Bool) → bytes_eq r.arena arena ≡ a → (r.base == base) ≡ b → 1 ≤ cond (n && (a && b)) 1 0 → (r.arena ≡ arena) × (r.base ≡ base)
    by true true true home at some = ((bytes_eq-Decides r.arena arena).0 home, eqb-true r.base base at)
    by true true false home at some = absurd (omega (arith, some))
    by true false b home at some = absurd (omega (arith, some))
    by false a b home at some = absurd (omega (arith, some))

-- one of the place counts
pub ending_here : (es : List Entry) (id : RequestId) (r : _) → outcome_of id es ≡ None → one_ending es r.arena r.base (lines.Request id (ops.Release r)) ≡ 1
ending_here es id r none =
    ap (λ (o : Option Kept). cond (is_none o && (bytes_eq r.arena r.arena && (r.base == r.base))) 1 0) none
    ∙ cond-true _ 1 0 (and_from _ _ ((bytes_eq-Decides r.arena r.arena).1 refl) (eq-eqb r.base r.base refl))

-- and one that is settled doesn't
pub settled_ends : (es : List Entry) (arena : List ℕ) (base : ℕ) (id : RequestId) (op : Op) (k : Kept) → outcome_of id es ≡ Some k
    → one_ending es arena base (lines.Request id op) ≡ 0
settled_ends es arena base id (ops.Lease l) k is = refl
settled_ends es arena base id (ops.Release r) k is = ap (λ (o : Option Kept). cond (is_none o && (bytes_eq r.arena arena && (r.base == base))) 1 0) is

pub ending_same : (es fs : List Entry) (arena : List ℕ) (base : ℕ) (id : RequestId) (op : Op) → outcome_of id fs ≡ outcome_of id es
    → one_ending fs arena base (lines.Request id op) ≡ one_ending es arena base (lines.Request id op)
ending_same es fs arena base id (ops.Lease l) same = refl
ending_same es fs arena base id (ops.Release r) same = ap (λ (o : Option Kept). cond (is_none o && (bytes_eq r.arena arena && (r.base == base))) 1 0) same

-- What leases weigh.

module _ (names : ℕ → List ℕ) (i : ℕ) where
  pub in_most : (f : HeldSegment → ℕ) (l : Lease) → weight_in names i f l ≤ f (told_segment names l.segment)
  in_most f l = by (i == l.incarnation)
    where
      by : (z : Bool) → cond z (f (told_segment names l.segment)) 0 ≤ f (told_segment names l.segment)
      by true = omega arith
      by false = omega arith

  pub in_other : (f : HeldSegment → ℕ) (l : Lease) → (i ≡ l.incarnation → ⊥) → weight_in names i f l ≡ 0
  in_other f l other = cond-false (i == l.incarnation) (f (told_segment names l.segment)) 0 (ne_eqb i l.incarnation other)

  pub in_own : (f : HeldSegment → ℕ) (l : Lease) → i ≡ l.incarnation → weight_in names i f l ≡ f (told_segment names l.segment)
  in_own f l own = cond-true (i == l.incarnation) (f (told_segment names l.segment)) 0 (eq-eqb i l.incarnation own)

  -- whether a release waits for the lease
  abbrev pub ending_of : List Entry → List Line → Lease → ℕ
  ending_of es ls l = ending_at es (names l.segment.arena) l.segment.holding.range.base ls

  pub left_most : (es : List Entry) (ls : List Line) (f : HeldSegment → ℕ) (l : Lease) → weight_left names i es ls f l ≤ weight_in names i f l
  left_most es ls f l = by (ending_of es ls l == 0)
    where
      by : (z : Bool) → cond z (weight_in names i f l) 0 ≤ weight_in names i f l
      by true = omega arith
      by false = omega arith

  pub left_whole : (es : List Entry) (ls : List Line) (f : HeldSegment → ℕ) (l : Lease) → ending_of es ls l ≡ 0
      → weight_left names i es ls f l ≡ weight_in names i f l
  left_whole es ls f l none = cond-true (ending_of es ls l == 0) (weight_in names i f l) 0 (eq-eqb (ending_of es ls l) 0 none)

  pub left_ended : (es : List Entry) (ls : List Line) (f : HeldSegment → ℕ) (l : Lease) → 1 ≤ ending_of es ls l → weight_left names i es ls f l ≡ 0
  left_ended es ls f l some = cond-false (ending_of es ls l == 0) (weight_in names i f l) 0 (ne_eqb (ending_of es ls l) 0 (λ e. omega (arith, e, some)))

  -- with no more releases, as much is left
  pub left_more : (es fs : List Entry) (ls ms : List Line) (f g : HeldSegment → ℕ) (l : Lease) → ending_of fs ms l ≤ ending_of es ls l
      → f (told_segment names l.segment) ≤ g (told_segment names l.segment) → weight_left names i es ls f l ≤ weight_left names i fs ms g l
  left_more es fs ls ms f g l fewer more = elim (none_or_some (ending_of es ls l)) as (λ _. weight_left names i es ls f l ≤ weight_left names i fs ms g l) [
    | inl none ↦ omega (arith, left_whole es ls f l none, left_whole fs ms g l (omega (arith, none, fewer)), weighs (i == l.incarnation))
    | inr some ↦ omega (arith, left_ended es ls f l some)
  ]
    where
      weighs : (z : Bool) → cond z (f (told_segment names l.segment)) 0 ≤ cond z (g (told_segment names l.segment)) 0
      weighs true = more
      weighs false = omega arith

  -- a lease at the place that releases wait for
  pub ending_there : (es : List Entry) (ls : List Line) (arena : List ℕ) (base : ℕ) (l : Lease) → is_at arena base (told_segment names l.segment) ≡ true
      → ending_of es ls l ≡ ending_at es arena base ls
  ending_there es ls arena base l is =
      let place = same_place arena base (told_segment names l.segment) is in
      ap (λ (a : List ℕ). ending_at es a l.segment.holding.range.base ls) place.0 ∙ ap (λ (b : ℕ). ending_at es arena b ls) place.1

  -- where a release waits nothing is left
  pub none_left : (es : List Entry) (ls : List Line) (arena : List ℕ) (base : ℕ) → 1 ≤ ending_at es arena base ls
      → (l : Lease) → weight_left names i es ls (one_at arena base) l ≡ 0
  none_left es ls arena base some l = by (is_at arena base (told_segment names l.segment)) refl
    where
      by : (b : Bool) → is_at arena base (told_segment names l.segment) ≡ b → weight_left names i es ls (one_at arena base) l ≡ 0
      by true is = left_ended es ls (one_at arena base) l (omega (arith, some, ending_there es ls arena base l is))
      by false is = omega (arith, left_most es ls (one_at arena base) l, in_most (one_at arena base) l, none_here arena base (told_segment names l.segment) is)

  pub leased_most : (es : List Entry) (ls : List Line) (arena : List ℕ) (base : ℕ) (leases : List Lease)
      → sum_by (weight_left names i es ls (one_at arena base)) leases ≤ leased_at names i arena base leases
  leased_most es ls arena base leases = sum_le (weight_left names i es ls (one_at arena base)) (weight_in names i (one_at arena base)) (left_most es ls (one_at arena base)) leases

-- where no lease of the list is of this arena and base, none stands there
pub none_leased : (names : ℕ → List ℕ) (i : ℕ) (arena : List ℕ) (base : ℕ) (leases : List Lease)
    → All (λ (l : Lease). names l.segment.arena ≡ arena → l.segment.holding.range.base ≡ base → ⊥) leases → leased_at names i arena base leases ≡ 0
none_leased names i arena base leases all = sum_none (λ (l : Lease). names l.segment.arena ≡ arena → l.segment.holding.range.base ≡ base → ⊥)
    (weight_in names i (one_at arena base)) (λ l apart. none l apart) leases all
  where
    none : (l : Lease) → (names l.segment.arena ≡ arena → l.segment.holding.range.base ≡ base → ⊥) → weight_in names i (one_at arena base) l ≡ 0
    none l apart = elim (cases_Bool (is_at arena base (told_segment names l.segment))) as (λ _. weight_in names i (one_at arena base) l ≡ 0) [
      | inl here ↦ absurd (let place = same_place arena base (told_segment names l.segment) here in apart place.0 place.1)
      | inr away ↦ omega (arith, in_most names i (one_at arena base) l, none_here arena base (told_segment names l.segment) away)
    ]

-- the keys of a lease
pub lease_keys : (i a b : ℕ) (l : Lease) → is_lease i a b l ≡ true
    → (i ≡ l.incarnation) × (a ≡ l.segment.arena) × (b ≡ l.segment.holding.range.base)
lease_keys i a b l is =
    let parts = and_parts (i == l.incarnation) ((a == l.segment.arena) && (b == l.segment.holding.range.base)) is in
    let rest = and_parts (a == l.segment.arena) (b == l.segment.holding.range.base) parts.1 in
    (eqb-true i l.incarnation parts.0, eqb-true a l.segment.arena rest.0, eqb-true b l.segment.holding.range.base rest.1)
