-- No two segments that clients hold of arenas with one top have a unit in common, and what a hand
-- has stands apart from what is leased.
use Rattle.std.proofs.Common.{◌≡◌, ◌≢◌, ◌⊎◌, ℕ, zero, suc, ◌+◌, ◌<◌, ◌≤◌, ◌==◌, nat_eq, Bool, true, false, ◌||◌, ◌&&◌, List, [], ◌∷◌, ◌++◌, length, get_or, Some, None, refl, sym, subst, ap, ◌∙◌, inl, inr, arith}
use Rattle.std.specs.Prelude.{slice_get, if◌then◌else◌, sum_by}
use Rattle.std.specs.List.{IsDistinct}
use Rattle.std.specs.Str.{bytes_eq}
use Rattle.std.proofs.lemmas.Option.{slice_get_within, get_or_from_slice_get}
use Rattle.std.proofs.lemmas.List.Sums.{sum_by-cons, sum_by-append}
use Rattle.std.proofs.lemmas.Bool.Decides.{nat_tests}
use Rattle.std.proofs.lemmas.Slice.Eq.{bytes_eq-Decides}
use Rattle.deed_core.specs.Tag.{Tag}
use Rattle.deed_core.specs.Extent.{Extent, IsRange, Covers}
use Rattle.deed_core.specs.Covering.{covers}
use Rattle.deed_core.proofs.LawProofs.{covers_is, sum_by-map, slice_get_some, all_at}
use Rattle.stock.specs.Laws.{HasTop, ApartUpChain}
use Rattle.stock_audit.specs.Outside.{segments_out}
use Rattle.stock_audit.specs.Chains.{AreTops}
use Rattle.stock.specs.OwnCaches.{all_own_rounds}
use Rattle.stock_audit.proofs.LawProofs.{out_never_overlaps, tops_stand}
use Rattle.lease_terms.specs.Requests.{RequestId, IsRequestId}
use Rattle.lease_book.specs.Account.{Lease, Account, granted_request}
use Rattle.lease_book.specs.BookState.{segments, leased_segments, weight_of_leases}
use Rattle.lease_book.specs.ClientLaws.{IsInBounds}
use Rattle.lease_book.specs.History.{account, leases_of}
use Rattle.lease_book.proofs.LawProofs.{account_is, books_in_bounds, leases_are_the_clients}
use Rattle.lease_client.specs.declared.held.HeldSegment.{HeldSegment}
use Rattle.lease_client.specs.ClientState.{ClientState}
use Rattle.lease_history.specs.Known.{told_segment, weight_in, one_at, leased_at}
use Rattle.world_core.specs.WorldState.{WorldState, arena_name, in_hands, outside_of}
use Rattle.world_core.specs.IsWorld.{IsWorld}
use Rattle.world_core.specs.Safe.{CoversIn, HeldApart}
use Rattle.world_core.proofs.HandLemmas.{hand_set}

-- Sums of lists.

at_index : {X : Type 0} (f : X → ℕ) (xs : List X) (i : ℕ) (x : X) → slice_get xs i ≡ Some x → f x ≤ sum_by f xs
at_index f [] i x at = absurd (let e : None ≡ Some x = at in cc)
at_index f (y ∷ xs) zero x at = (let same : f y ≡ f x = ap f (let e : y ≡ x = cc in e) in omega (arith, sum_by-cons f y xs))
at_index f (y ∷ xs) (suc i) x at = omega (arith, at_index f xs i x at, sum_by-cons f y xs)

-- two members at two indexes
at_indexes : {X : Type 0} (f : X → ℕ) (xs : List X) (i j : ℕ) (x y : X) → i ≢ j → slice_get xs i ≡ Some x → slice_get xs j ≡ Some y → f x + f y ≤ sum_by f xs
at_indexes f [] i j x y differ here there = absurd (let e : None ≡ Some x = here in cc)
at_indexes f (z ∷ xs) zero zero x y differ here there = absurd (differ refl)
at_indexes f (z ∷ xs) zero (suc j) x y differ here there = (let same : f z ≡ f x = ap f (let e : z ≡ x = cc in e) in omega (arith, at_index f xs j y there, sum_by-cons f z xs))
at_indexes f (z ∷ xs) (suc i) zero x y differ here there = (let same : f z ≡ f y = ap f (let e : z ≡ y = cc in e) in omega (arith, at_index f xs i x here, sum_by-cons f z xs))
at_indexes f (z ∷ xs) (suc i) (suc j) x y differ here there = omega (arith, at_indexes f xs i j x y (λ e. differ (ap suc e)) here there, sum_by-cons f z xs)

all_nothing : {X : Type 0} (f : X → ℕ) (xs : List X) → ((i : ℕ) (x : X) → slice_get xs i ≡ Some x → f x ≡ 0) → sum_by f xs ≡ 0
all_nothing f [] none = refl
all_nothing f (x ∷ xs) none = omega (arith, none 0 x refl, all_nothing f xs (λ i y at. none (suc i) y at), sum_by-cons f x xs)

-- where no two members weigh something, and none more than 1
at_most_one : {X : Type 0} (f : X → ℕ) (xs : List X) → ((x : X) → f x ≤ 1) → ((i j : ℕ) (x y : X) → i < j → slice_get xs i ≡ Some x → slice_get xs j ≡ Some y → 0 < f x → f y ≡ 0) → sum_by f xs ≤ 1
at_most_one f [] le apart = omega arith
at_most_one f (x ∷ xs) le apart = elim (some_or_none (f x)) [
  | inl none ↦ omega (arith, none, at_most_one f xs le (λ i j y z before a b. apart (suc i) (suc j) y z (omega arith) a b), sum_by-cons f x xs)
  | inr some ↦ omega (arith, le x, all_nothing f xs (λ j y at. apart 0 (suc j) x y (omega arith) refl at some), sum_by-cons f x xs)
]
  where
    some_or_none : (n : ℕ) → (n ≡ 0) ⊎ (0 < n)
    some_or_none zero = inl refl
    some_or_none (suc n) = inr (omega arith)

pub sum_le : {X : Type 0} (f g : X → ℕ) (xs : List X) → ((k : ℕ) (x : X) → slice_get xs k ≡ Some x → f x ≤ g x) → sum_by f xs ≤ sum_by g xs
sum_le f g [] le = omega arith
sum_le f g (x ∷ xs) le = omega (arith, le 0 x refl, sum_le f g xs (λ k y at. le (suc k) y at), sum_by-cons f x xs, sum_by-cons g x xs)

-- What weighs.

-- 1 where the segment is of one of the two arenas and has the unit
weight : List ℕ → List ℕ → ℕ → HeldSegment → ℕ
weight a b unit h = if bytes_eq h.arena a || bytes_eq h.arena b then covers unit (record { base = h.base; len = h.len }) else 0

same_bytes : (a b : List ℕ) → bytes_eq a b ≡ true → a ≡ b
same_bytes a b is = (bytes_eq-Decides a b).0 is

covers_le : (unit : ℕ) (e : Extent) → covers unit e ≤ 1
covers_le unit e = elim (covers_is unit e) [
  | inl is ↦ omega (arith, is.0)
  | inr is ↦ omega (arith, is.0)
]

weight_le : (a b : List ℕ) (unit : ℕ) (h : HeldSegment) → weight a b unit h ≤ 1
unfolding weight
weight_le a b unit h = by (bytes_eq h.arena a || bytes_eq h.arena b)
  where
    by : (x : Bool) → (if x then covers unit (record { base = h.base; len = h.len }) else 0) ≤ 1
    by true = covers_le unit (record { base = h.base; len = h.len })
    by false = omega arith

-- what weighs something is of one of them, and has the unit
weight_some : (a b : List ℕ) (unit : ℕ) (h : HeldSegment) → 0 < weight a b unit h → ((h.arena ≡ a) ⊎ (h.arena ≡ b)) × Covers (record { base = h.base; len = h.len }) unit
unfolding weight
weight_some a b unit h = by (bytes_eq h.arena a) (bytes_eq h.arena b) refl refl
  where
    e : Extent
    e = record { base = h.base; len = h.len }

    has : 0 < covers unit e → Covers e unit
    has some = elim (covers_is unit e) [
      | inl is ↦ (is.1, is.2)
      | inr is ↦ absurd (omega (arith, is.0, some))
    ]

    by : (x y : Bool) → bytes_eq h.arena a ≡ x → bytes_eq h.arena b ≡ y → 0 < (if x || y then covers unit e else 0) → ((h.arena ≡ a) ⊎ (h.arena ≡ b)) × Covers e unit
    by true y p q some = (inl (same_bytes h.arena a p), has some)
    by false true p q some = (inr (same_bytes h.arena b q), has some)
    by false false p q some = absurd (omega (arith, some))

weighs : (a b : List ℕ) (unit : ℕ) (h : HeldSegment) → (h.arena ≡ a) ⊎ (h.arena ≡ b) → Covers (record { base = h.base; len = h.len }) unit → 1 ≤ weight a b unit h
unfolding weight
weighs a b unit h home has = by (bytes_eq h.arena a) (bytes_eq h.arena b) refl refl
  where
    e : Extent
    e = record { base = h.base; len = h.len }

    one : 1 ≤ covers unit e
    one = elim (covers_is unit e) [
      | inl is ↦ omega (arith, is.0)
      | inr is ↦ elim is.1 [
        | inl low ↦ absurd (omega (arith, low, has.0))
        | inr high ↦ absurd (omega (arith, high, has.1))
      ]
    ]

    neither : bytes_eq h.arena a ≡ false → bytes_eq h.arena b ≡ false → ⊥
    neither p q = elim home [
      | inl is ↦ (let t : bytes_eq h.arena a ≡ true = (bytes_eq-Decides h.arena a).1 is in absurd (let x : true ≡ false = sym t ∙ p in cc))
      | inr is ↦ (let t : bytes_eq h.arena b ≡ true = (bytes_eq-Decides h.arena b).1 is in absurd (let x : true ≡ false = sym t ∙ q in cc))
    ]

    by : (x y : Bool) → bytes_eq h.arena a ≡ x → bytes_eq h.arena b ≡ y → 1 ≤ (if x || y then covers unit e else 0)
    by true y p q = one
    by false true p q = one
    by false false p q = absurd (neither p q)

-- Segments that are out.

module _ (w : WorldState) (is : IsWorld w) (top unit : ℕ) (s t : HeldSegment) (first : CoversIn w top unit s) (second : CoversIn w top unit t) where
  abbrev told_weight : Tag → ℕ
  told_weight x = weight s.arena t.arena unit (told_segment (arena_name w.names) x)

  -- what weighs something is under the top and has the unit
  under_top : (x : Tag) → 0 < told_weight x → HasTop w.stock x.arena top × Covers x.holding.range unit
  under_top x some =
      let is_some = weight_some s.arena t.arena unit (told_segment (arena_name w.names) x) some in
      let home : HasTop w.stock x.arena top = elim is_some.0 [
        | inl a ↦ subst (λ (k : ℕ). HasTop w.stock k top) (sym (is.names x.arena first.index first.named.within (a ∙ sym first.named.is))) first.under
        | inr b ↦ subst (λ (k : ℕ). HasTop w.stock k top) (sym (is.names x.arena second.index second.named.within (b ∙ sym second.named.is))) second.under
      ] in
      (home, is_some.1)

  one_out : sum_by told_weight (segments_out (outside_of w)) ≤ 1
  one_out = at_most_one told_weight (segments_out (outside_of w)) (λ x. weight_le s.arena t.arena unit (told_segment (arena_name w.names) x)) apart
    where
      out : List Tag
      out = segments_out (outside_of w)

      pair : (i j : ℕ) (x y : Tag) → i < j → slice_get out i ≡ Some x → slice_get out j ≡ Some y → ApartUpChain w.stock x y
      pair i j x y before here there =
          let p = out_never_overlaps w.stock (outside_of w) is.parts i j x before (slice_get_within out j y there) in
          let a = get_or_from_slice_get out i x x here in
          let b = get_or_from_slice_get out j y x there in
          subst (λ (z : Tag). ApartUpChain w.stock x z) b (subst (λ (z : Tag). ApartUpChain w.stock z (get_or out j x)) a p)

      nothing : (n : ℕ) → (0 < n → ⊥) → n ≡ 0
      nothing zero none = refl
      nothing (suc n) none = absurd (none (omega arith))

      apart : (i j : ℕ) (x y : Tag) → i < j → slice_get out i ≡ Some x → slice_get out j ≡ Some y → 0 < told_weight x → told_weight y ≡ 0
      apart i j x y before here there some = nothing (told_weight y) (λ more.
          pair i j x y before here there top (under_top x some).0 (under_top y more).0 unit (under_top x some).1 (under_top y more).1)

  one_leased : sum_by told_weight (leased_segments w.book) ≤ 1
  one_leased = omega (arith, one_out, sum_by-append told_weight (in_hands w.hands) (leased_segments w.book ++ all_own_rounds w.caches), sum_by-append told_weight (leased_segments w.book) (all_own_rounds w.caches))

-- so one index alone
pub held_apart : (w : WorldState) → IsWorld w
    → ((f : HeldSegment → ℕ) → sum_by (λ (c : ClientState). sum_by f c.held) w.clients ≤ sum_by (λ x. f (told_segment (arena_name w.names) x)) (leased_segments w.book)) → HeldApart w
held_apart w is all top unit c d i j x y s t client member other another first second =
    elim (same_number c d) [
      | inl one ↦ elim (same_number i j) [
        | inl index ↦ (one, index)
        | inr differ ↦ absurd (let same : x ≡ y = (let e : Some x ≡ Some y = sym client ∙ ap (slice_get w.clients) one ∙ other in cc) in
            let there : slice_get x.held j ≡ Some t = ap (λ (z : ClientState). slice_get z.held j) same ∙ another in
            omega (arith, low, high, most, at_indexes (weight s.arena t.arena unit) x.held i j s t differ member there, at_index (λ (z : ClientState). sum_by (weight s.arena t.arena unit) z.held) w.clients c x client))
      ]
      | inr differ ↦ absurd (omega (arith, low, high, most, at_indexes (λ (z : ClientState). sum_by (weight s.arena t.arena unit) z.held) w.clients c d x y differ client other, at_index (weight s.arena t.arena unit) x.held i s member, at_index (weight s.arena t.arena unit) y.held j t another))
    ]
  where
    same_number : (m n : ℕ) → (m ≡ n) ⊎ (m ≢ n)
    same_number m n = by (m == n) refl
      where
        by : (b : Bool) → (m == n) ≡ b → (m ≡ n) ⊎ (m ≢ n)
        by true e = inl (grind (arith, nat_tests))
        by false e = inr (λ same. grind (arith, nat_tests))

    low : 1 ≤ weight s.arena t.arena unit s
    low = weighs s.arena t.arena unit s (inl refl) first.has

    high : 1 ≤ weight s.arena t.arena unit t
    high = weighs s.arena t.arena unit t (inr refl) second.has

    most : sum_by (λ (z : ClientState). sum_by (weight s.arena t.arena unit) z.held) w.clients ≤ 1
    most = omega (arith, all (weight s.arena t.arena unit), one_leased w is top unit s t first second)

-- What a hand has, and what is leased.

one_client : (c : ℕ) → IsDistinct nat_eq (c ∷ [])
unfolding IsDistinct
one_client c = (tt, tt)

-- a client's leases weigh at most what all do
client_weighs : (w : WorldState) → IsWorld w → (c : ℕ) (g : Tag → ℕ) → sum_by (λ (l : Lease). g l.segment) (leases_of c w.entries) ≤ sum_by g (leased_segments w.book)
client_weighs w is c g =
    let one = leases_are_the_clients.some w.book (c ∷ []) g (w.entries, is.book) (one_client c) in
    let e : weight_of_leases g w.book c ≡ sum_by g (segments (leases_of c w.entries)) = ap (λ (a : Account). sum_by g (segments a.leases)) (account_is w.entries w.book c is.book) in
    omega (arith, one, e, sum_by-cons (weight_of_leases g w.book) c [], sum_by-map g (λ (l : Lease). l.segment) (leases_of c w.entries))

-- and each of them has a unit
lease_has : (w : WorldState) → IsWorld w → (c k : ℕ) (l : Lease) → slice_get (leases_of c w.entries) k ≡ Some l → 0 < l.segment.holding.range.len
lease_has w is c k l at =
    let bounds : IsInBounds (account w.entries c) = subst IsInBounds (account_is w.entries w.book c is.book) (books_in_bounds.accounts w.book c (w.entries, is.book)) in
    (all_at (λ (x : Lease). IsRequestId (granted_request c x) × IsRange x.segment.holding.range) (leases_of c w.entries) k l bounds.leases at).1.some

-- what begins at a base has the unit there
at_weighs : (a : List ℕ) (base : ℕ) (h : HeldSegment) → 0 < h.len → one_at a base h ≤ weight a a base h
at_weighs a base h some = by (bytes_eq h.arena a) (h.base == base) refl refl
  where
    by : (x y : Bool) → bytes_eq h.arena a ≡ x → (h.base == base) ≡ y → (if x && y then 1 else 0) ≤ weight a a base h
    by true true p q = (let same : h.base ≡ base = grind (arith, nat_tests) in weighs a a base h (inl (same_bytes h.arena a p)) (omega (arith, same), omega (arith, same, some)))
    by true false p q = omega arith
    by false y p q = omega arith

-- no lease of a client stands at the base of what a hand has, in an arena with its arena's name: the
-- unit there would be out twice
pub hand_is_apart : (w : WorldState) (cpu : ℕ) (id : RequestId) (t : Tag) → IsWorld w → slice_get w.hands cpu ≡ Some (Some t) → t.arena < length w.names → 0 < t.holding.range.len
    → leased_at (arena_name w.names) id.incarnation (arena_name w.names t.arena) t.holding.range.base (leases_of id.client w.entries) ≡ 0
hand_is_apart w cpu id t is holds within some =
    omega (
      arith,
      leased,
      client_weighs w is id.client g,
      one_out w is (tops.0 t.arena) base told told here here,
      mine,
      hand_set g w.hands cpu (Some t) None holds,
      sum_by-cons g t [],
      sum_by-append g (in_hands w.hands) (leased_segments w.book ++ all_own_rounds w.caches),
      sum_by-append g (leased_segments w.book) (all_own_rounds w.caches),
    )
  where
    names : ℕ → List ℕ
    names = arena_name w.names

    base : ℕ
    base = t.holding.range.base

    told : HeldSegment
    told = told_segment names t

    g : Tag → ℕ
    g x = weight (names t.arena) (names t.arena) base (told_segment names x)

    tops : (top : ℕ → ℕ) × AreTops w.stock top
    tops = tops_stand w.stock (outside_of w) is.parts

    here : CoversIn w (tops.0 t.arena) base told
    here = (let space = slice_get_some w.stock t.arena (let e = is.named in omega arith) in record {
      index = t.arena;
      named = record { within = within; is = refl };
      under = tops.1 t.arena space.0 space.1;
      has = (omega arith, omega (arith, some));
    })

    mine : 1 ≤ g t
    mine = weighs (names t.arena) (names t.arena) base told (inl refl) here.has

    lease_weighs : (l : Lease) → 0 < l.segment.holding.range.len → weight_in names id.incarnation (one_at (names t.arena) base) l ≤ g l.segment
    lease_weighs l has = by (id.incarnation == l.incarnation)
      where
        by : (b : Bool) → (if b then one_at (names t.arena) base (told_segment names l.segment) else 0) ≤ g l.segment
        by true = at_weighs (names t.arena) base (told_segment names l.segment) has
        by false = omega arith

    leased : leased_at names id.incarnation (names t.arena) base (leases_of id.client w.entries) ≤ sum_by (λ (l : Lease). g l.segment) (leases_of id.client w.entries)
    leased = sum_le (weight_in names id.incarnation (one_at (names t.arena) base)) (λ (l : Lease). g l.segment) (leases_of id.client w.entries)
        (λ k l at. lease_weighs l (lease_has w is id.client k l at))
