-- The first member that passes a test.
use Rattle.std.proofs.Common.{eq-eqb, one-add, ◌≡◌, ℕ, zero, suc, ◌+◌, ◌<◌, ◌≤◌, Bool, true, false, cond, not, nat_eq, nat_lt, List, [], ◌∷◌, length, All, Some, None, IfSome, slice_get, get_or, position, refl, sym, ap, subst, ◌∙◌, arith}
use Rattle.std.specs.List.{find, list_any, position_or_len}
use Rattle.std.proofs.lemmas.Bool.{le-ltb, and_from, and_parts, ltb-true, ltb-false, eqb-true}
use Rattle.std.proofs.lemmas.List.Folds.{list_any_none}
use Rattle.lease_book.specs.Account.{Lease, is_lease, is_older, without_first}

pub position-some : {X : Type 0} (test : X → Bool) (xs : List X) (i : ℕ) → position test xs ≡ Some i → (position_or_len test xs ≡ i) × (i < length xs)
position-some test xs i at = by (nat_lt (position_or_len test xs) (length xs)) refl at
  where
    by : (b : Bool) → nat_lt (position_or_len test xs) (length xs) ≡ b → cond b (Some (position_or_len test xs)) None ≡ Some i → (position_or_len test xs ≡ i) × (i < length xs)
    by true less at =
        let is : position_or_len test xs ≡ i = cc in
        (is, subst (λ (k : ℕ). k < length xs) is (ltb-true _ _ less))
    by false less at = absurd (cc)

pub position-none : {X : Type 0} (test : X → Bool) (xs : List X) → position test xs ≡ None → length xs ≤ position_or_len test xs
position-none test xs at = by (nat_lt (position_or_len test xs) (length xs)) refl at
  where
    by : (b : Bool) → nat_lt (position_or_len test xs) (length xs) ≡ b → cond b (Some (position_or_len test xs)) None ≡ None → length xs ≤ position_or_len test xs
    by true less at = absurd (cc)
    by false less at = ltb-false _ _ less

-- without its first member that passes a list gets no longer
pub without_fewer : {X : Type 0} (test : X → Bool) (xs : List X) → length (without_first test xs) ≤ length xs
without_fewer test [] = omega arith
without_fewer test (x ∷ xs) = by (test x) (without_fewer test xs)
  where
    by : (b : Bool) → length (without_first test xs) ≤ length xs → length (cond b xs (x ∷ without_first test xs)) ≤ length (x ∷ xs)
    by true rest = omega arith
    by false rest = omega (arith, rest)

pub passes_place : {X : Type 0} (test : X → Bool) (xs : List X) → position_or_len test xs < length xs → IfSome (slice_get xs (position_or_len test xs)) (λ x. test x ≡ true)
passes_place test [] within = absurd (omega arith)
passes_place test (x ∷ xs) within = by (test x) refl within (passes_place test xs)
  where
    by : (b : Bool) → test x ≡ b → cond (not b) (1 + position_or_len test xs) 0 < length (x ∷ xs)
        → (position_or_len test xs < length xs → IfSome (slice_get xs (position_or_len test xs)) (λ x. test x ≡ true))
        → IfSome (slice_get (x ∷ xs) (cond (not b) (1 + position_or_len test xs) 0)) (λ x. test x ≡ true)
    by true is within rest = is
    by false is within rest = rw one-add (rest (omega arith))

-- what is found passes
pub find_passes : {X : Type 0} (test : X → Bool) (xs : List X) (x : X) → find test xs ≡ Some x → test x ≡ true
find_passes test [] x at = absurd (cc)
find_passes test (y ∷ xs) x at = by (test y) refl at (find_passes test xs x)
  where
    by : (b : Bool) → test y ≡ b → cond b (Some y) (find test xs) ≡ Some x → (find test xs ≡ Some x → test x ≡ true) → test x ≡ true
    by true is at rest = ap test (cc) ∙ is
    by false is at rest = rest at

-- what is found by a test is found by a narrower one that it passes
pub found_alike : {X : Type 0} (wide narrow : X → Bool) (xs : List X) (x : X) → find wide xs ≡ Some x → narrow x ≡ true → ((y : X) → narrow y ≡ true → wide y ≡ true)
    → (find narrow xs ≡ Some x) × (without_first narrow xs ≡ without_first wide xs)
found_alike wide narrow [] x at passes within = absurd (cc)
found_alike {X} wide narrow (y ∷ xs) x at passes within = by (wide y) (narrow y) refl refl at (λ rest. found_alike wide narrow xs x rest passes within)
  where
    by : (a b : Bool) → wide y ≡ a → narrow y ≡ b → cond a (Some y) (find wide xs) ≡ Some x → (find wide xs ≡ Some x → (find narrow xs ≡ Some x) × (without_first narrow xs ≡ without_first wide xs))
        → (cond b (Some y) (find narrow xs) ≡ Some x) × (cond b xs (y ∷ without_first narrow xs) ≡ cond a xs (y ∷ without_first wide xs))
    by true true wider is at rest = (at, refl)
    by true false wider is at rest =
        let same : y ≡ x = cc in
        absurd (cc (sym is ∙ ap narrow same ∙ passes))
    by false true wider is at rest = absurd (cc (sym wider ∙ within y is))
    by false false wider is at rest = ((rest at).0, ap (λ (ys : List X). y ∷ ys) (rest at).1)

-- what the test for a lease says
pub is_lease_says : (i arena base : ℕ) (l : Lease) → is_lease i arena base l ≡ true → (i ≡ l.incarnation) × (arena ≡ l.segment.arena) × (base ≡ l.segment.holding.range.base)
is_lease_says i arena base l passes =
    let first = and_parts (nat_eq i l.incarnation) _ passes in
    let rest = and_parts (nat_eq arena l.segment.arena) _ first.1 in
    (eqb-true i l.incarnation first.0, eqb-true arena l.segment.arena rest.0, eqb-true base l.segment.holding.range.base rest.1)

-- the test by a lease's own incarnation, arena and base
abbrev pub is_like : Lease → Lease → Bool
is_like l = is_lease l.incarnation l.segment.arena l.segment.holding.range.base

pub is_own : (l : Lease) → is_like l l ≡ true
is_own l = and_from _ _ (eq-eqb l.incarnation l.incarnation refl) (and_from _ _ (eq-eqb l.segment.arena l.segment.arena refl) (eq-eqb l.segment.holding.range.base l.segment.holding.range.base refl))

-- a lease like one of an older incarnation is of an older one too
pub like_older : (i : ℕ) (l x : Lease) → is_older i l ≡ true → is_like l x ≡ true → is_older i x ≡ true
like_older i l x older like = ap (λ n. nat_lt n i) (sym (is_lease_says l.incarnation l.segment.arena l.segment.holding.range.base x like).0) ∙ older

-- none of the leases is older than the least incarnation
pub none_before : (i least : ℕ) (ls : List Lease) → i ≤ least → All (λ (l : Lease). least ≤ l.incarnation) ls → list_any (is_older i) ls ≡ false
none_before i least ls low newer = list_any_none (is_older i) ls (λ k d within. le-ltb (get_or ls k d).incarnation i (omega (arith, low, newer k d within)))

-- no lease is of an older incarnation
pub none_older : (i : ℕ) (ls : List Lease) → find (is_older i) ls ≡ None → All (λ (l : Lease). i ≤ l.incarnation) ls
none_older i [] none = λ k d within. absurd (omega arith)
none_older i (l ∷ ls) none = by (is_older i l) refl none (none_older i ls)
  where
    by : (b : Bool) → is_older i l ≡ b → cond b (Some l) (find (is_older i) ls) ≡ None → (find (is_older i) ls ≡ None → All (λ (x : Lease). i ≤ x.incarnation) ls) → All (λ (x : Lease). i ≤ x.incarnation) (l ∷ ls)
    by true is none rest k d within = absurd (cc)
    by false is none rest zero d within = ltb-false _ _ is
    by false is none rest (suc k) d within = rest none k d (omega arith)
