-- The totals of the arenas, and the leases of all clients.
use Rattle.std.proofs.Common.{◌≡◌, ℕ, ◌+◌, ◌*◌, ◌^◌, ◌<◌, ◌≤◌, Bool, true, false, cond, nat_eq, eq-eqb, List, [], ◌∷◌, ◌++◌, length, Some, get_or, sum_by, refl, sym, ap, subst, arith}
use Rattle.std.specs.List.{find}
use Rattle.std.proofs.Math.ListN.{set}
use Rattle.std.proofs.lemmas.List.Elements.{All-set, All-push}
use Rattle.std.proofs.lemmas.List.Sums.{sum_by-set, sum_by_push, sum_by-le, get_or-le-sum_by}
use Rattle.deed_core.specs.Extent.{IsRange}
use Rattle.lease_book.specs.declared.books.TheConstants.{MOST_LEASES}
use Rattle.lease_book.specs.Standings.{StandingState}
use Rattle.lease_book.specs.declared.totals.Total.{Total}
use Rattle.lease_book.specs.Account.{Lease, without_first}
use Rattle.lease_book.specs.BookState.{units_of_lease}
use Rattle.lease_book.specs.Shelf.{IsShelf}
use Rattle.lease_book.specs.Totals.{total_of, CountMore, AreRanges, IsCounted}
use Rattle.lease_book.proofs.EachLemmas.{all_without}
use Rattle.lease_book.proofs.LawLemmas.{without_loses}

-- the units of the arena in the leases of one client
abbrev of_client : ℕ → List Lease → ℕ
of_client arena l = sum_by (units_of_lease arena) l

own_units : (x : Lease) → units_of_lease x.segment.arena x ≡ x.segment.holding.range.len
own_units x = ap (λ (b : Bool). cond b x.segment.holding.range.len 0) (eq-eqb x.segment.arena x.segment.arena refl)

few_units : (arena : ℕ) (x : Lease) → IsRange x.segment.holding.range → units_of_lease arena x ≤ 2 ^ 62
few_units arena x range = by (nat_eq x.segment.arena arena)
  where
    by : (b : Bool) → cond b x.segment.holding.range.len 0 ≤ 2 ^ 62
    by true = omega (arith, range.below)
    by false = omega arith

few_of_client : (arena : ℕ) (l : List Lease) → length l ≤ MOST_LEASES → AreRanges l → of_client arena l ≤ MOST_LEASES * 2 ^ 62
few_of_client arena l few ranges = omega (arith, few, sum_by-le (units_of_lease arena) (2 ^ 62) l (λ k d within. few_units arena (get_or l k d) (ranges k d within)))

-- there is room in a total for one more lease
pub one_fits : (es : List (ℕ × StandingState)) (ls : List (List Lease)) (ts : List Total) (arena units : ℕ) → IsShelf es ls → IsCounted ls ts → units ≤ 2 ^ 62 → total_of arena ts + units < 2 ^ 128
one_fits es ls ts arena units shelf counted few =
    let all : sum_by (of_client arena) ls ≤ length ls * (MOST_LEASES * 2 ^ 62) =
    sum_by-le (of_client arena) (MOST_LEASES * 2 ^ 62) ls (λ k d within. few_of_client arena (get_or ls k d) (shelf.limited k d within) (counted.ranges k d within)) in
    omega (arith, all, counted.sums arena, shelf.few, shelf.together)

lease_there : (ls : List (List Lease)) (ts : List Total) (i : ℕ) (l : List Lease) (test : Lease → Bool) (x : Lease) → IsCounted ls ts → i < length ls → l ≡ get_or ls i l → find test l ≡ Some x
    → x.segment.holding.range.len ≤ total_of x.segment.arena ts
lease_there ls ts i l test x counted within stands found =
    let arena : ℕ = x.segment.arena in
    let these : of_client arena (get_or ls i l) ≤ sum_by (of_client arena) ls = get_or-le-sum_by (of_client arena) ls i l within in
    omega (arith, these, ap (of_client arena) stands, without_loses test l x found (units_of_lease arena), own_units x, counted.sums arena)

-- what a lease has is in the total
pub one_there : (ls : List (List Lease)) (ts : List Total) (i : ℕ) (l : List Lease) (test : Lease → Bool) (x : Lease) (arena units : ℕ) → IsCounted ls ts → i < length ls → l ≡ get_or ls i l
    → find test l ≡ Some x → arena ≡ x.segment.arena → units ≡ x.segment.holding.range.len → units ≤ total_of arena ts
one_there ls ts i l test x arena units counted within stands found own long =
    subst (λ (a : ℕ). units ≤ total_of a ts) (sym own) (omega (arith, long, lease_there ls ts i l test x counted within stands found))

-- a client without leases adds nothing
pub counted_push : (ls : List (List Lease)) (ts : List Total) → IsCounted ls ts → IsCounted (ls ++ [] ∷ []) ts
counted_push ls ts counted = record {
  ranges = All-push AreRanges ls [] counted.ranges (λ k d within. absurd (omega arith));
  sums = λ arena. omega (arith, counted.sums arena, sum_by_push (of_client arena) ls []);
}

-- the leases of one client become others
counted_set : (ls : List (List Lease)) (ts us : List Total) (i : ℕ) (l m : List Lease) → IsCounted ls ts → i < length ls → l ≡ get_or ls i l → AreRanges m
    → ((arena : ℕ) → total_of arena us + of_client arena l ≡ total_of arena ts + of_client arena m) → IsCounted (set ls i m) us
counted_set ls ts us i l m counted within stands ranges change = record {
  ranges = All-set AreRanges ls i m ranges counted.ranges;
  sums = λ arena. omega (arith, counted.sums arena, change arena, sum_by-set (of_client arena) ls i m l within, ap (of_client arena) stands);
}

ranges_at : (ls : List (List Lease)) (ts : List Total) (i : ℕ) (l : List Lease) → IsCounted ls ts → i < length ls → l ≡ get_or ls i l → AreRanges l
ranges_at ls ts i l counted within stands = subst AreRanges (sym stands) (counted.ranges i l within)

-- what is counted is the lease's
as_counted : (x : Lease) (arena units : ℕ) (these those : List Total) → arena ≡ x.segment.arena → units ≡ x.segment.holding.range.len → CountMore arena units these those
    → CountMore x.segment.arena x.segment.holding.range.len these those
as_counted x arena units these those own long more =
    subst (λ (n : ℕ). CountMore x.segment.arena n these those) long (subst (λ (a : ℕ). CountMore a units these those) own more)

-- a lease is added, and counted
pub counted_more : (ls : List (List Lease)) (ts us : List Total) (i : ℕ) (l m : List Lease) (x : Lease) (arena units : ℕ) → IsCounted ls ts → i < length ls → l ≡ get_or ls i l → m ≡ l ++ x ∷ []
    → IsRange x.segment.holding.range → arena ≡ x.segment.arena → units ≡ x.segment.holding.range.len → CountMore arena units us ts → IsCounted (set ls i m) us
counted_more ls ts us i l m x arena units counted within stands is range own long more =
    counted_set ls ts us i l m counted within stands (subst AreRanges (sym is) (All-push (λ (y : Lease). IsRange y.segment.holding.range) l x (ranges_at ls ts i l counted within stands) range))
    (λ a. omega (arith, as_counted x arena units us ts own long more a, ap (of_client a) is, sum_by_push (units_of_lease a) l x))

-- a lease is taken out, and counted no more
pub counted_less : (ls : List (List Lease)) (ts us : List Total) (i : ℕ) (l m : List Lease) (test : Lease → Bool) (x : Lease) (arena units : ℕ) → IsCounted ls ts → i < length ls → l ≡ get_or ls i l
    → find test l ≡ Some x → m ≡ without_first test l → arena ≡ x.segment.arena → units ≡ x.segment.holding.range.len → CountMore arena units ts us → IsCounted (set ls i m) us
counted_less ls ts us i l m test x arena units counted within stands found is own long less =
    counted_set ls ts us i l m counted within stands (subst AreRanges (sym is) (all_without (λ (y : Lease). IsRange y.segment.holding.range) test l (ranges_at ls ts i l counted within stands)))
    (λ a. omega (arith, as_counted x arena units ts us own long less a, ap (of_client a) is, without_loses test l x found (units_of_lease a)))

-- a lease that was counted before it was refused is counted no more
pub counted_back : (ls : List (List Lease)) (ts us vs : List Total) (arena units : ℕ) → IsCounted ls ts → CountMore arena units us ts → CountMore arena units us vs → IsCounted ls vs
counted_back ls ts us vs arena units counted more less = record {
  ranges = counted.ranges;
  sums = λ other. omega (arith, counted.sums other, more other, less other);
}
