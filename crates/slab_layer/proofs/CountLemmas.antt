-- What the number of chunks at home tells of a slab.
use Rattle.std.proofs.Common.{◌≡◌, ℕ, suc, ◌+◌, ◌<◌, cond, not, Bool, true, false, List, [], ◌∷◌, length, get_or, All, Option, Some, None, refl, arith, if◌then◌else◌}
use Rattle.std.specs.Prelude.{Contains, MatchOption, count_by}
use Rattle.std.specs.List.{list_any}
use Rattle.std.proofs.lemmas.List.Sums.{count_by-le-length, sum_by-cons}
use Rattle.std.proofs.lemmas.List.Elements.{All-nil, All-cons, All-contains}
use Rattle.slab_layer.specs.declared.standings.Standing.{Standing}
use Rattle.slab_layer.specs.declared.standings.Standing.TheVariants.{AllOut, Partial, Complete}
use Rattle.slab_layer.specs.Slab.{SlabState, IsComplete, IsPartial}
use Rattle.slab_layer.specs.Standings.{standing_of, lists_partial, lists_complete}
use Rattle.slab_layer.specs.Calls.{IsLowest}

count_next : (b : Bool) (xs : List Bool) → count_by (λ y. y) (b ∷ xs) ≡ cond b 1 0 + count_by (λ y. y) xs
count_next b xs = sum_by-cons (λ y. cond y 1 0) b xs

-- by the count, whether one is at home, and whether one is out
pub some_home : (xs : List Bool) → 0 < count_by (λ b. b) xs → list_any (λ b. b) xs ≡ true
some_home [] more = absurd (omega (arith, more))
some_home (true ∷ xs) more = refl
some_home (false ∷ xs) more = some_home xs (omega (arith, more, count_next false xs))

pub none_home : (xs : List Bool) → count_by (λ b. b) xs ≡ 0 → list_any (λ b. b) xs ≡ false
none_home [] none = refl
none_home (true ∷ xs) none = absurd (omega (arith, none, count_next true xs))
none_home (false ∷ xs) none = none_home xs (omega (arith, none, count_next false xs))

pub some_out : (xs : List Bool) → count_by (λ b. b) xs < length xs → list_any not xs ≡ true
some_out [] less = absurd (omega (arith, less))
some_out (true ∷ xs) less = some_out xs (omega (arith, less, count_next true xs))
some_out (false ∷ xs) less = refl

pub none_out : (xs : List Bool) → count_by (λ b. b) xs ≡ length xs → list_any not xs ≡ false
none_out [] all = refl
none_out (true ∷ xs) all = none_out xs (omega (arith, all, count_next true xs))
none_out (false ∷ xs) all = absurd (omega (arith, all, count_next false xs, count_by-le-length (λ b. b) xs))

-- how a slab stands, by the count
pub stands_complete : (s : SlabState) → count_by (λ b. b) s.home ≡ length s.home → standing_of s ≡ Complete
stands_complete s all = rw (none_out s.home all) refl

pub stands_out : (s : SlabState) → count_by (λ b. b) s.home < length s.home → count_by (λ b. b) s.home ≡ 0 → standing_of s ≡ AllOut
stands_out s less none = rw (some_out s.home less, none_home s.home none) refl

pub stands_partial : (s : SlabState) → count_by (λ b. b) s.home < length s.home → 0 < count_by (λ b. b) s.home → standing_of s ≡ Partial
stands_partial s less more = rw (some_out s.home less, some_home s.home more) refl

-- the tests say what the words do
any_home : (xs : List Bool) → list_any (λ b. b) xs ≡ true → Contains xs true
any_home [] e = cc
any_home (true ∷ xs) e = (0, omega arith, refl)
any_home (false ∷ xs) e = let rest = any_home xs e in (suc rest.0, omega (arith, rest.1), rest.2)

home_any : (xs : List Bool) → list_any (λ b. b) xs ≡ false → All (λ b. b ≡ false) xs
home_any [] e = All-nil (λ b. b ≡ false)
home_any (true ∷ xs) e = cc
home_any (false ∷ xs) e = All-cons (λ b. b ≡ false) false xs refl (home_any xs e)

any_out : (xs : List Bool) → list_any not xs ≡ true → Contains xs false
any_out [] e = cc
any_out (true ∷ xs) e = let rest = any_out xs e in (suc rest.0, omega (arith, rest.1), rest.2)
any_out (false ∷ xs) e = (0, omega arith, refl)

out_any : (xs : List Bool) → list_any not xs ≡ false → All (λ b. b ≡ true) xs
out_any [] e = All-nil (λ b. b ≡ true)
out_any (true ∷ xs) e = All-cons (λ b. b ≡ true) true xs refl (out_any xs e)
out_any (false ∷ xs) e = cc

has_home : (xs : List Bool) → Contains xs true → list_any (λ b. b) xs ≡ true
has_home xs has = elim (list_any (λ b. b) xs) as (λ b. list_any (λ y. y) xs ≡ b → b ≡ true) [
  | true ↦ λ e. refl
  | false ↦ λ e. let none : true ≡ false = All-contains (λ b. b ≡ false) xs true (home_any xs e) has in cc
] refl

has_out : (xs : List Bool) → Contains xs false → list_any not xs ≡ true
has_out xs has = elim (list_any not xs) as (λ b. list_any not xs ≡ b → b ≡ true) [
  | true ↦ λ e. refl
  | false ↦ λ e. let none : false ≡ true = All-contains (λ b. b ≡ true) xs false (out_any xs e) has in cc
] refl

has_none_out : (xs : List Bool) → All (λ b. b ≡ true) xs → list_any not xs ≡ false
has_none_out xs all = elim (list_any not xs) as (λ b. list_any not xs ≡ b → b ≡ false) [
  | true ↦ λ e. let none : false ≡ true = All-contains (λ b. b ≡ true) xs false all (any_out xs e) in cc
  | false ↦ λ e. refl
] refl

pub partial_true : (s : SlabState) → lists_partial (standing_of s) ≡ true → IsPartial s
partial_true s e = elim (list_any not s.home) as (λ out. list_any not s.home ≡ out → lists_partial (if out then (if list_any (λ b. b) s.home then Partial else AllOut) else Complete) ≡ true → IsPartial s) [
  | true ↦ λ out. elim (list_any (λ b. b) s.home) as (λ home. list_any (λ b. b) s.home ≡ home → lists_partial (if home then Partial else AllOut) ≡ true → IsPartial s) [
    | true ↦ λ home is. (any_home s.home home, any_out s.home out)
    | false ↦ λ home is. cc
  ] refl
  | false ↦ λ out is. cc
] refl e

pub partial_is : (s : SlabState) → IsPartial s → lists_partial (standing_of s) ≡ true
partial_is s partial = rw (has_out s.home partial.1, has_home s.home partial.0) refl

pub complete_true : (s : SlabState) → lists_complete (standing_of s) ≡ true → IsComplete s
complete_true s e = elim (list_any not s.home) as (λ out. list_any not s.home ≡ out → lists_complete (if out then (if list_any (λ b. b) s.home then Partial else AllOut) else Complete) ≡ true → IsComplete s) [
  | true ↦ λ out. elim (list_any (λ b. b) s.home) as (λ home. lists_complete (if home then Partial else AllOut) ≡ true → IsComplete s) [ true ↦ λ is. cc | false ↦ λ is. cc ]
  | false ↦ λ out is. out_any s.home out
] refl e

pub complete_is : (s : SlabState) → IsComplete s → lists_complete (standing_of s) ≡ true
complete_is s complete = rw (has_none_out s.home complete) refl

-- the lowest that is listed is the lowest of its kind
pub lowest_of : (has : Standing → Bool) (P : SlabState → Type 0) (slabs : List SlabState) (o : Option ℕ) → ((s : SlabState) → has (standing_of s) ≡ true → P s) → ((s : SlabState) → P s → has (standing_of s) ≡ true)
    → MatchOption o (All (λ s. has (standing_of s) ≡ false) slabs) (λ i. (s : SlabState) × IsLowest (λ t. has (standing_of t) ≡ true) i s slabs) → MatchOption o (All (λ s. P s → ⊥) slabs) (λ i. (s : SlabState) × IsLowest P i s slabs)
lowest_of has P slabs None says is none = λ k d within so. let e = none k d within in let f = is (get_or slabs k d) so in cc
lowest_of has P slabs (Some i) says is some = (some.0, record { stands = some.1.stands; so = says some.0 some.1.so; least = λ k d within so. some.1.least k d within (is (get_or slabs k d) so) })
