-- The units of one arena among the rounds of CPUs.
use Rattle.std.proofs.Common.{◌≡◌, ◌≢◌, ℕ, suc, zero, ◌+◌, ◌<◌, refl, sym, subst, ap, ◌∙◌, List, [], ◌∷◌, ◌++◌, length, map, All, Some, None, arith}
use Rattle.std.specs.Prelude.{slice_get, sum_by}
use Rattle.std.specs.List.{flat_map}
use Rattle.std.proofs.lemmas.List.Elements.{All-append, All-cons, All-nil}
use Rattle.std.proofs.lemmas.List.Sums.{sum_by-append, sum_by-cons}
use Rattle.std.proofs.lemmas.Grind.{flat_map-append}
use Rattle.deed_core.specs.Tag.{Tag}
use Rattle.deed_core.specs.Covering.{units_in, units_tagged}
use Rattle.deed_core.specs.Weights.{of_arena}
use Rattle.deed_core.proofs.LawProofs.{all_at, all_from, slice_get_mapped}
use Rattle.stock.specs.OwnCaches.{OwnCacheState, own_rounds, all_own_rounds}
use Rattle.stock.specs.Spaces.{SpaceState, SpacePlan, plans_of}
use Rattle.stock.proofs.LawProofs.{arena_weighs}
use Rattle.stock_audit.specs.Accounted.{IsOwnIn}
use Rattle.local_parts.specs.Cpus.{CacheIndexes, IsCpuOf, own_index, row_indexes, indexes_from, rounds_of_row, arena_rounds}
use Rattle.lease_machine.specs.Picture.{NumberedCpu, caches_of}

-- the two halves of a list
module _ {X : Type 0} (P : X → Type 0) where
  pub all_front : (xs ys : List X) → All P (xs ++ ys) → All P xs
  all_front [] ys all = All-nil P
  all_front (x ∷ xs) ys all = All-cons P x xs (all 0 x (omega arith)) (all_front xs ys (λ j e within. all (suc j) e (omega (arith, within))))

  pub all_back : (xs ys : List X) → All P (xs ++ ys) → All P ys
  all_back [] ys all = all
  all_back (x ∷ xs) ys all = all_back xs ys (λ j e within. all (suc j) e (omega (arith, within)))

-- each cache stands in the row of its arena
row_arena : (arena quantum j count i : ℕ) (p : CacheIndexes) → slice_get (row_indexes arena quantum j count) i ≡ Some p → p.arena ≡ arena
row_arena arena quantum j zero i p at = absurd (let e : None ≡ Some p = at in cc)
row_arena arena quantum j (suc count) zero p at =
    let e : Some (record { arena = arena; cache = j; quantum = quantum }) ≡ Some p = at in
    let same : (record { arena = arena; cache = j; quantum = quantum }) ≡ p = cc in
    ap (λ (x : CacheIndexes). x.arena) (sym same)
row_arena arena quantum j (suc count) (suc i) p at = row_arena arena quantum (j + 1) count i p at

indexes_arena : (k : ℕ) (plans : List SpacePlan) (i j : ℕ) (row : List CacheIndexes) (p : CacheIndexes) → slice_get (indexes_from k plans) i ≡ Some row → slice_get row j ≡ Some p → p.arena ≡ k + i
indexes_arena k [] i j row p at among = absurd (let e : None ≡ Some row = at in cc)
indexes_arena k (x ∷ plans) zero j row p at among =
    let e : Some (row_indexes k x.quantum 0 (length x.slab_sizes)) ≡ Some row = at in
    let same : row_indexes k x.quantum 0 (length x.slab_sizes) ≡ row = cc in
    omega (arith, row_arena k x.quantum 0 (length x.slab_sizes) j p (ap (λ (r : List CacheIndexes). slice_get r j) same ∙ among))
indexes_arena k (x ∷ plans) (suc i) j row p at among = omega (arith, indexes_arena (k + 1) plans i j row p at among)

pub own_arena : (spaces : List SpaceState) (rows : List (List OwnCacheState)) → IsCpuOf spaces rows → (i j : ℕ) (row : List OwnCacheState) (o : OwnCacheState) → slice_get rows i ≡ Some row → slice_get row j ≡ Some o → o.arena ≡ i
own_arena spaces rows is i j row o at among =
    let stands = indexes_arena 0 (plans_of spaces) i j (map own_index row) (own_index o)
    (ap (λ (ps : List (List CacheIndexes)). slice_get ps i) (sym is) ∙ slice_get_mapped (map own_index) rows i row at)
    (slice_get_mapped own_index row j o among) in
    omega (arith, stands)

-- all caches of a CPU
abbrev joined : List (List OwnCacheState) → List OwnCacheState
joined rows = flat_map (λ row. row) rows

row_of_joined : (P : OwnCacheState → Type 0) (rows : List (List OwnCacheState)) → All P (joined rows) → (i : ℕ) (row : List OwnCacheState) → slice_get rows i ≡ Some row → All P row
row_of_joined P [] all i row at = absurd (let e : None ≡ Some row = at in cc)
row_of_joined P (x ∷ rows) all zero row at =
    let e : Some x ≡ Some row = at in
    let same : x ≡ row = cc in
    subst (λ (r : List OwnCacheState). All P r) same (all_front P x (joined rows) all)
row_of_joined P (x ∷ rows) all (suc i) row at = row_of_joined P rows (all_back P x (joined rows) all) i row at

row_all : (P : Tag → Type 0) (row : List OwnCacheState) → All (λ o. All P (own_rounds o)) row → All P (all_own_rounds row)
row_all P [] each = All-nil P
row_all P (o ∷ row) each = All-append P (own_rounds o) (all_own_rounds row) (each 0 o (omega arith)) (row_all P row (λ i e below. each (suc i) e (omega (arith, below))))

-- the rounds of each row are of its arena
abbrev pub RowsStand : ℕ → List (List OwnCacheState) → Type 0
RowsStand b rows = (i : ℕ) (row : List OwnCacheState) → slice_get rows i ≡ Some row → All (λ t. t.arena ≡ b + i) (all_own_rounds row)

pub rows_stand : (spaces : List SpaceState) (rows : List (List OwnCacheState)) → IsCpuOf spaces rows → All (IsOwnIn spaces) (joined rows) → RowsStand 0 rows
rows_stand spaces rows is own i row at = row_all (λ t. t.arena ≡ 0 + i) row (all_from (λ o. All (λ t. t.arena ≡ 0 + i) (own_rounds o)) row (λ j o among.
    (let in_stock : IsOwnIn spaces o = all_at (IsOwnIn spaces) row j o (row_of_joined (IsOwnIn spaces) rows own i row at) among in
    let index = own_arena spaces rows is i j row o at among in
    λ n d below. (let from = (in_stock.own.rounds n d below).from in omega (arith, from, index)))))

module _ (k : ℕ) where
  abbrev pub weight : Tag → ℕ
  weight = of_arena k (λ t. units_in t.holding)

  all_there : (ts : List Tag) → All (λ t. t.arena ≡ k) ts → sum_by weight ts ≡ units_tagged ts
  all_there [] all = refl
  all_there (t ∷ ts) all =
      let one = (arena_weighs k (λ t. units_in t.holding) t).0 (all 0 t (omega arith)) in
      let rest = all_there ts (λ i e below. all (suc i) e (omega (arith, below))) in
      omega (arith, sum_by-cons weight t ts, sum_by-cons (λ (t : Tag). units_in t.holding) t ts, one, rest)

  none_there : (ts : List Tag) → All (λ t. t.arena ≢ k) ts → sum_by weight ts ≡ 0
  none_there [] all = refl
  none_there (t ∷ ts) all =
      let one = (arena_weighs k (λ t. units_in t.holding) t).1 (all 0 t (omega arith)) in
      let rest = none_there ts (λ i e below. all (suc i) e (omega (arith, below))) in
      omega (arith, sum_by-cons weight t ts, one, rest)

  both_weigh : (xs ys : List OwnCacheState) → sum_by weight (all_own_rounds (xs ++ ys)) ≡ sum_by weight (all_own_rounds xs) + sum_by weight (all_own_rounds ys)
  both_weigh xs ys = ap (λ (ts : List Tag). sum_by weight ts) (flat_map-append own_rounds xs ys) ∙ sum_by-append weight (all_own_rounds xs) (all_own_rounds ys)

  tail_stands : (b : ℕ) (row : List OwnCacheState) (rows : List (List OwnCacheState)) → RowsStand b (row ∷ rows) → RowsStand (b + 1) rows
  tail_stands b row rows stand i r at n d below = (let is = stand (suc i) r at n d below in omega (arith, is))

  rest_none : (b : ℕ) (rows : List (List OwnCacheState)) → k < b → RowsStand b rows → sum_by weight (all_own_rounds (joined rows)) ≡ 0
  rest_none b [] above stand = refl
  rest_none b (row ∷ rows) above stand =
      let one = none_there (all_own_rounds row) (λ n d below same. (let is = stand 0 row refl n d below in omega (arith, is, same, above))) in
      let rest = rest_none (b + 1) rows (omega (arith, above)) (tail_stands b row rows stand) in
      omega (arith, both_weigh row (joined rows), one, rest)

  rows_weigh : (b j : ℕ) (rows : List (List OwnCacheState)) → k ≡ b + j → RowsStand b rows → sum_by weight (all_own_rounds (joined rows)) ≡ units_tagged (rounds_of_row (slice_get rows j))
  rows_weigh b j [] is stand = refl
  rows_weigh b zero (row ∷ rows) is stand =
      let one = all_there (all_own_rounds row) (λ n d below. (let at = stand 0 row refl n d below in omega (arith, at, is))) in
      let rest = rest_none (b + 1) rows (omega (arith, is)) (tail_stands b row rows stand) in
      omega (arith, both_weigh row (joined rows), one, rest)
  rows_weigh b (suc j) (row ∷ rows) is stand =
      let one = none_there (all_own_rounds row) (λ n d below same. (let at = stand 0 row refl n d below in omega (arith, at, is, same))) in
      let rest = rows_weigh (b + 1) j rows (omega (arith, is)) (tail_stands b row rows stand) in
      omega (arith, both_weigh row (joined rows), one, rest)

  -- those of one CPU are in the arena's row, and so of all CPUs
  pub cpus_weigh : (spaces : List SpaceState) (cs : List NumberedCpu) → All (λ c. IsCpuOf spaces c.caches) cs → All (IsOwnIn spaces) (flat_map caches_of cs)
      → sum_by weight (all_own_rounds (flat_map caches_of cs)) ≡ sum_by (λ c. units_tagged (arena_rounds c.caches k)) cs
  cpus_weigh spaces [] of own = refl
  cpus_weigh spaces (c ∷ cs) of own =
      let one = rows_weigh 0 k c.caches (omega arith) (rows_stand spaces c.caches (of 0 c (omega arith)) (all_front (IsOwnIn spaces) (caches_of c) (flat_map caches_of cs) own)) in
      let rest = cpus_weigh spaces cs (λ i e below. of (suc i) e (omega (arith, below))) (all_back (IsOwnIn spaces) (caches_of c) (flat_map caches_of cs) own) in
      omega (arith, both_weigh (caches_of c) (flat_map caches_of cs), sum_by-cons (λ (x : NumberedCpu). units_tagged (arena_rounds x.caches k)) c cs, one, rest)
