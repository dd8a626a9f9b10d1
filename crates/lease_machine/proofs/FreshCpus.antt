-- A CPU that is new has caches for those of the stock, and no round.
use Rattle.std.proofs.Common.{◌≡◌, ◌≢◌, ℕ, suc, zero, ◌+◌, ◌<◌, Bool, true, false, cond, ◌||◌, ◌==◌, get_or, ◌≤◌, inl, inr, refl, sym, subst, ap, ◌∙◌, List, [], ◌∷◌, ◌++◌, map, length, All, AllPairs, Option, Some, None, arith}
use Rattle.std.specs.Prelude.{slice_get, sum_by}
use Rattle.std.specs.List.{find, flat_map, list_any}
use Rattle.std.proofs.lemmas.Bool.Decides.{Decides-eqb}
use Rattle.std.proofs.lemmas.List.{append-nil, length-map}
use Rattle.std.proofs.lemmas.List.Elements.{All-cons, All-append, All-nil}
use Rattle.std.proofs.lemmas.Grind.{flat_map-append}
use Rattle.deed_core.specs.Tag.{Tag}
use Rattle.deed_core.proofs.LawProofs.{mapped, power_some, slice_get_some, AllPairs-append}
use Rattle.magazine_layer.specs.Magazines.{IsSize}
use Rattle.stock.specs.Spaces.{SpaceState, SpacePlan, plan_of, plans_of, slab_size_of}
use Rattle.stock.specs.Stocks.{IsStock}
use Rattle.stock.specs.OwnCaches.{OwnCacheState, own_rounds, all_own_rounds}
use Rattle.stock_audit.specs.Outside.{outside, nothing_out}
use Rattle.stock_audit.specs.Accounted.{IsOwnIn, IsAccountedFor}
use Rattle.stock_audit.proofs.LawProofs.{fresh_is_accounted, cpus_keep}
use Rattle.local_parts.specs.Cpus.{CacheIndexes, IsCpuOf, own_index, own_indexes, row_indexes, indexes_from, new_own}
use Rattle.lease_proto.specs.Cpus.{IsCpu}
use Rattle.lease_book.specs.BookState.{leased_segments, segments_of_accounts}
use Rattle.lease_machine.specs.Picture.{NumberedCpu, Picture, IsPicture, IsShapedIn, is_cpu, caches_of, fresh_cpu, held_outside}
use Rattle.lease_machine.specs.CpuLaws.{IsFresh, FreshIsPicture, SelectedIsPicture, FreshCpuFits}

abbrev joined : List (List OwnCacheState) → List OwnCacheState
joined rows = flat_map (λ row. row) rows

module _ (P : OwnCacheState → Type 0) where
  all_row : (arena quantum j count : ℕ) → ((i : ℕ) → i < j + count → P (new_own 3 (record { arena = arena; cache = i; quantum = quantum }))) → All P (map (new_own 3) (row_indexes arena quantum j count))
  all_row arena quantum j zero each = All-nil P
  all_row arena quantum j (suc count) each =
      All-cons P (new_own 3 (record { arena = arena; cache = j; quantum = quantum })) (map (new_own 3) (row_indexes arena quantum (j + 1) count)) (each j (omega arith))
      (all_row arena quantum (j + 1) count (λ i below. each i (omega (arith, below))))

  all_rows : (k : ℕ) (plans : List SpacePlan) → ((i : ℕ) (p : SpacePlan) → slice_get plans i ≡ Some p → (j : ℕ) → j < length p.slab_sizes → P (new_own 3 (record { arena = k + i; cache = j; quantum = p.quantum })))
      → All P (joined (map (map (new_own 3)) (indexes_from k plans)))
  all_rows k [] each = All-nil P
  all_rows k (p ∷ plans) each =
      All-append P (map (new_own 3) (row_indexes k p.quantum 0 (length p.slab_sizes))) (joined (map (map (new_own 3)) (indexes_from (k + 1) plans)))
      (all_row k p.quantum 0 (length p.slab_sizes) (λ j below. subst (λ (n : ℕ). P (new_own 3 (record { arena = n; cache = j; quantum = p.quantum }))) (omega arith) (each 0 p refl j (omega (arith, below)))))
      (all_rows (k + 1) plans (λ i q at j below. subst (λ (n : ℕ). P (new_own 3 (record { arena = n; cache = j; quantum = q.quantum }))) (omega arith) (each (suc i) q at j below)))

-- its indexes are the stock's
same_indexes : (ps : List CacheIndexes) → map own_index (map (new_own 3) ps) ≡ ps
same_indexes [] = refl
same_indexes (p ∷ ps) = ap (λ (qs : List CacheIndexes). p ∷ qs) (same_indexes ps)

same_rows : (rows : List (List CacheIndexes)) → own_indexes (map (map (new_own 3)) rows) ≡ rows
same_rows [] = refl
same_rows (row ∷ rows) = ap (λ (r : List CacheIndexes). r ∷ own_indexes (map (map (new_own 3)) rows)) (same_indexes row) ∙ ap (λ (rs : List (List CacheIndexes)). row ∷ rs) (same_rows rows)

no_round : (os : List OwnCacheState) → All (λ o. own_rounds o ≡ []) os → all_own_rounds os ≡ []
no_round [] none = refl
no_round (o ∷ os) none =
    ap (λ (ts : List Tag). ts ++ all_own_rounds os) (none 0 o (omega arith)) ∙ no_round os (λ i e below. none (suc i) e (omega (arith, below)))

module _ (spaces : List SpaceState) (n : ℕ) where
  pub fresh_indexes : IsCpuOf spaces (fresh_cpu n spaces).caches
  fresh_indexes = same_rows (indexes_from 0 (plans_of spaces))

  pub fresh_rounds : all_own_rounds (caches_of (fresh_cpu n spaces)) ≡ []
  fresh_rounds = no_round (caches_of (fresh_cpu n spaces)) (all_rows (λ o. own_rounds o ≡ []) 0 (plans_of spaces) (λ i p at j below. refl))

  own_at : IsStock spaces → (i : ℕ) (p : SpacePlan) → slice_get (plans_of spaces) i ≡ Some p → (j : ℕ) → j < length p.slab_sizes → IsOwnIn spaces (new_own 3 (record { arena = i; cache = j; quantum = p.quantum }))
  own_at stock i p at j below =
      let s = mapped plan_of spaces i p at in
      let quantum : p.quantum ≡ s.0.arena.quantum = ap (λ (x : SpacePlan). x.quantum) s.2 in
      let some : 0 < s.0.arena.quantum = power_some s.0.arena.quantum (stock i s.0 s.1).sound.divided.power in
      let count : length p.slab_sizes ≡ length s.0.caches = ap (λ (x : SpacePlan). length x.slab_sizes) s.2 ∙ length-map s.0.caches slab_size_of in
      let c = slice_get_some s.0.caches j (omega (arith, below, count)) in
      record {
        own = record { some = subst (λ (q : ℕ). 0 < q) (sym quantum) some; rounds = All-nil _ };
        has = (c.0, record { space = s.0; at = s.1; among = c.1 });
        quantum = λ y there. (
            let e : Some s.0 ≡ Some y = sym s.1 ∙ there in
            let same : s.0 ≡ y = cc in
            sym (ap (λ (x : SpaceState). x.arena.quantum) same) ∙ sym quantum
            );
      }

  pub fresh_own : IsStock spaces → All (IsOwnIn spaces) (caches_of (fresh_cpu n spaces))
  fresh_own stock = all_rows (IsOwnIn spaces) 0 (plans_of spaces) (λ i p at j below.
      subst (λ (k : ℕ). IsOwnIn spaces (new_own 3 (record { arena = k; cache = j; quantum = p.quantum }))) (omega arith) (own_at stock i p at j below))

  three_least : (m : ℕ) → IsSize m → 3 ≤ m
  three_least m (inl is) = omega (arith, is)
  three_least m (inr (inl is)) = omega (arith, is)
  three_least m (inr (inr (inl is))) = omega (arith, is)
  three_least m (inr (inr (inr is))) = omega (arith, is)

  shaped_at : IsStock spaces → (k j quantum : ℕ) → IsShapedIn spaces (new_own 3 (record { arena = k; cache = j; quantum = quantum }))
  shaped_at stock k j quantum = record {
    shape = record { sized = inl refl; most = omega arith; whole = inl refl };
    most = λ c at. three_least c.depot.size ((stock k at.space at.at).caches j c at.among).depot.sized;
  }

  pub fresh_shapes : IsStock spaces → All (IsShapedIn spaces) (caches_of (fresh_cpu n spaces))
  fresh_shapes stock = all_rows (IsShapedIn spaces) 0 (plans_of spaces) (λ i p at j below. shaped_at stock (0 + i) j p.quantum)

-- a test that passes finds one
found_by : (b any : Bool) (c : NumberedCpu) (rest : Option NumberedCpu) → (any ≡ true → rest ≢ None) → (b || any) ≡ true → cond b (Some c) rest ≢ None
found_by true any c rest later is none = (let e : Some c ≡ None = none in cc)
found_by false any c rest later is none = later is none

found : (test : NumberedCpu → Bool) (cs : List NumberedCpu) → list_any test cs ≡ true → find test cs ≢ None
found test [] is none = (let e : false ≡ true = is in cc)
found test (c ∷ cs) is none = found_by (test c) (list_any test cs) c (find test cs) (found test cs) is none

found_last : (test : NumberedCpu → Bool) (cs : List NumberedCpu) (c : NumberedCpu) → test c ≡ true → find test (cs ++ c ∷ []) ≢ None
found_last test [] c is none = (let e : Some c ≡ None = sym (ap (λ (b : Bool). cond b (Some c) None) is) ∙ none in cc)
found_last test (x ∷ cs) c is none = by (test x) (find test (cs ++ c ∷ [])) (found_last test cs c is) none
  where
    by : (b : Bool) (rest : Option NumberedCpu) → rest ≢ None → cond b (Some x) rest ≡ None → ⊥
    by true rest some none = (let e : Some x ≡ None = none in cc)
    by false rest some none = some none

or_false : (a b : Bool) → (a || b) ≡ false → (a ≡ false) × (b ≡ false)
or_false true b e = absurd (let f : true ≡ false = e in cc)
or_false false b e = (refl, e)

none_at : (test : NumberedCpu → Bool) (cs : List NumberedCpu) → list_any test cs ≡ false → (i : ℕ) (d : NumberedCpu) → i < length cs → test (get_or cs i d) ≡ false
none_at test [] none i d below = absurd (omega (arith, below))
none_at test (x ∷ cs) none zero d below = (or_false (test x) (list_any test cs) none).0
none_at test (x ∷ cs) none (suc i) d below = none_at test cs (or_false (test x) (list_any test cs) none).1 i d (omega (arith, below))

-- a number that none has is new
numbers_push : (n : ℕ) (cs : List NumberedCpu) (c : NumberedCpu) → c.number ≡ n → list_any (is_cpu n) cs ≡ false → AllPairs (λ a b. a.number ≢ b.number) cs → AllPairs (λ a b. a.number ≢ b.number) (cs ++ c ∷ [])
numbers_push n cs c is none apart = AllPairs-append (λ a b. a.number ≢ b.number) cs (c ∷ []) apart (λ i j e lt below. absurd (omega (arith, lt, below))) (λ i d below j e last same.
    (let first : j ≡ 0 = omega (arith, last) in
    let is_last : get_or (c ∷ []) j e ≡ c = ap (λ (k : ℕ). get_or (c ∷ []) k e) first in
    let number : (get_or cs i d).number ≡ n = same ∙ ap (λ (z : NumberedCpu). z.number) is_last ∙ is in
    let yes : is_cpu n (get_or cs i d) ≡ true = (Decides-eqb (get_or cs i d).number n).1 number in
    let e : false ≡ true = sym (none_at (is_cpu n) cs none i d below) ∙ yes in
    cc))

same_number : (n : ℕ) → (n == n) ≡ true
same_number n = (Decides-eqb n n).1 refl

-- what is out with one CPU more, which has no round
rounds_push : (cs : List NumberedCpu) (c : NumberedCpu) → all_own_rounds (caches_of c) ≡ [] → all_own_rounds (flat_map caches_of (cs ++ c ∷ [])) ≡ all_own_rounds (flat_map caches_of cs)
rounds_push cs c none =
    let all : flat_map caches_of (cs ++ c ∷ []) ≡ flat_map caches_of cs ++ (caches_of c ++ []) = flat_map-append caches_of cs (c ∷ []) in
    ap all_own_rounds all ∙ flat_map-append own_rounds (flat_map caches_of cs) (caches_of c ++ [])
    ∙ ap (λ (os : List OwnCacheState). all_own_rounds (flat_map caches_of cs) ++ all_own_rounds os) (append-nil (caches_of c))
    ∙ ap (λ (ts : List Tag). all_own_rounds (flat_map caches_of cs) ++ ts) none ∙ append-nil (all_own_rounds (flat_map caches_of cs))

abbrev IsCpuIn : List SpaceState → NumberedCpu → Type 0
IsCpuIn spaces c = IsCpu c.number × IsCpuOf spaces c.caches

abbrev HasShapes : List SpaceState → NumberedCpu → Type 0
HasShapes spaces c = All (IsShapedIn spaces) (caches_of c)

module _ (d : Picture) (n : ℕ) (is : IsPicture d) (in_range : IsCpu n) where
  abbrev fresh : NumberedCpu
  fresh = fresh_cpu n d.spaces

  select_old : list_any (is_cpu n) d.cpus ≡ true → IsPicture (record d { selected = n })
  select_old there = record {
    held = record {
      tree = is.held.tree;
      plans = is.held.plans;
      units = is.held.units;
      cpus = record { each = is.held.cpus.each; shapes = is.held.cpus.shapes; numbers = is.held.cpus.numbers; there = found (is_cpu n) d.cpus there };
    };
    book = is.book;
  }

  select_new : list_any (is_cpu n) d.cpus ≡ false → IsPicture (record d { cpus = d.cpus ++ fresh ∷ []; selected = n })
  select_new none =
      let caches : flat_map caches_of (d.cpus ++ fresh ∷ []) ≡ flat_map caches_of d.cpus ++ (caches_of fresh ++ []) = flat_map-append caches_of d.cpus (fresh ∷ []) in
      let own : All (IsOwnIn d.spaces) (caches_of fresh ++ []) = subst (λ (os : List OwnCacheState). All (IsOwnIn d.spaces) os) (sym (append-nil (caches_of fresh))) (fresh_own d.spaces n is.held.units.parts) in
      record {
        held = record {
          tree = is.held.tree;
          plans = is.held.plans;
          units = cpus_keep d.spaces (held_outside d) (held_outside (record d { cpus = d.cpus ++ fresh ∷ []; selected = n })) is.held.units (record {
            hands = refl;
            leases = refl;
            rounds = λ f. ap (sum_by f) (sym (rounds_push d.cpus fresh (fresh_rounds d.spaces n)));
            own = subst (λ (os : List OwnCacheState). All (IsOwnIn d.spaces) os) (sym caches) (All-append (IsOwnIn d.spaces) (flat_map caches_of d.cpus) (caches_of fresh ++ []) is.held.units.cpus own);
          });
          cpus = record {
            each = All-append (IsCpuIn d.spaces) d.cpus (fresh ∷ []) is.held.cpus.each (All-cons (IsCpuIn d.spaces) fresh [] (in_range, fresh_indexes d.spaces n) (All-nil (IsCpuIn d.spaces)));
            shapes = All-append (HasShapes d.spaces) d.cpus (fresh ∷ []) is.held.cpus.shapes (All-cons (HasShapes d.spaces) fresh [] (fresh_shapes d.spaces n is.held.units.parts) (All-nil (HasShapes d.spaces)));
            numbers = numbers_push n d.cpus fresh refl none is.held.cpus.numbers;
            there = found_last (is_cpu n) d.cpus fresh (same_number n);
          };
        };
        book = is.book;
      }

pub selected_is_picture : SelectedIsPicture
selected_is_picture d n is in_range = by (list_any (is_cpu n) d.cpus) refl
  where
    by : (b : Bool) → list_any (is_cpu n) d.cpus ≡ b → IsPicture (record d { cpus = cond b d.cpus (d.cpus ++ fresh_cpu n d.spaces ∷ []); selected = n })
    by true there = select_old d n is in_range there
    by false none = select_new d n is in_range none

-- what is fresh, with the CPU that it has
first_picture : (d : Picture) → IsFresh d → IsPicture (record d { cpus = fresh_cpu 0 d.spaces ∷ []; selected = 0 })
first_picture d is =
    let spaces = d.spaces in
    let leases : leased_segments d.book ≡ [] = ap segments_of_accounts is.book.accounts in
    let c : NumberedCpu = fresh_cpu 0 spaces in
    let caches : List OwnCacheState = caches_of c ++ [] in
    let own : All (IsOwnIn spaces) caches = subst (λ (os : List OwnCacheState). All (IsOwnIn spaces) os) (sym (append-nil (caches_of c))) (fresh_own spaces 0 is.units.stock) in
    let rounds : all_own_rounds caches ≡ [] = ap all_own_rounds (append-nil (caches_of c)) ∙ fresh_rounds spaces 0 in
    let first : IsAccountedFor spaces (outside [] [] caches) = cpus_keep spaces nothing_out (outside [] [] caches) (fresh_is_accounted spaces is.units) (record {
      hands = refl;
      leases = refl;
      rounds = λ f. ap (sum_by f) (sym rounds);
      own = own;
    }) in
    record {
      held = record {
        tree = is.tree;
        plans = is.plans;
        units = subst (λ (ts : List Tag). IsAccountedFor spaces (outside [] ts caches)) (sym leases) first;
        cpus = record {
          each = All-cons (IsCpuIn spaces) c [] (omega arith, fresh_indexes spaces 0) (All-nil (IsCpuIn spaces));
          shapes = All-cons (HasShapes spaces) c [] (fresh_shapes spaces 0 is.units.stock) (All-nil (HasShapes spaces));
          numbers = λ i j e lt below. absurd (omega (arith, lt, below));
          there = λ none. (let e : Some c ≡ None = none in cc);
        };
      };
      book = record { entries = []; history = is.book; possible = tt };
    }

pub fresh_is_picture : FreshIsPicture
fresh_is_picture d is =
    subst (λ (n : ℕ). IsPicture (record d { selected = n })) (sym is.selected)
    (subst (λ (cs : List NumberedCpu). IsPicture (record d { cpus = cs; selected = 0 })) (sym is.cpus) (first_picture d is))

pub fresh_cpu_fits : FreshCpuFits
fresh_cpu_fits = record {
  of = fresh_indexes;
  none = fresh_rounds;
  own = fresh_own;
  shapes = fresh_shapes;
}
