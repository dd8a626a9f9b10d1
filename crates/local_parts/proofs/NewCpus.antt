-- What a new CPU's caches are, row by row.
use Rattle.std.proofs.Common.{◌≡◌, ℕ, suc, zero, ◌+◌, ◌<◌, refl, sym, subst, ap, ◌∙◌, List, [], ◌∷◌, ◌++◌, All, map, length, take, Some, arith}
use Rattle.std.specs.Prelude.{slice_get}
use Rattle.std.proofs.lemmas.List.{take_more, map-append, length-map, length-take}
use Rattle.std.proofs.lemmas.Option.{slice_get_within, get_or_from_slice_get}
use Rattle.deed_core.proofs.LawProofs.{mapped, all_from, slice_get_mapped, slice_get_some, power_some}
use Rattle.stock.specs.Spaces.{SpaceState, SpacePlan, slab_size_of, plan_of, plans_of}
use Rattle.stock.specs.Stocks.{IsStock}
use Rattle.stock.specs.OwnCaches.{OwnCacheState, HasNoRound}
use Rattle.local_parts.specs.Cpus.{CacheIndexes, IsCpuOf, HasNoRounds, own_index, own_indexes, new_own, new_cpu, row_indexes, indexes_from}

pub quantum_some : (spaces : List SpaceState) (k q : ℕ) → IsStock spaces → k < length spaces → ((s : SpaceState) → slice_get spaces k ≡ Some s → q ≡ s.arena.quantum) → 0 < q
quantum_some spaces k q law within is =
    let s = slice_get_some spaces k within in
    let some = power_some s.0.arena.quantum (law k s.0 s.1).sound.divided.power in
    subst (λ n. 0 < n) (sym (is s.0 s.1)) some

row_suc : (a q j n : ℕ) → row_indexes a q j n ++ record { arena = a; cache = j + n; quantum = q } ∷ [] ≡ row_indexes a q j (suc n)
row_suc a q j zero = let e : j + 0 ≡ j = omega arith in ap (λ m. record { arena = a; cache = m; quantum = q } ∷ []) e
row_suc a q j (suc n) =
    let e : j + suc n ≡ (j + 1) + n = omega arith in
    ap (λ xs. record { arena = a; cache = j; quantum = q } ∷ xs) (ap (λ m. row_indexes a q (j + 1) n ++ record { arena = a; cache = m; quantum = q } ∷ []) e ∙ row_suc a q (j + 1) n)

pub row_more : (size a q n : ℕ) (xs : List OwnCacheState) → xs ≡ map (new_own size) (row_indexes a q 0 n) → xs ++ new_own size (record { arena = a; cache = n; quantum = q }) ∷ [] ≡ map (new_own size) (row_indexes a q 0 (n + 1))
row_more size a q n xs is =
    let e : 0 + n ≡ n = omega arith in
    let f : suc n ≡ n + 1 = omega arith in
    ap (λ ys. ys ++ new_own size (record { arena = a; cache = n; quantum = q }) ∷ []) is ∙ sym (map-append (new_own size) (row_indexes a q 0 n) (record { arena = a; cache = n; quantum = q } ∷ []))
    ∙ ap (λ m. map (new_own size) (row_indexes a q 0 n ++ record { arena = a; cache = m; quantum = q } ∷ [])) (sym e) ∙ ap (map (new_own size)) (row_suc a q 0 n) ∙ ap (λ m. map (new_own size) (row_indexes a q 0 m)) f

indexes_suc : (k : ℕ) (plans : List SpacePlan) (p : SpacePlan) → indexes_from k (plans ++ p ∷ []) ≡ indexes_from k plans ++ row_indexes (k + length plans) p.quantum 0 (length p.slab_sizes) ∷ []
indexes_suc k [] p = let e : k ≡ k + 0 = omega arith in ap (λ m. row_indexes m p.quantum 0 (length p.slab_sizes) ∷ []) e
indexes_suc k (z ∷ plans) p =
    let e : (k + 1) + length plans ≡ k + suc (length plans) = omega arith in
    ap (λ xs. row_indexes k z.quantum 0 (length z.slab_sizes) ∷ xs) (indexes_suc (k + 1) plans p ∙ ap (λ m. indexes_from (k + 1) plans ++ row_indexes m p.quantum 0 (length p.slab_sizes) ∷ []) e)

pub cpu_more : (size : ℕ) (spaces : List SpaceState) (i : ℕ) (cpu : List (List OwnCacheState)) (row : List OwnCacheState) → i < length spaces → cpu ≡ new_cpu size (take i (plans_of spaces))
    → ((s : SpaceState) → slice_get spaces i ≡ Some s → row ≡ map (new_own size) (row_indexes i s.arena.quantum 0 (length s.caches))) → cpu ++ row ∷ [] ≡ new_cpu size (take (i + 1) (plans_of spaces))
cpu_more size spaces i cpu row within is at =
    let s = slice_get_some spaces i within in
    let p = plan_of s.0 in
    let here = slice_get_mapped plan_of spaces i s.0 s.1 in
    let lt : i < length (plans_of spaces) = slice_get_within (plans_of spaces) i p here in
    let taken : take (i + 1) (plans_of spaces) ≡ take i (plans_of spaces) ++ p ∷ [] = take_more (plans_of spaces) i p lt ∙ ap (λ x. take i (plans_of spaces) ++ x ∷ []) (get_or_from_slice_get (plans_of spaces) i p p here) in
    let len : 0 + length (take i (plans_of spaces)) ≡ i = omega (arith, length-take i (plans_of spaces), lt) in
    let sizes : length p.slab_sizes ≡ length s.0.caches = length-map s.0.caches slab_size_of in
    let rows : indexes_from 0 (take (i + 1) (plans_of spaces)) ≡ indexes_from 0 (take i (plans_of spaces)) ++ row_indexes i s.0.arena.quantum 0 (length s.0.caches) ∷ []
    = ap (indexes_from 0) taken ∙ indexes_suc 0 (take i (plans_of spaces)) p ∙ ap (λ m. indexes_from 0 (take i (plans_of spaces)) ++ row_indexes m s.0.arena.quantum 0 (length p.slab_sizes) ∷ []) len
    ∙ ap (λ n. indexes_from 0 (take i (plans_of spaces)) ++ row_indexes i s.0.arena.quantum 0 n ∷ []) sizes in
    ap (λ xs. xs ++ row ∷ []) is ∙ ap (λ r. new_cpu size (take i (plans_of spaces)) ++ r ∷ []) (at s.0 s.1)
    ∙ sym (map-append (map (new_own size)) (indexes_from 0 (take i (plans_of spaces))) (row_indexes i s.0.arena.quantum 0 (length s.0.caches) ∷ [])) ∙ ap (map (map (new_own size))) (sym rows)

row_empty : (size : ℕ) (xs : List CacheIndexes) → All HasNoRound (map (new_own size) xs)
row_empty size xs = all_from HasNoRound (map (new_own size) xs) (λ k y at. let m = mapped (new_own size) xs k y at in subst HasNoRound (sym m.2) (record { loaded_empty = refl; previous_empty = refl }))

pub new_row_empty : (size : ℕ) (xs : List CacheIndexes) (row : List OwnCacheState) → row ≡ map (new_own size) xs → All HasNoRound row
new_row_empty size xs row is = subst (All HasNoRound) (sym is) (row_empty size xs)

pub new_cpu_empty : (size : ℕ) (plans : List SpacePlan) (cpu : List (List OwnCacheState)) → cpu ≡ new_cpu size plans → HasNoRounds cpu
new_cpu_empty size plans cpu is = subst HasNoRounds (sym is)
    (all_from (λ row. All HasNoRound row) (new_cpu size plans) (λ k row at. let m = mapped (map (new_own size)) (indexes_from 0 plans) k row at in subst (All HasNoRound) (sym m.2) (row_empty size m.0)))

row_back : (size : ℕ) (xs : List CacheIndexes) → map own_index (map (new_own size) xs) ≡ xs
row_back size [] = refl
row_back size (x ∷ xs) = ap (λ ys. x ∷ ys) (row_back size xs)

cpu_back : (size : ℕ) (xss : List (List CacheIndexes)) → own_indexes (map (map (new_own size)) xss) ≡ xss
cpu_back size [] = refl
cpu_back size (xs ∷ xss) = ap (λ ys. ys ∷ own_indexes (map (map (new_own size)) xss)) (row_back size xs) ∙ ap (λ ys. xs ∷ ys) (cpu_back size xss)

pub new_cpu_of : (size : ℕ) (spaces : List SpaceState) (cpu : List (List OwnCacheState)) → cpu ≡ new_cpu size (plans_of spaces) → IsCpuOf spaces cpu
new_cpu_of size spaces cpu is = ap own_indexes is ∙ cpu_back size (indexes_from 0 (plans_of spaces))
