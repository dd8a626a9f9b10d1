-- Where no arena has caches and nothing is leased, nothing is kept.
use Rattle.std.proofs.Common.{◌≡◌, ℕ, ◌+◌, ◌/◌, suc, refl, sym, subst, ap, ◌∙◌, List, [], ◌∷◌, ◌++◌, map, length, All}
use Rattle.std.specs.Prelude.{flat_map, replicate, slice_get, Some, None}
use Rattle.std.proofs.Math.Nat.{zero-div}
use Rattle.deed_core.proofs.LawProofs.{all_at, all_from, mapped, slice_get_mapped}
use Rattle.arena_tree.specs.declared.trees.TreeArena.{TreeArena}
use Rattle.stock.specs.Endings.{IsReaped, IsReapedCache}
use Rattle.stock.specs.OwnCaches.{OwnCacheState, all_own_rounds}
use Rattle.stock.specs.Setups.{plan_for, plans_for}
use Rattle.stock.specs.Spaces.{SpacePlan, plan_of, plans_of, slab_size_of}
use Rattle.local_parts.specs.Cpus.{IsCpuOf, own_index, own_indexes, row_indexes, indexes_from}
use Rattle.lease_book.specs.BookState.{leased_segments}
use Rattle.lease_proto.specs.Cpus.{IsCpu}
use Rattle.lease_machine.specs.Picture.{NumberedCpu, Picture, IsPicture, caches_of}
use Rattle.lease_machine.specs.RoomLaws.{NothingIsKept}

no_map : {X Y : Type 0} (f : X → Y) (xs : List X) → map f xs ≡ [] → xs ≡ []
no_map f [] none = refl
no_map f (x ∷ xs) none = absurd (cc)

nothing_there : {X : Type 0} (xs : List X) (j : ℕ) (x : X) → xs ≡ [] → slice_get xs j ≡ Some x → ⊥
nothing_there [] j x none at = absurd (let e : None ≡ Some x = at in cc)
nothing_there (y ∷ ys) j x none at = absurd (cc)

-- an arena has no cache by its plan
abbrev HasNone : SpacePlan → Type 0
HasNone p = p.slab_sizes ≡ []

planned_none : (x : TreeArena) → x.qcache_max ≡ 0 → HasNone (plan_for x)
planned_none x none =
    let count : x.qcache_max / x.quantum ≡ 0 = ap (λ n. n / x.quantum) none ∙ zero-div x.quantum in
    ap (λ n. replicate n x.slab_size) count

-- then a CPU has none
rows_none : (k : ℕ) (plans : List SpacePlan) (cpu : List (List OwnCacheState)) → All HasNone plans → own_indexes cpu ≡ indexes_from k plans → flat_map (λ row. row) cpu ≡ []
rows_none k plans [] none same = refl
rows_none k [] (row ∷ cpu) none same = absurd (cc)
rows_none k (p ∷ plans) (row ∷ cpu) none same =
    let first : p.slab_sizes ≡ [] = all_at HasNone (p ∷ plans) 0 p none refl in
    let here : map own_index row ≡ row_indexes k p.quantum 0 (length p.slab_sizes) = cc in
    let empty : row ≡ [] = no_map own_index row (here ∙ ap (λ (xs : List ℕ). row_indexes k p.quantum 0 (length xs)) first) in
    let others : All HasNone plans = all_from HasNone plans (λ i q at. all_at HasNone (p ∷ plans) (suc i) q none at) in
    ap (λ r. r ++ flat_map (λ row. row) cpu) empty ∙ rows_none (k + 1) plans cpu others (cc)

cpus_none : (cpus : List NumberedCpu) → All (λ c. caches_of c ≡ []) cpus → flat_map caches_of cpus ≡ []
cpus_none [] none = refl
cpus_none (c ∷ cpus) none =
    let first : caches_of c ≡ [] = all_at (λ (x : NumberedCpu). caches_of x ≡ []) (c ∷ cpus) 0 c none refl in
    let others = all_from (λ (x : NumberedCpu). caches_of x ≡ []) cpus (λ i x at. all_at (λ (y : NumberedCpu). caches_of y ≡ []) (c ∷ cpus) (suc i) x none at) in
    ap (λ r. r ++ flat_map caches_of cpus) first ∙ cpus_none cpus others

module _ (d : Picture) (is : IsPicture d) (none : All (λ x. x.qcache_max ≡ 0) d.tree) where
  plans_none : All HasNone (plans_of d.spaces)
  plans_none = subst (λ (ps : List SpacePlan). All HasNone ps) (sym is.held.plans) (all_from HasNone (plans_for d.tree) (λ k p at.
      (let x = mapped plan_for d.tree k p at in
      subst HasNone (sym x.2) (planned_none x.0 (all_at (λ (y : TreeArena). y.qcache_max ≡ 0) d.tree k x.0 none x.1)))))

  -- the arenas have none to reap
  all_bare : All IsReaped d.spaces
  all_bare = all_from IsReaped d.spaces (λ k s at.
      (let planned : map slab_size_of s.caches ≡ [] = all_at HasNone (plans_of d.spaces) k (plan_of s) plans_none (slice_get_mapped plan_of d.spaces k s at) in
      let empty : s.caches ≡ [] = no_map slab_size_of s.caches planned in
      all_from IsReapedCache s.caches (λ j c there. absurd (nothing_there s.caches j c empty there))))

  cpu_caches : flat_map caches_of d.cpus ≡ []
  cpu_caches = cpus_none d.cpus (all_from (λ (c : NumberedCpu). caches_of c ≡ []) d.cpus (λ k c at.
      rows_none 0 (plans_of d.spaces) c.caches plans_none (all_at (λ (x : NumberedCpu). IsCpu x.number × IsCpuOf d.spaces x.caches) d.cpus k c is.held.cpus.each at).1))

  pub nothing_kept : leased_segments d.book ≡ [] → NothingIsKept d
  nothing_kept free = record { leases = free; rounds = ap all_own_rounds cpu_caches; reaped = all_bare }
