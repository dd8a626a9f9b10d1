-- What the events of a reaping do to what may be found.
use Rattle.std.proofs.Common.{◌≡◌, ℕ, ◌+◌, List, [], ◌∷◌, ◌++◌, Option, Some, None, Result, Ok, Err, length, set, inl, inr, refl, sym, ap, subst, ◌∙◌, arith}
use Rattle.std.specs.Prelude.{slice_get}
use Rattle.std.proofs.lemmas.List.{length-append, length-set}
use Rattle.std.proofs.lemmas.List.Edits.{length-remove}
use Rattle.std.proofs.lemmas.List.Sums.{sum_by-set}
use Rattle.std.proofs.lemmas.Option.{slice_get_within, get_or_from_slice_get}
use Rattle.deed_core.specs.Tag.{Tag}
use Rattle.slab_layer.specs.Cache.{SlabCacheState}
use Rattle.slab_layer.specs.Calls.{PutOf, ReapOf, Reaps}
use Rattle.slab_layer.specs.Slab.{SlabState}
use Rattle.slab_layer.specs.declared.faults.PutFault.{PutFault}
use Rattle.slab_layer.specs.declared.faults.PutFault.TheVariants as putting
use Rattle.magazine_layer.specs.Calls.{DepotReapOf}
use Rattle.magazine_layer.specs.Depots.{DepotState, ReapsRound, Begins, after_trim, all_rounds, depot_rounds}
use Rattle.arena_tree.specs.declared.part_faults.GivenFault.{GivenFault}
use Rattle.stock.specs.Spaces.{SpaceState, QuantumCacheState, with_arena, with_cache, with_slab, with_depot}
use Rattle.local_parts.specs.SharedSteps.{DoesFree, DoesPut, DoesReap, DoesDepotReap}
use Rattle.local_calls.specs.Looks.{finds_in_cache, finds_in_space, finds_in_spaces}

-- after a cache was written over
cache_weighs : (old new : List SpaceState) (k j : ℕ) (space : SpaceState) (c d : QuantumCacheState) → slice_get old k ≡ Some space → slice_get space.caches j ≡ Some c → new ≡ set old k (with_cache j d space) → finds_in_spaces new + finds_in_cache c ≡ finds_in_spaces old + finds_in_cache d
cache_weighs old new k j space c d at among after =
    let inner = sum_by-set finds_in_cache space.caches j d c (slice_get_within space.caches j c among) in
    let outer = sum_by-set finds_in_space old k (with_cache j d space) space (slice_get_within old k space at) in
    let here = ap finds_in_cache (get_or_from_slice_get space.caches j c c among) in
    let there = ap finds_in_space (get_or_from_slice_get old k space space at) in
    let now = ap finds_in_spaces after in
    omega (arith, inner, outer, here, there, now)

-- after an arena was
arena_weighs : (old new : List SpaceState) (k : ℕ) (space x : SpaceState) → finds_in_space x ≡ finds_in_space space → slice_get old k ≡ Some space → new ≡ set old k x → finds_in_spaces new ≡ finds_in_spaces old
arena_weighs old new k space x same at after =
    let outer = sum_by-set finds_in_space old k x space (slice_get_within old k space at) in
    let there = ap finds_in_space (get_or_from_slice_get old k space space at) in
    let now = ap finds_in_spaces after in
    omega (arith, outer, there, now, same)

-- the rounds of a depot, list by list
in_depot : (d : DepotState) → length (depot_rounds d) ≡ length (all_rounds d.old_full) + (length (all_rounds d.full) + length d.draining)
in_depot d = length-append (all_rounds d.old_full) (all_rounds d.full ++ d.draining) ∙ ap (λ n. length (all_rounds d.old_full) + n) (length-append (all_rounds d.full) d.draining)

-- a magazine that begins to be drained is one of them
begun_same : (d e : DepotState) → Begins d e → length (depot_rounds e) ≡ length (depot_rounds d)
begun_same d e begins = elim begins [
  | inl same ↦ ap (λ (x : DepotState). length (depot_rounds x)) same.1
  | inr more ↦ elim more [
    | inl old ↦
        let first = ap (λ xs. length (all_rounds xs)) old.oldest in
        let cut = length-append e.draining (all_rounds e.old_full) in
        let rest = ap (λ (x : DepotState). length (all_rounds x.full)) old.rest in
        omega (arith, in_depot d, in_depot e, first, cut, rest, ap length old.drained)
    | inr full ↦
        let first = ap (λ xs. length (all_rounds xs)) full.oldest in
        let cut = length-append e.draining (all_rounds e.full) in
        let rest = ap (λ (x : DepotState). length (all_rounds x.old_full)) full.rest in
        omega (arith, in_depot d, in_depot e, first, cut, rest, ap length full.drained)
  ]
]

reaps_one : (t : Tag) (d e : DepotState) → ReapsRound t (after_trim d) e → length (depot_rounds e) + 1 ≡ length (depot_rounds d)
reaps_one t d e did =
    let begun = did.0 in
    let same = begun_same (after_trim d) begun did.1 in
    let last = ap length did.2.last in
    let cut = length-append e.draining (t ∷ []) in
    let old = ap (λ (x : DepotState). length (all_rounds x.old_full)) did.2.rest in
    let full = ap (λ (x : DepotState). length (all_rounds x.full)) did.2.rest in
    omega (arith, in_depot begun, in_depot e, same, last, cut, old, full)

module _ (old new : List SpaceState) where
  -- a free
  pub freed_found : (t : Tag) (a : Result (Option Tag) (GivenFault Tag Tag)) → DoesFree old t a new → finds_in_spaces new ≡ finds_in_spaces old
  freed_found t a does = elim does.2 [
    | inl on ↦ arena_weighs old new t.arena on.space (with_arena on.arena on.space) refl on.at on.after
    | inr none ↦ ap finds_in_spaces none.2
  ]

  -- a chunk that is put back
  put_slabs : (t : Tag) (r : Result (Unit {0}) (PutFault Tag)) (x y : SlabCacheState) → PutOf x t r y → length y.slabs ≡ length x.slabs
  put_slabs t (Ok u) x y did = ap (λ (z : SlabCacheState). length z.slabs) did.3.after ∙ length-set x.slabs did.0 _
  put_slabs t (Err (putting.AtHome back)) x y did = ap (λ (z : SlabCacheState). length z.slabs) did.1.unchanged
  put_slabs t (Err (putting.NotMine back)) x y did = ap (λ (z : SlabCacheState). length z.slabs) did.2.unchanged

  pub put_found : (t : Tag) (a : Result (Unit {0}) (GivenFault (PutFault Tag) Tag)) → DoesPut old t a new → finds_in_spaces new ≡ finds_in_spaces old
  put_found t a does = elim does.2 [
    | inl on ↦
        let o = on.2 in
        let same = put_slabs t does.0 o.cache.slab o.slab o.does in
        omega (arith, cache_weighs old new t.arena on.0 o.space o.cache (with_slab o.slab o.cache) o.at o.among o.after, same)
    | inr none ↦ ap finds_in_spaces none.2
  ]

  module _ (k c : ℕ) where
    -- a look at a depot
    pub depot_found : (t : Tag) → DoesDepotReap old k c (Ok (Some t)) new → finds_in_spaces new + 1 ≡ finds_in_spaces old
    depot_found t does = elim does.2 [
      | inl on ↦
          let o = on.2 in
          let did : ReapsRound t (after_trim o.cache.depot) o.depot = subst (λ r. DepotReapOf o.cache.depot r o.depot) something o.does in
          omega (arith, cache_weighs old new k on.0 o.space o.cache (with_depot o.depot o.cache) o.at o.among o.after, reaps_one t o.cache.depot o.depot did)
      | inr none ↦ absurd (let e : Some t ≡ None = sym something ∙ none.1.0 in cc)
    ]
      where
        something : does.0 ≡ Some t
        something = let e : Ok (Some t) ≡ Ok does.0 = does.1 in cc

    pub depot_missed : DoesDepotReap old k c (Ok None) new → finds_in_spaces new ≡ finds_in_spaces old
    depot_missed does = elim does.2 [
      | inl on ↦
          let o = on.2 in
          let did : DepotReapOf o.cache.depot None o.depot = subst (λ r. DepotReapOf o.cache.depot r o.depot) nothing o.does in
          let same = ap (λ (x : DepotState). length (depot_rounds x)) did.1 in
          omega (arith, cache_weighs old new k on.0 o.space o.cache (with_depot o.depot o.cache) o.at o.among o.after, same)
      | inr none ↦ ap finds_in_spaces none.1.1
    ]
      where
        nothing : does.0 ≡ None
        nothing = let e : Ok None ≡ Ok does.0 = does.1 in cc

    -- and at slabs
    pub slab_found : (t : Tag) → DoesReap old k c (Ok (Some t)) new → finds_in_spaces new + 1 ≡ finds_in_spaces old
    slab_found t does = elim does.2 [
      | inl on ↦
          let o = on.2 in
          let did : (i : ℕ) × (s : SlabState) × Reaps i s o.cache.slab o.slab t = subst (λ r. ReapOf o.cache.slab r o.slab) something o.does in
          let less = length-remove o.cache.slab.slabs did.0 did.2.lowest.stands.within in
          let now = ap (λ (x : SlabCacheState). length x.slabs) did.2.after in
          omega (arith, cache_weighs old new k on.0 o.space o.cache (with_slab o.slab o.cache) o.at o.among o.after, less, now)
      | inr none ↦ absurd (let e : Some t ≡ None = sym something ∙ none.1.0 in cc)
    ]
      where
        something : does.0 ≡ Some t
        something = let e : Ok (Some t) ≡ Ok does.0 = does.1 in cc

    pub slab_missed : DoesReap old k c (Ok None) new → finds_in_spaces new ≡ finds_in_spaces old
    slab_missed does = elim does.2 [
      | inl on ↦
          let o = on.2 in
          let did : ReapOf o.cache.slab None o.slab = subst (λ r. ReapOf o.cache.slab r o.slab) nothing o.does in
          let same = ap (λ (x : SlabCacheState). length x.slabs) did.1 in
          omega (arith, cache_weighs old new k on.0 o.space o.cache (with_slab o.slab o.cache) o.at o.among o.after, same)
      | inr none ↦ ap finds_in_spaces none.1.1
    ]
      where
        nothing : does.0 ≡ None
        nothing = let e : Ok None ≡ Ok does.0 = does.1 in cc
