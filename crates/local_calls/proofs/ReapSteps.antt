-- What the events of a reaping leave to reap.
use Rattle.std.proofs.Common.{◌≡◌, ◌⊎◌, ℕ, ◌+◌, List, All, Option, Some, None, Result, Ok, length, set, inl, inr, refl, sym, ap, subst, ◌∙◌, arith}
use Rattle.std.specs.Prelude.{slice_get}
use Rattle.deed_core.specs.Tag.{Tag}
use Rattle.deed_core.specs.declared.segments.Route.TheVariants.{Cached}
use Rattle.deed_core.proofs.LawProofs.{written, set_same}
use Rattle.slab_layer.specs.Calls.{ReapOf, Reaps}
use Rattle.slab_layer.specs.Slab.{SlabState, IsComplete}
use Rattle.magazine_layer.specs.Calls.{DepotReapOf}
use Rattle.magazine_layer.specs.Depots.{DepotState, CanReap, ReapsRound, Begins, after_trim}
use Rattle.arena_tree.specs.declared.part_faults.GivenFault.{GivenFault}
use Rattle.slab_layer.specs.declared.faults.PutFault.{PutFault}
use Rattle.stock.specs.Spaces.{SpaceState, QuantumCacheState, IsCacheAt, with_arena, with_cache, with_slab, with_depot}
use Rattle.local_parts.specs.SharedSteps.{DoesFree, DoesPut, DoesReap, DoesDepotReap}
use Rattle.local_calls.specs.Reaped.{HasNoneToReap, NoneToReapAt}
use Rattle.local_calls.proofs.StagesNone.{one_index, cache_one}

-- after a cache was written over, what stands at an index is that one or stood there
cache_written : (old new : List SpaceState) (k j : ℕ) (space : SpaceState) (c : QuantumCacheState) → slice_get old k ≡ Some space → new ≡ set old k (with_cache j c space) → (i n : ℕ) (d : QuantumCacheState) → IsCacheAt new i n d
    → ((i ≡ k) × (n ≡ j) × (d ≡ c)) ⊎ ((¬ ((i ≡ k) × (n ≡ j))) × IsCacheAt old i n d)
cache_written old new k j space c at after i n d there = elim (written old k i (with_cache j c space) there.space (ap (λ xs. slice_get xs i) (sym after) ∙ there.at)) [
  | inl here ↦
      let among : slice_get (set space.caches j c) n ≡ Some d = ap (λ (s : SpaceState). slice_get s.caches n) (sym here.1) ∙ there.among in
      elim (written space.caches j n c d among) [
        | inl one ↦ inl (here.0, one.0, one.1)
        | inr other ↦ inr (λ both. other.0 both.1, record { space = space; at = ap (slice_get old) here.0 ∙ at; among = other.1 })
      ]
  | inr other ↦ inr (λ both. other.0 both.0, record { space = there.space; at = other.1; among = there.among })
]

-- an arena alone
arena_written : (old new : List SpaceState) (k : ℕ) (space : SpaceState) (x : SpaceState) → x.caches ≡ space.caches → slice_get old k ≡ Some space → new ≡ set old k x → (i n : ℕ) (d : QuantumCacheState) → IsCacheAt new i n d → IsCacheAt old i n d
arena_written old new k space x same at after i n d there = elim (written old k i x there.space (ap (λ xs. slice_get xs i) (sym after) ∙ there.at)) [
  | inl here ↦ record { space = space; at = ap (slice_get old) here.0 ∙ at; among = ap (λ cs. slice_get cs n) (sym same) ∙ (ap (λ (s : SpaceState). slice_get s.caches n) (sym here.1) ∙ there.among) }
  | inr other ↦ record { space = there.space; at = other.1; among = there.among }
]

-- a depot that begins to be reaped has a round that may go
can_reap : (d begun : DepotState) → Begins (after_trim d) begun → CanReap d
can_reap d begun begins = elim begins [
  | inl drains ↦ inl drains.0
  | inr more ↦ elim more [
    | inl first ↦ inr (inl (omega (arith, ap length first.oldest)))
    | inr full ↦ inr (inr full.some)
  ]
]

-- each cache was there before
abbrev pub CachesSame : List SpaceState → List SpaceState → Type 0
CachesSame old new = (i n : ℕ) (d : QuantumCacheState) → IsCacheAt new i n d → IsCacheAt old i n d

-- but for the one at the index
abbrev pub OthersSame : ℕ → ℕ → List SpaceState → List SpaceState → Type 0
OthersSame k c old new = (i n : ℕ) (d : QuantumCacheState) → IsCacheAt new i n d → ((i ≡ k) × (c ≡ n + 1)) ⊎ IsCacheAt old i n d

same_caches : (old new : List SpaceState) → new ≡ old → CachesSame old new
same_caches old new e i n d there = subst (λ xs. IsCacheAt xs i n d) e there

-- a depot of which no round may go, and no empty magazine
abbrev pub DepotStands : List SpaceState → ℕ → ℕ → Type 0
DepotStands spaces k j = (d : QuantumCacheState) → IsCacheAt spaces k j d → (¬ CanReap d.depot) × (d.depot.empty_reapable ≡ 0)

-- slabs of which none is complete
abbrev pub SlabsStand : List SpaceState → ℕ → ℕ → Type 0
SlabsStand spaces k j = (d : QuantumCacheState) → IsCacheAt spaces k j d → All (λ s. ¬ IsComplete s) d.slab.slabs

module _ (old new : List SpaceState) where
  -- a free
  pub freed_same : (t : Tag) (a : Result (Option Tag) (GivenFault Tag Tag)) → DoesFree old t a new → CachesSame old new
  freed_same t a does = elim does.2 [
    | inl on ↦ arena_written old new t.arena on.space (with_arena on.arena on.space) refl on.at on.after
    | inr none ↦ same_caches old new none.2
  ]

  -- a put of a chunk of that cache
  pub put_same : (t : Tag) (k c : ℕ) (a : Result (Unit {0}) (GivenFault (PutFault Tag) Tag)) → t.arena ≡ k → t.route ≡ Cached c → DoesPut old t a new → OthersSame k c old new
  put_same t k c a home cached does i n d there = elim does.2 [
    | inl on ↦
        let number : Cached c ≡ Cached (on.0 + 1) = sym cached ∙ on.1 in
        let is : c ≡ on.0 + 1 = cc in
        elim (cache_written old new t.arena on.0 on.2.space (with_slab on.2.slab on.2.cache) on.2.at on.2.after i n d there) [
          | inl here ↦ inl (here.0 ∙ home, is ∙ ap (λ m. m + 1) (sym here.1))
          | inr other ↦ inr other.1
        ]
    | inr none ↦ inr (same_caches old new none.2 i n d there)
  ]

  module _ (k c : ℕ) where
    -- a look at a depot that found nothing
    pub depot_none : DoesDepotReap old k c (Ok None) new → ((i n : ℕ) → NoneToReapAt old i n → NoneToReapAt new i n) × ((j : ℕ) → c ≡ j + 1 → DepotStands new k j)
    depot_none does = elim does.2 [
      | inl on ↦
          let o = on.2 in
          let did : (¬ CanReap o.cache.depot) × (o.depot ≡ after_trim o.cache.depot) = subst (λ r. DepotReapOf o.cache.depot r o.depot) nothing o.does in
          let trimmed : ¬ CanReap o.depot = subst (λ (d : DepotState). ¬ CanReap d) (sym did.1) did.0 in
          let empty : o.depot.empty_reapable ≡ 0 = ap (λ (d : DepotState). d.empty_reapable) did.1 in (
            λ i n was d there. elim (cache_written old new k on.0 o.space (with_depot o.depot o.cache) o.at o.after i n d there) [
              | inl here ↦
                  let before = was o.cache (record { space = o.space; at = ap (slice_get old) here.0 ∙ o.at; among = ap (slice_get o.space.caches) here.1 ∙ o.among }) in
                  subst HasNoneToReap (sym here.2) (record { rounds = trimmed; empty = empty; slabs = before.slabs })
              | inr other ↦ was d other.1
            ],
            λ j number d there. elim (cache_written old new k on.0 o.space (with_depot o.depot o.cache) o.at o.after k j d there) [
              | inl here ↦ subst (λ (q : QuantumCacheState). (¬ CanReap q.depot) × (q.depot.empty_reapable ≡ 0)) (sym here.2) (trimmed, empty)
              | inr other ↦ absurd (other.0 (refl, one_index c j on.0 number on.1))
            ],
          )
      | inr none ↦ (λ i n was d there. was d (same_caches old new none.1.1 i n d there), λ j number d there. absurd (none.0 j number (d, same_caches old new none.1.1 k j d there)))
    ]
      where
        nothing : does.0 ≡ None
        nothing = let e : Ok None ≡ Ok does.0 = does.1 in cc

    -- one that found a round: the depot had one that may go, and no other cache changed
    pub depot_some : (t : Tag) → DoesDepotReap old k c (Ok (Some t)) new → ((j : ℕ) → c ≡ j + 1 → NoneToReapAt old k j → ⊥) × OthersSame k c old new
    depot_some t does = elim does.2 [
      | inl on ↦
          let o = on.2 in
          let did : ReapsRound t (after_trim o.cache.depot) o.depot = subst (λ r. DepotReapOf o.cache.depot r o.depot) something o.does in (
            λ j number was.
                let there : IsCacheAt old k j o.cache = record { space = o.space; at = o.at; among = ap (slice_get o.space.caches) (one_index c j on.0 number on.1) ∙ o.among } in
                (was o.cache there).rounds (can_reap o.cache.depot did.0 did.1),
            λ i n d there. elim (cache_written old new k on.0 o.space (with_depot o.depot o.cache) o.at o.after i n d there) [
              | inl here ↦ inl (here.0, on.1 ∙ ap (λ m. m + 1) (sym here.1))
              | inr other ↦ inr other.1
            ],
          )
      | inr none ↦ absurd (let e : Some t ≡ None = sym something ∙ none.1.0 in cc)
    ]
      where
        something : does.0 ≡ Some t
        something = let e : Ok (Some t) ≡ Ok does.0 = does.1 in cc

    -- a look at slabs that found nothing
    pub slab_none : DoesReap old k c (Ok None) new → (new ≡ old) × ((j : ℕ) → c ≡ j + 1 → SlabsStand old k j)
    slab_none does = elim does.2 [
      | inl on ↦
          let o = on.2 in
          let did : All (λ s. ¬ IsComplete s) o.cache.slab.slabs × (o.slab ≡ o.cache.slab) = subst (λ r. ReapOf o.cache.slab r o.slab) nothing o.does in
          let cache : with_cache on.0 (with_slab o.slab o.cache) o.space ≡ o.space =
          ap (λ x. with_cache on.0 (with_slab x o.cache) o.space) did.1 ∙ ap (λ cs. record { arena = o.space.arena; source = o.space.source; caches = cs }) (set_same o.space.caches on.0 o.cache o.among) in (
            o.after ∙ ap (set old k) cache ∙ set_same old k o.space o.at,
            λ j number d there. subst (λ (x : QuantumCacheState). All (λ s. ¬ IsComplete s) x.slab.slabs) (cache_one old k j o.space o.cache d o.at (ap (slice_get o.space.caches) (one_index c j on.0 number on.1) ∙ o.among) there) did.0,
          )
      | inr none ↦ (none.1.1, λ j number d there. absurd (none.0 j number (d, there)))
    ]
      where
        nothing : does.0 ≡ None
        nothing = let e : Ok None ≡ Ok does.0 = does.1 in cc

    -- one that found a slab: the cache had a complete one, no other cache changed, and no depot
    pub slab_some : (t : Tag) → DoesReap old k c (Ok (Some t)) new → ((j : ℕ) → c ≡ j + 1 → NoneToReapAt old k j → ⊥) × OthersSame k c old new × ((i n : ℕ) → DepotStands old i n → DepotStands new i n)
    slab_some t does = elim does.2 [
      | inl on ↦
          let o = on.2 in
          let did : (i : ℕ) × (s : SlabState) × Reaps i s o.cache.slab o.slab t = subst (λ r. ReapOf o.cache.slab r o.slab) something o.does in (
            λ j number was.
                let there : IsCacheAt old k j o.cache = record { space = o.space; at = o.at; among = ap (slice_get o.space.caches) (one_index c j on.0 number on.1) ∙ o.among } in
                (was o.cache there).slabs did.0 did.1 did.2.lowest.stands.within (subst IsComplete (sym did.2.lowest.stands.is) did.2.lowest.so),
            λ i n d there. elim (cache_written old new k on.0 o.space (with_slab o.slab o.cache) o.at o.after i n d there) [
              | inl here ↦ inl (here.0, on.1 ∙ ap (λ m. m + 1) (sym here.1))
              | inr other ↦ inr other.1
            ],
            λ i n was d there. elim (cache_written old new k on.0 o.space (with_slab o.slab o.cache) o.at o.after i n d there) [
              | inl here ↦
                  let before = was o.cache (record { space = o.space; at = ap (slice_get old) here.0 ∙ o.at; among = ap (slice_get o.space.caches) here.1 ∙ o.among }) in
                  subst (λ (q : QuantumCacheState). (¬ CanReap q.depot) × (q.depot.empty_reapable ≡ 0)) (sym here.2) before
              | inr other ↦ was d other.1
            ],
          )
      | inr none ↦ absurd (let e : Some t ≡ None = sym something ∙ none.1.0 in cc)
    ]
      where
        something : does.0 ≡ Some t
        something = let e : Ok (Some t) ≡ Ok does.0 = does.1 in cc
