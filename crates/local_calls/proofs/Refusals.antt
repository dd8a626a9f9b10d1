-- No part of one thread's refuses what it is rightly asked, but when out of memory.
use Rattle.std.proofs.Common.{◌≡◌, ℕ, ◌+◌, ◌-◌, ◌/◌, ◌<◌, List, ◌∷◌, Option, Some, Result, Ok, Err, Contains, length, replicate, inl, inr, sym, ap, subst, ◌∙◌, arith}
use Rattle.std.specs.Prelude.{slice_get}
use Rattle.std.proofs.lemmas.List.{length-replicate, get_or-replicate, length-map}
use Rattle.std.proofs.lemmas.Option.{slice_get_within, get_or_from_slice_get}
use Rattle.deed_core.specs.Extent.{Overlap}
use Rattle.deed_core.specs.Holding.{Holding}
use Rattle.deed_core.specs.Tag.{Tag}
use Rattle.deed_core.specs.Request.{plain_of}
use Rattle.deed_core.specs.declared.requests.Request.{Request}
use Rattle.deed_core.specs.declared.segments.Route.TheVariants.{Direct, Cached}
use Rattle.deed_core.proofs.LawProofs.{mapped, slice_get_mapped, slice_get_one, slice_get_some}
use Rattle.tag_arena.specs.Calls.{IsTagged}
use Rattle.tag_arena.specs.Outcomes.{ImportOf}
use Rattle.tag_arena.specs.declared.faults.ArenaFault.{ArenaFault}
use Rattle.tag_arena.specs.declared.faults.SpanFault.{SpanFault}
use Rattle.tag_arena.specs.declared.faults.SpanFault.TheVariants as span_fault
use Rattle.slab_layer.specs.Cache.{chunks_out}
use Rattle.slab_layer.specs.Calls.{AddOf}
use Rattle.slab_layer.proofs.LawProofs.{never_both_ways}
use Rattle.slab_layer.specs.declared.faults.AddFault.{AddFault}
use Rattle.slab_layer.specs.declared.faults.AddFault.TheVariants as add_fault
use Rattle.slab_layer.specs.declared.faults.PutFault.{PutFault}
use Rattle.slab_layer.specs.declared.faults.PutFault.TheVariants as put_fault
use Rattle.arena_tree.specs.declared.part_faults.PartFault.{PartFault}
use Rattle.arena_tree.specs.declared.part_faults.GivenFault.{GivenFault}
use Rattle.arena_tree.specs.declared.part_faults.PartFault.TheVariants as asking
use Rattle.arena_tree.specs.declared.part_faults.GivenFault.TheVariants as giving
use Rattle.arena_tree.specs.Chains.{source_of}
use Rattle.arena_tree.specs.Trees.{nodes_of}
use Rattle.arena_tree.specs.declared.trees.TreeArena.{TreeArena}
use Rattle.arena_tree.proofs.LawProofs.{arena_read}
use Rattle.stock.specs.Accounts.{IsAccounted}
use Rattle.stock.specs.Setups.{plan_for, plans_for}
use Rattle.stock.specs.Spaces.{SpaceState, SpacePlan, QuantumCacheState, HasCache, plan_of, plans_of, slab_size_of}
use Rattle.stock.specs.Steps.{OnArena, OnSlab, FreeIn, PutIn, NamesNoCache}
use Rattle.stock.specs.Stocks.{IsQuantumCache}
use Rattle.stock.proofs.LawProofs.{always_tagged, always_out, always_imports, always_slab}
use Rattle.local_parts.specs.SharedSteps.{DoesCarve, DoesFree, DoesImport, DoesPut, DoesAdd}
use Rattle.arena_tree.specs.Tags.{wording_of}
use Rattle.local_calls.specs.Asked.{IsForSlab, IsForChild, AsksWell, AddsWell, SlabsWell, DoesWell}

-- what stands among equal members
one_of_same : (n i y z : ℕ) → slice_get (replicate n y) i ≡ Some z → z ≡ y
one_of_same n i y z at =
    let within : i < n = omega (arith, slice_get_within (replicate n y) i z at, length-replicate n y) in
    sym (get_or_from_slice_get (replicate n y) i z z at) ∙ get_or-replicate n i y z within

module _ (arenas : List TreeArena) (old new : List SpaceState) (plans : plans_of old ≡ plans_for arenas) where
  -- an arena of the stock is the tree's of that number
  pub planned : (k : ℕ) (s : SpaceState) → slice_get old k ≡ Some s → (x : TreeArena) × (slice_get arenas k ≡ Some x) × (plan_of s ≡ plan_for x)
  planned k s at = mapped plan_for arenas k (plan_of s) (sym (ap (λ ps. slice_get ps k) plans) ∙ slice_get_mapped plan_of old k s at)

  pub planned_back : (k : ℕ) (x : TreeArena) → slice_get arenas k ≡ Some x → (s : SpaceState) × (slice_get old k ≡ Some s) × (plan_for x ≡ plan_of s)
  planned_back k x at = mapped plan_of old k (plan_for x) (ap (λ ps. slice_get ps k) plans ∙ slice_get_mapped plan_for arenas k x at)

  -- carves
  pub carve_well : (k : ℕ) (q : Request) (a : Result Tag (PartFault ArenaFault)) → DoesCarve old k q a new → AsksWell a
  carve_well k q a does = subst AsksWell (sym does.1) (words does.0)
    where
      words : (r : Result Tag ArenaFault) → AsksWell (wording_of asking.Refused r)
      words (Ok t) = tt
      words (Err f) = tt

  module _ (t : Tag) (rest : List Tag) (accounted : IsAccounted old (t ∷ rest)) where
    -- what is out can be freed
    pub free_well : (a : Result (Option Tag) (GivenFault Tag Tag)) → t.route ≡ Direct → DoesFree old t a new → DoesWell a
    free_well a direct does = subst DoesWell (sym does.1) (words does.0 does.2)
      where
        words : (r : Result (Option Tag) Tag) → FreeIn old t r new → DoesWell (wording_of {F = GivenFault Tag Tag} giving.Refused r)
        words (Ok o) is = tt
        words (Err same) is =
            let tagged = always_tagged old t rest accounted direct in
            elim is [
              | inl on ↦ on.does.0 (subst (λ (s : SpaceState). IsTagged s.arena t) (slice_get_one old t.arena tagged.space on.space tagged.at on.at) tagged.tagged)
              | inr out ↦ let within = slice_get_within old t.arena tagged.space tagged.at in omega (arith, within, out.0)
            ]

    -- the cache that a chunk names is the one that it is out of
    out_here : (k j : ℕ) → t.route ≡ Cached k → t.route ≡ Cached (j + 1) → (s : SpaceState) (c : QuantumCacheState) → slice_get old t.arena ≡ Some s → slice_get s.caches j ≡ Some c → Contains (chunks_out c.slab) t
    out_here k j cached named s c at among =
        let out = always_out old t k rest accounted cached in
        let same : Cached (j + 1) ≡ Cached (out.0 + 1) = sym named ∙ out.2.route in
        let number : j + 1 ≡ out.0 + 1 = cc in
        let here : j ≡ out.0 = omega (arith, number) in
        let space : out.2.at.space ≡ s = slice_get_one old t.arena out.2.at.space s out.2.at.at at in
        let there : slice_get s.caches j ≡ Some out.2.cache = ap (slice_get s.caches) here ∙ ap (λ (x : SpaceState). slice_get x.caches out.0) (sym space) ∙ out.2.at.among in
        subst (λ (x : QuantumCacheState). Contains (chunks_out x.slab) t) (slice_get_one s.caches j out.2.cache c there among) out.2.mine

    none_out : (k : ℕ) → t.route ≡ Cached k → ¬ NamesNoCache old t
    none_out k cached none = let out = always_out old t k rest accounted cached in none out.0 out.2.cache out.2.route out.2.at

    -- a chunk can be put back
    pub put_well : (a : Result (Unit {0}) (GivenFault (PutFault Tag) Tag)) (k : ℕ) → t.route ≡ Cached k → DoesPut old t a new → DoesWell a
    put_well a k cached does = subst DoesWell (sym does.1) (words does.0 does.2)
      where
        words : (r : Result (Unit {0}) (PutFault Tag)) → PutIn old t r new → DoesWell (wording_of {F = GivenFault (PutFault Tag) Tag} giving.Refused r)
        words (Ok o) is = tt
        words (Err (put_fault.NotMine back)) is = elim is [
          | inl on ↦ on.2.does.0 (out_here k on.0 cached on.1 on.2.space on.2.cache on.2.at on.2.among)
          | inr none ↦ none_out k cached none.0
        ]
        words (Err (put_fault.AtHome back)) is = elim is [
          | inl on ↦
              let cache : IsQuantumCache t.arena (on.0 + 1) on.2.space.arena.quantum on.2.cache = (accounted.stock t.arena on.2.space on.2.at).caches on.0 on.2.cache on.2.among in
              never_both_ways on.2.cache.slab t cache.sound (out_here k on.0 cached on.1 on.2.space on.2.cache on.2.at on.2.among) on.2.does.0
          | inr none ↦ none_out k cached none.0
        ]

    -- a span can be imported
    pub import_well : (child n : ℕ) (a : Result Tag (GivenFault (SpanFault Tag) Tag)) → IsForChild arenas child t → DoesImport old child t n a new → AddsWell a
    import_well child n a for does = subst AddsWell (sym does.1) (words does.0 does.2)
      where
        source : (s : SpaceState) → slice_get old child ≡ Some s → s.source ≡ Some t.arena
        source s at =
            let x = planned child s at in
            let tree : source_of (nodes_of arenas) child ≡ x.0.source = (arena_read arenas child x.0 x.1).1 in
            ap (λ (p : SpacePlan). p.source) x.2 ∙ (sym tree ∙ for.source)

        words : (r : Result Tag (SpanFault Tag)) → OnArena child (λ x y. ImportOf x t (plain_of n) r y) old new → AddsWell (wording_of giving.Refused r)
        words (Ok o) on = tt
        words (Err (span_fault.NoMemory same)) on = tt
        words (Err (span_fault.Overlaps same)) on =
            let can = always_imports old t rest accounted for.direct child on.space on.at (source on.space on.at) in
            let some = on.does.0.0 in
            can.0 some.0 some.1 some.2 (subst (λ (h : Holding). Overlap h.range t.holding.range) (sym some.3) some.4)
        words (Err (span_fault.NotAligned same)) on = on.does.0.1 (always_imports old t rest accounted for.direct child on.space on.at (source on.space on.at)).1

    -- a span becomes a slab
    pub slab_well : (k c : ℕ) (a : Result Tag (GivenFault (AddFault Tag) Tag)) → IsForSlab arenas k c t → DoesAdd old k c t a new → SlabsWell a
    slab_well k c a for does = elim does [
      | inl d ↦ subst SlabsWell (sym d.2.1) (words d.0 d.2.0 d.2.2)
      | inr none ↦ absurd (none.0 (c - 1) (omega (arith, for.slab.some)) here)
    ]
      where
        words : (j : ℕ) (r : Result Tag (AddFault Tag)) → OnSlab k j (λ x y. AddOf x t r y) old new → SlabsWell (wording_of giving.Refused r)
        words j (Ok o) on = tt
        words j (Err (add_fault.NoMemory same)) on = tt
        words j (Err (add_fault.Overlaps same)) on =
            always_slab old t rest accounted for.direct j on.cache (record { space = on.space; at = ap (slice_get old) for.of_arena ∙ on.at; among = on.among }) on.does.1
        words j (Err (add_fault.WrongSize same)) on =
            let x = planned k on.space on.at in
            let level : for.slab.level ≡ x.0 = slice_get_one arenas k for.slab.level x.0 for.slab.at x.1 in
            let sizes : slice_get (replicate (x.0.qcache_max / x.0.quantum) x.0.slab_size) j ≡ Some (slab_size_of on.cache) = sym (ap (λ (p : SpacePlan). slice_get p.slab_sizes j) x.2) ∙ slice_get_mapped slab_size_of on.space.caches j on.cache on.among in
            let size : slab_size_of on.cache ≡ x.0.slab_size = one_of_same (x.0.qcache_max / x.0.quantum) j x.0.slab_size (slab_size_of on.cache) sizes in
            on.does.0 (for.slab.long ∙ (ap (λ (y : TreeArena). y.slab_size) level ∙ sym size))

        here : HasCache old k (c - 1)
        here =
            let s = planned_back k for.slab.level for.slab.at in
            let count : for.slab.level.qcache_max / for.slab.level.quantum ≡ length s.0.caches = sym (length-replicate (for.slab.level.qcache_max / for.slab.level.quantum) for.slab.level.slab_size) ∙ (ap (λ (p : SpacePlan). length p.slab_sizes) s.2 ∙ length-map s.0.caches slab_size_of) in
            let cache = slice_get_some s.0.caches (c - 1) (omega (arith, for.slab.some, for.slab.most, count)) in
            (cache.0, record { space = s.0; at = s.1; among = cache.1 })
