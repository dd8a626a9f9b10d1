-- What an arena's caches serve was in reach.
use Rattle.std.proofs.Common.{◌≡◌, ℕ, ◌+◌, ◌-◌, ◌*◌, ◌/◌, ◌<◌, ◌≤◌, sym, subst, ap, ◌∙◌, inl, inr, List, [], ◌∷◌, find, Some, None, Ok, arith}
use Rattle.std.specs.Prelude.{slice_get}
use Rattle.std.proofs.Math.Nat.{div-mul-le_self, le-div_iff_mul-le, mul-le-mul_right}
use Rattle.deed_core.specs.Extent.{Covers}
use Rattle.deed_core.specs.Tag.{Tag}
use Rattle.deed_core.specs.declared.requests.Request.{Request}
use Rattle.deed_core.proofs.LawProofs.{slice_get_one}
use Rattle.slab_layer.specs.Cache.{SlabCacheState, chunk_of}
use Rattle.slab_layer.specs.Calls.{AddOf, StandsAt}
use Rattle.magazine_layer.specs.Depots.{all_rounds}
use Rattle.arena_tree.specs.declared.levels.Level.{Level}
use Rattle.arena_tree.specs.declared.trees.TreeArena.{TreeArena}
use Rattle.arena_tree.specs.Chains.{amount_of}
use Rattle.quantum_cache.specs.Caches.{chain_in}
use Rattle.stock.specs.OwnCaches.{OwnCacheState, own_rounds}
use Rattle.stock.specs.Spaces.{SpaceState, QuantumCacheState, IsCacheAt}
use Rattle.stock.specs.Steps.{OnSlab}
use Rattle.stock.specs.Stocks.{IsStock}
use Rattle.lease_machine.specs.Picture.{NumberedCpu, Picture, is_cpu, IsHeld}
use Rattle.lease_machine.specs.Moves.{Climbs}
use Rattle.lease_machine.specs.Chunks.{selected_caches}
use Rattle.lease_machine.specs.Serving.{CachesServe}
use Rattle.lease_machine.specs.AnswerLaws.{GrantsWereReachable, WasReachable}
use Rattle.lease_machine.proofs.Focus.{Focus}
use Rattle.lease_machine.proofs.FreeLaws.{focus_at, selected_is}
use Rattle.lease_machine.proofs.HeldLaws.{of_stock, there_is}
use Rattle.lease_machine.proofs.ReapOrder.{CachesStood, on_arena_keeps}
use Rattle.lease_machine.proofs.Reached.{IsAmong, depot_reached, full_among, idle_reached, own_reached, pops_among}
use Rattle.lease_machine.proofs.Reaching.{carve_reaches, climbs_reach}
use Rattle.lease_machine.proofs.Shapes.{round_taken}
use Rattle.lease_proto.specs.Requests.{demand_of}

-- what is climbed for leaves the caches
climbs_stood : (chain : List Level) (n : ℕ) (t : Tag) (old new : List SpaceState) → Climbs chain n t old new → CachesStood old new
climbs_stood [] n t old new climbs = absurd climbs
climbs_stood (l ∷ up) n t old new climbs = elim climbs [
  | inl carves ↦ (on_arena_keeps l.id _ old new carves).stood
  | inr imports ↦ λ i j x at. climbs_stood up (amount_of l up n) imports.1.0 old imports.1.1 imports.1.2 i j x ((on_arena_keeps l.id _ imports.1.1 new imports.1.3).stood i j x at)
]

-- a chunk behind the colour fits in the slab
chunk_within : (slab chunk colour : ℕ) → 0 < chunk → chunk ≤ slab → colour ≤ slab - slab / chunk * chunk → colour + chunk ≤ slab
chunk_within slab chunk colour some room fits =
    let one : 1 ≤ slab / chunk = (le-div_iff_mul-le {k = chunk} {x = 1} {y = slab} some).1 (omega (arith, room)) in
    let more : 1 * chunk ≤ slab / chunk * chunk = mul-le-mul_right chunk one in
    let less : slab / chunk * chunk ≤ slab = div-mul-le_self slab chunk in
    omega (arith, more, less, fits)

module _ (d new : Picture) (index : ℕ) (x : TreeArena) (q : Request) (t : Tag) (held : IsHeld [] d) (home : t.arena ≡ index) (serves : CachesServe index x q t d new) (c : NumberedCpu) (found : find (is_cpu d.selected) d.cpus ≡ Some c)
    (g : Focus (record { spaces = d.spaces; cpu = c.caches }) index serves.2.cache) where
  law : IsStock d.spaces
  law = held.units.parts

  abbrev j : ℕ
  j = serves.2.cache

  here_is : (y : QuantumCacheState) → IsCacheAt d.spaces index j y → y ≡ g.cache
  here_is y there = slice_get_one g.space.caches j y g.cache (ap (λ (z : SpaceState). slice_get z.caches j) (slice_get_one d.spaces index g.space there.space g.at there.at) ∙ there.among) g.among

  own_is : (row : List OwnCacheState) (o : OwnCacheState) → slice_get (selected_caches d) index ≡ Some row → slice_get row j ≡ Some o → o ≡ g.own
  own_is row o at among =
      let same : row ≡ g.row = slice_get_one c.caches index row g.row (ap (λ rows. slice_get rows index) (sym (selected_is d c found)) ∙ at) g.row_at in
      slice_get_one g.row j o g.own (ap (λ r. slice_get r j) (sym same) ∙ among) g.own_at

  cache_is : serves.0 ≡ g.cache
  cache_is = here_is serves.0 serves.2.shared

  -- a unit of the first chunk is one of the span
  cut_inside : (mid : List SpaceState) (span : Tag) (u : ℕ) (n : ℕ) → Climbs (chain_in d.tree index) n span d.spaces mid → OnSlab index j (λ a b. AddOf a span (Ok t) b) mid new.spaces → Covers t.holding.range u → Covers span.holding.range u
  cut_inside mid span u n climbs cut over =
      let slab : SlabCacheState = cut.cache.slab in
      let there : IsCacheAt d.spaces index j cut.cache = climbs_stood (chain_in d.tree index) n span d.spaces mid climbs index j cut.cache (record { space = cut.space; at = cut.at; among = cut.among }) in
      let sound = ((law index there.space there.at).caches j cut.cache there.among).sound in
      let adds = cut.does.1 in
      let base : t.holding.range.base ≡ span.holding.range.base + slab.colour + 0 * chunk_of slab = ap (λ (w : Tag). w.holding.range.base) adds.tag in
      let len : t.holding.range.len ≡ chunk_of slab = ap (λ (w : Tag). w.holding.range.len) adds.tag in
      let fits : slab.colour + chunk_of slab ≤ slab.slab_size = chunk_within slab.slab_size (chunk_of slab) slab.colour sound.some sound.room sound.colour in
      (omega (arith, base, over.0), omega (arith, base, len, fits, adds.size, over.1))

  caches_reach : WasReachable d index t
  caches_reach = elim serves.3 [
    | inl round ↦
        let on = round.1.own in
        let own : on.own ≡ g.own = own_is on.row on.own on.at on.among in
        elim (round_taken t on.own.cpu on.changed.cpu serves.0.depot round.0 on.does.1) [
          | inl pops ↦ own_reached d c found index j g law t home (subst (λ (o : OwnCacheState). IsAmong t (own_rounds o)) own (pops_among t on.own.cpu on.changed.cpu pops))
          | inr swapped ↦ depot_reached d c found index j g law t home (subst (λ (y : QuantumCacheState). IsAmong t (all_rounds y.depot.full)) cache_is (full_among t on.own.cpu swapped.1.0 on.changed.cpu serves.0.depot round.0 swapped.0 swapped.1.1 swapped.1.2))
        ]
    | inr (inl idle) ↦
        let on = idle.1 in
        let same : on.cache ≡ g.cache = here_is on.cache (record { space = on.space; at = on.at; among = on.among }) in
        let takes = on.does.3 in
        let at : StandsAt on.does.0 on.does.2 on.cache.slab.slabs = (elim takes.next [ inl low ↦ low.stands | inr low ↦ low.1.stands ]) in
        idle_reached d c found index j g law t home on.does.0 on.does.1 on.does.2 (subst (λ (y : QuantumCacheState). StandsAt on.does.0 on.does.2 y.slab.slabs) same at) takes.lowest (ap (λ (w : Tag). w.holding) takes.tag)
    | inr (inr lacks) ↦ elim lacks.1 [
      | inl cut ↦
          let reached = climbs_reach d held.tree held.plans law 4 index x.slab_size cut.0 cut.1 cut.2 in
          λ s at u over. inl (reached.free_for u (cut_inside cut.1 cut.0 u x.slab_size cut.2 cut.3 over))
      | inr climbed ↦
          let reached = climbs_reach d held.tree held.plans law 4 index q.size t new.spaces climbed.1 in
          λ s at u over. inl (reached.free_for u over)
    ]
  ]

pub grants_were_reachable : GrantsWereReachable
grants_were_reachable old new id l r is g s at u over = elim g.serves.from [
  | inl carved ↦ inl (carve_reaches old is.held.tree is.held.plans is.held.units.parts g.index (demand_of l) g.segment new.spaces carved.1 u over)
  | inr (inl climbed) ↦ inl ((climbs_reach old is.held.tree is.held.plans is.held.units.parts 4 g.index l.size g.segment new.spaces climbed.2).free_for u over)
  | inr (inr cached) ↦ (
      let c = there_is (find (is_cpu old.selected) old.cpus) is.held.cpus.there in
      let of = of_stock old old.selected c.0 c.1 None is.held [] in
      let focus = focus_at (record { spaces = old.spaces; cpu = c.0.caches }) g.index cached.1.2.cache cached.1.0 of cached.1.2.shared in
      caches_reach old new g.index g.arena (demand_of l) g.segment is.held g.serves.arena cached.1 c.0 c.1 focus s at u over
      )
]
