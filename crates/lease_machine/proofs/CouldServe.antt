-- What served a request could.
use Rattle.std.proofs.Common.{◌≡◌, ◌≢◌, ℕ, ◌≤◌, subst, ap, ◌∙◌, inl, inr, List, [], Some, arith}
use Rattle.std.specs.Prelude.{slice_get}
use Rattle.std.proofs.lemmas.Bool.{cases_eq}
use Rattle.deed_core.specs.Tag.{Tag}
use Rattle.deed_core.specs.declared.requests.Request.{Request}
use Rattle.deed_core.proofs.LawProofs.{power_some, rounds_up, slice_get_one}
use Rattle.slab_layer.specs.Cache.{idle_chunks}
use Rattle.slab_layer.specs.Calls.{StandsAt}
use Rattle.arena_tree.specs.declared.trees.TreeArena.{TreeArena}
use Rattle.quantum_cache.specs.Caches.{chain_in}
use Rattle.stock.specs.OwnCaches.{OwnCacheState, own_rounds}
use Rattle.stock.specs.Spaces.{SpaceState, QuantumCacheState, IsCacheAt}
use Rattle.stock.specs.Stocks.{IsStock}
use Rattle.local_calls.specs.NoFits.{CanTake}
use Rattle.local_parts.specs.Cpus.{IsOwnAt}
use Rattle.lease_machine.specs.Picture.{Picture, IsPicture}
use Rattle.lease_machine.specs.Chunks.{selected_caches, WasRound, WasIdle}
use Rattle.lease_machine.specs.Serving.{CacheFor, CachesServe, CanServe, IsCachedIn}
use Rattle.lease_machine.specs.RoomLaws.{WhatServesCan}
use Rattle.lease_machine.proofs.ClimbSteps.{carves_has, climbs_has}
use Rattle.lease_machine.proofs.Fewer.{fewer_fit}
use Rattle.lease_machine.proofs.Reached.{among_some, full_some, pops_among, some_idle}
use Rattle.lease_machine.proofs.Shapes.{round_taken}

module _ (d new : Picture) (is : IsPicture d) (index : ℕ) (x : TreeArena) (here : slice_get d.tree index ≡ Some x) (q : Request) (t : Tag) where
  law : IsStock d.spaces
  law = is.held.units.parts

  -- a slab has room for what caches serve
  small : IsCachedIn x q → q.size ≤ x.slab_size
  small cached =
      let own = is.held.tree.each index x here in
      let up = (rounds_up x.quantum q.size (power_some x.quantum own.power)).1 in
      elim (cases_eq x.qcache_max 0) [
        | inl none ↦ omega (arith, none, cached.1, up)
        | inr some ↦ (let next = (own.caches.2.1 some).1 in omega (arith, next, cached.1, up))
      ]

  -- one cache stands at the indexes, of the stock's and of the CPU's
  cache_is : (j : ℕ) (c y : QuantumCacheState) → IsCacheAt d.spaces index j c → IsCacheAt d.spaces index j y → y ≡ c
  cache_is j c y a b =
      let same : a.space ≡ b.space = slice_get_one d.spaces index a.space b.space a.at b.at in
      slice_get_one a.space.caches j y c (ap (λ (z : SpaceState). slice_get z.caches j) same ∙ b.among) a.among

  own_is : (j : ℕ) (o p : OwnCacheState) (row : List OwnCacheState) → IsOwnAt (selected_caches d) index j o → slice_get (selected_caches d) index ≡ Some row → slice_get row j ≡ Some p → p ≡ o
  own_is j o p row a at among =
      let same : a.row ≡ row = slice_get_one (selected_caches d) index a.row row a.at at in
      slice_get_one a.row j p o (ap (λ (r : List OwnCacheState). slice_get r j) same ∙ among) a.among

  round_could : (c : QuantumCacheState) (o : OwnCacheState) (f : CacheFor d index x q c o) → WasRound index f.cache c t d new → CanTake c o
  round_could c o f round =
      let on = round.1.own in
      let can : CanTake c on.own =
      (elim (round_taken t on.own.cpu on.changed.cpu c.depot round.0 on.does.1) [
        | inl pops ↦ inl (among_some t (own_rounds on.own) (pops_among t on.own.cpu on.changed.cpu pops))
        | inr swapped ↦ inr (inl (swapped.1.1.sized, full_some t on.own.cpu swapped.1.0 on.changed.cpu c.depot round.0 swapped.0 swapped.1.1 swapped.1.2))
      ]) in
      subst (λ (p : OwnCacheState). CanTake c p) (own_is f.cache o on.own on.row f.own on.at on.among) can

  idle_could : (c : QuantumCacheState) (o : OwnCacheState) (f : CacheFor d index x q c o) → WasIdle index f.cache c t d new → CanTake c o
  idle_could c o f idle =
      let on = idle.1 in
      let same : on.cache ≡ c = cache_is f.cache c on.cache f.shared (record { space = on.space; at = on.at; among = on.among }) in
      let takes = on.does.3 in
      let at : StandsAt on.does.0 on.does.2 on.cache.slab.slabs = (elim takes.next [ inl low ↦ low.stands | inr low ↦ low.1.stands ]) in
      inr (inr (subst (λ (y : QuantumCacheState). idle_chunks y.slab ≢ []) same (some_idle on.cache.slab on.does.0 on.does.1 on.does.2 at takes.lowest)))

  caches_could : IsCachedIn x q → CachesServe index x q t d new → CanServe d index x q
  caches_could cached (c, o, f, stage) = elim stage [
    | inl round ↦ inl (cached, (c, o, f, round_could c o f round))
    | inr (inl idle) ↦ inl (cached, (c, o, f, idle_could c o f idle))
    | inr (inr lacks) ↦ elim lacks.1 [
      | inl cut ↦ inr (inl (cached.0, fewer_fit d.tree d.spaces index q.size x.slab_size is.held.tree law (small cached) (climbs_has (chain_in d.tree index) x.slab_size cut.0 d.spaces cut.1 law cut.2)))
      | inr climbed ↦ inr (inl (cached.0, climbs_has (chain_in d.tree index) q.size t d.spaces new.spaces law climbed.1))
    ]
  ]

pub what_serves_can : WhatServesCan
what_serves_can old new index x q t is here s = elim s.from [
  | inl carved ↦ inr (inr (carved.0, carves_has old.spaces new.spaces index q t is.held.units.parts carved.1))
  | inr (inl climbed) ↦ inr (inl (climbed.0, climbs_has (chain_in old.tree index) q.size t old.spaces new.spaces is.held.units.parts climbed.2))
  | inr (inr cached) ↦ caches_could old new is index x here q t cached.0 cached.1
]
