-- What no reaping changes.
use Rattle.std.proofs.Common.{◌≡◌, ℕ, refl, ap, ◌∙◌, inl, inr, List, set, Option, Some, None, Result, Ok, Err}
use Rattle.std.specs.Prelude.{slice_get}
use Rattle.deed_core.specs.Holding.{Holding}
use Rattle.deed_core.specs.Tag.{Tag}
use Rattle.deed_core.proofs.LawProofs.{map_set_same}
use Rattle.tag_arena.specs.ArenaState.{ArenaState}
use Rattle.tag_arena.specs.Calls.{LeavesFree}
use Rattle.tag_arena.specs.Outcomes.{FreeOf}
use Rattle.slab_layer.specs.Cache.{SlabCacheState}
use Rattle.slab_layer.specs.Calls.{PutOf}
use Rattle.slab_layer.specs.declared.faults.PutFault.{PutFault}
use Rattle.magazine_layer.specs.Depots.{DepotState, after_tick, after_trim, Begins}
use Rattle.magazine_layer.specs.Calls.{DepotReapOf}
use Rattle.stock.specs.Spaces.{SpaceState, QuantumCacheState, with_arena, with_cache, with_slab, with_depot}
use Rattle.stock.specs.Steps.{OnSlab, OnDepot, FreeIn, PutIn}
use Rattle.stock.specs.Endings.{depot_size_of, lasting_of, lastings_of}

-- an arena was written
lasts_there : (old new : List SpaceState) (k : ℕ) (s x : SpaceState) → slice_get old k ≡ Some s → new ≡ set old k x → lasting_of x ≡ lasting_of s → lastings_of new ≡ lastings_of old
lasts_there old new k s x at after same = ap lastings_of after ∙ map_set_same lasting_of old k s x at same

-- a cache of it was
cache_lasts : (s : SpaceState) (j : ℕ) (c z : QuantumCacheState) → slice_get s.caches j ≡ Some c → depot_size_of z ≡ depot_size_of c → lasting_of (with_cache j z s) ≡ lasting_of s
cache_lasts s j c z among same = ap (λ (ns : List ℕ). record { owned = s.arena.owned; sizes = ns }) (map_set_same depot_size_of s.caches j c z among same)

module _ (old new : List SpaceState) where
  pub lasts_on_slab : (k j : ℕ) (P : SlabCacheState → SlabCacheState → Type 0) → OnSlab k j P old new → lastings_of new ≡ lastings_of old
  lasts_on_slab k j P on = lasts_there old new k on.space (with_cache j (with_slab on.slab on.cache) on.space) on.at on.after (cache_lasts on.space j on.cache (with_slab on.slab on.cache) on.among refl)

  lasts_on_depot : (k j : ℕ) (P : DepotState → DepotState → Type 0) (on : OnDepot k j P old new) → on.depot.size ≡ on.cache.depot.size → lastings_of new ≡ lastings_of old
  lasts_on_depot k j P on same = lasts_there old new k on.space (with_cache j (with_depot on.depot on.cache) on.space) on.at on.after (cache_lasts on.space j on.cache (with_depot on.depot on.cache) on.among same)

  pub lasts_on_tick : (k j : ℕ) → OnDepot k j (λ a b. b ≡ after_tick a) old new → lastings_of new ≡ lastings_of old
  lasts_on_tick k j on = lasts_on_depot k j (λ a b. b ≡ after_tick a) on (ap (λ (d : DepotState). d.size) on.does)

  begins_same : (d b : DepotState) → Begins d b → b.size ≡ d.size
  begins_same d b begins = elim begins [
    | inl same ↦ ap (λ (x : DepotState). x.size) same.1
    | inr other ↦ elim other [ inl first ↦ ap (λ (x : DepotState). x.size) first.rest | inr full ↦ ap (λ (x : DepotState). x.size) full.rest ]
  ]

  reap_same : (d b : DepotState) (r : Option Tag) → DepotReapOf d r b → b.size ≡ d.size
  reap_same d b None of = ap (λ (x : DepotState). x.size) of.1
  reap_same d b (Some t) of = ap (λ (x : DepotState). x.size) of.2.rest ∙ begins_same (after_trim d) of.0 of.1

  pub lasts_on_reap : (k j : ℕ) (r : Option Tag) → OnDepot k j (λ a b. DepotReapOf a r b) old new → lastings_of new ≡ lastings_of old
  lasts_on_reap k j r on = lasts_on_depot k j (λ a b. DepotReapOf a r b) on (reap_same on.cache.depot on.depot r on.does)

  leaves_same : (a b : ArenaState) (piece merged : Holding) (back : Option Tag) → LeavesFree a piece merged back b → b.owned ≡ a.owned
  leaves_same a b piece merged None leaves = ap (λ (x : ArenaState). x.owned) leaves.1
  leaves_same a b piece merged (Some t) leaves = ap (λ (x : ArenaState). x.owned) leaves.2

  free_same : (a b : ArenaState) (t : Tag) (r : Result (Option Tag) Tag) → FreeOf a t r b → b.owned ≡ a.owned
  free_same a b t (Ok back) of = leaves_same a b t.holding of.frees.merged back of.frees.after
  free_same a b t (Err same) of = ap (λ (x : ArenaState). x.owned) of.2

  pub lasts_on_free : (t : Tag) (r : Result (Option Tag) Tag) → FreeIn old t r new → lastings_of new ≡ lastings_of old
  lasts_on_free t r freed = elim freed [
    | inl on ↦ lasts_there old new t.arena on.space (with_arena on.arena on.space) on.at on.after (ap (λ (os : List Holding). record { owned = os; sizes = (lasting_of on.space).sizes }) (free_same on.space.arena on.arena t r on.does))
    | inr none ↦ ap lastings_of none.2
  ]

  pub lasts_on_put : (t : Tag) (r : Result (Unit {0}) (PutFault Tag)) → PutIn old t r new → lastings_of new ≡ lastings_of old
  lasts_on_put t r put = elim put [ inl on ↦ lasts_on_slab t.arena on.0 (λ a b. PutOf a t r b) on.2 | inr none ↦ ap lastings_of none.2 ]
