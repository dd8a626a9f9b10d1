-- What no event changes: the spans that arenas own, and the sizes of depots.
use Rattle.arena_tree.specs.Events.{AddCarve, AnswerTo, Carve, Change, DepotReap, Event, Free, Pop, Push, SlabAdd, SlabPut, SlabReap, SlabTake, SwapEmpty, SwapFresh, SwapFull}
use Rattle.arena_tree.specs.Plans.{Plan}
use Rattle.arena_tree.specs.Trees.{nodes_of}
use Rattle.arena_tree.specs.declared.trees.TreeArena.{TreeArena}
use Rattle.deed_core.proofs.LawProofs.{map_set_same, mapped, slice_get_mapped}
use Rattle.deed_core.specs.Holding.{Holding}
use Rattle.deed_core.specs.Request.{plain_of}
use Rattle.deed_core.specs.Tag.{Tag}
use Rattle.deed_core.specs.declared.requests.Request.{Request}
use Rattle.lease_machine.specs.Picture.{owned_spans}
use Rattle.local_calls.specs.Runs.{RunsTo, SoundStep}
use Rattle.local_parts.proofs.LawProofs.{path_keeps_same}
use Rattle.local_parts.specs.OwnSteps.{OnExchange, SwapsEmpty, SwapsFresh, SwapsFull}
use Rattle.local_parts.specs.SharedSteps.{OfCache}
use Rattle.local_parts.specs.States.{IsUnchanged, LocalState}
use Rattle.local_parts.specs.Steps.{Does}
use Rattle.magazine_layer.specs.Calls.{DepotReapOf, PutFullOf, SwapEmptyOf, SwapFullOf}
use Rattle.magazine_layer.specs.Depots.{Begins, DepotState, after_trim}
use Rattle.magazine_layer.specs.Magazines.{CpuCacheState, MagazineState, empty_magazine}
use Rattle.magazine_layer.specs.declared.faults.EmptyFault.{EmptyFault}
use Rattle.magazine_layer.specs.declared.faults.FullFault.{FullFault}
use Rattle.magazine_layer.specs.declared.faults.PutFullFault.{PutFullFault}
use Rattle.slab_layer.specs.Cache.{SlabCacheState}
use Rattle.slab_layer.specs.declared.faults.PutFault.{PutFault}
use Rattle.std.proofs.Common.{Err, List, None, Ok, Option, Result, Some, [], ap, inl, inr, map, refl, set, slice_get, sym, ℕ, ◌∙◌, ◌∷◌, ◌≡◌}
use Rattle.stock.specs.Spaces.{IsCacheAt, QuantumCacheState, SpaceState, with_arena, with_cache, with_depot, with_slab}
use Rattle.stock.specs.Steps.{FreeIn, OnArena, OnDepot, OnSlab, PutIn}
use Rattle.tag_arena.specs.ArenaState.{ArenaState}
use Rattle.tag_arena.specs.Calls.{LeavesFree}
use Rattle.tag_arena.specs.Outcomes.{CarveOf, FreeOf, ImportOf}
use Rattle.tag_arena.specs.declared.faults.ArenaFault.{ArenaFault}
use Rattle.tag_arena.specs.declared.faults.SpanFault.{SpanFault}
use Rattle.magazine_layer.specs.declared.faults.EmptyFault.TheVariants as empty_fault
use Rattle.magazine_layer.specs.declared.faults.PutFullFault.TheVariants as fresh_fault
use Rattle.magazine_layer.specs.declared.faults.FullFault.TheVariants as full_fault

pub record Lasts : Type 0 where
  pub owned : List Holding
  pub sizes : List ℕ

abbrev pub size_in : QuantumCacheState → ℕ
size_in c = c.depot.size

abbrev pub lasts : SpaceState → Lasts
lasts s = record { owned = s.arena.owned; sizes = map size_in s.caches }

abbrev pub all_last : List SpaceState → List Lasts
all_last spaces = map lasts spaces

arena_lasts : (k : ℕ) (P : ArenaState → ArenaState → Type 0) (old new : List SpaceState) → ((a b : ArenaState) → P a b → b.owned ≡ a.owned) → OnArena k P old new → all_last new ≡ all_last old
arena_lasts k P old new same on =
    let owned : on.arena.owned ≡ on.space.arena.owned = same on.space.arena on.arena on.does in
    ap all_last on.after ∙ map_set_same lasts old k on.space (with_arena on.arena on.space) on.at (λ i. record { owned = owned i; sizes = map size_in on.space.caches })

cache_lasts : (k j : ℕ) (old : List SpaceState) (s : SpaceState) (c d : QuantumCacheState) → slice_get old k ≡ Some s → slice_get s.caches j ≡ Some c → size_in d ≡ size_in c → all_last (set old k (with_cache j d s)) ≡ all_last old
cache_lasts k j old s c d at among same =
    let sizes : map size_in (set s.caches j d) ≡ map size_in s.caches = map_set_same size_in s.caches j c d among same in
    map_set_same lasts old k s (with_cache j d s) at (λ i. record { owned = s.arena.owned; sizes = sizes i })

slab_lasts : (k j : ℕ) (P : SlabCacheState → SlabCacheState → Type 0) (old new : List SpaceState) → OnSlab k j P old new → all_last new ≡ all_last old
slab_lasts k j P old new on = ap all_last on.after ∙ cache_lasts k j old on.space on.cache (with_slab on.slab on.cache) on.at on.among refl

depot_lasts : (k j : ℕ) (P : DepotState → DepotState → Type 0) (old new : List SpaceState) → ((a b : DepotState) → P a b → b.size ≡ a.size) → OnDepot k j P old new → all_last new ≡ all_last old
depot_lasts k j P old new same on = ap all_last on.after ∙ cache_lasts k j old on.space on.cache (with_depot on.depot on.cache) on.at on.among (same on.cache.depot on.depot on.does)

-- arenas
carve_owned : (q : Request) (r : Result Tag ArenaFault) (a b : ArenaState) → CarveOf a q r b → b.owned ≡ a.owned
carve_owned q (Ok t) a b is = ap (λ (x : ArenaState). x.owned) is.carves.after
carve_owned q (Err f) a b is = ap (λ (x : ArenaState). x.owned) is.1

leaves_owned : (a b : ArenaState) (piece merged : Holding) (back : Option Tag) → LeavesFree a piece merged back b → b.owned ≡ a.owned
leaves_owned a b piece merged None is = ap (λ (x : ArenaState). x.owned) is.1
leaves_owned a b piece merged (Some t) is = ap (λ (x : ArenaState). x.owned) is.2

free_owned : (t : Tag) (r : Result (Option Tag) Tag) (a b : ArenaState) → FreeOf a t r b → b.owned ≡ a.owned
free_owned t (Ok back) a b is = leaves_owned a b t.holding is.frees.merged back is.frees.after
free_owned t (Err same) a b is = ap (λ (x : ArenaState). x.owned) is.2

import_owned : (span : Tag) (q : Request) (r : Result Tag (SpanFault Tag)) (a b : ArenaState) → ImportOf a span q r b → b.owned ≡ a.owned
import_owned span q (Ok t) a b is = ap (λ (x : ArenaState). x.owned) is.after
import_owned span q (Err f) a b is = ap (λ (x : ArenaState). x.owned) is.1

-- depots
begins_size : (d e : DepotState) → Begins d e → e.size ≡ d.size
begins_size d e is = elim is [
  | inl same ↦ ap (λ (x : DepotState). x.size) same.1
  | inr more ↦ elim more [
    | inl old ↦ ap (λ (x : DepotState). x.size) old.rest
    | inr full ↦ ap (λ (x : DepotState). x.size) full.rest
  ]
]

reap_size : (r : Option Tag) (d e : DepotState) → DepotReapOf d r e → e.size ≡ d.size
reap_size (Some x) d e is = ap (λ (z : DepotState). z.size) is.2.rest ∙ begins_size (after_trim d) is.0 is.1
reap_size None d e is = ap (λ (z : DepotState). z.size) is.1

full_size : (c x : CpuCacheState) (r : Result (Unit {0}) FullFault) (d e : DepotState) → SwapFullOf c d r x e → e.size ≡ d.size
full_size c x (Ok u) d e is = ap (λ (z : DepotState). z.size) is.depot
full_size c x (Err (full_fault.OldSize m)) d e is = ap (λ (z : DepotState). z.size) is.3
full_size c x (Err full_fault.NoneFull) d e is = ap (λ (z : DepotState). z.size) is.3

empty_size : (c x : CpuCacheState) (r : Result (Unit {0}) EmptyFault) (d e : DepotState) → SwapEmptyOf c d r x e → e.size ≡ d.size
empty_size c x (Ok u) d e is = ap (λ (z : DepotState). z.size) is.depot
empty_size c x (Err (empty_fault.OldSize m)) d e is = ap (λ (z : DepotState). z.size) is.3
empty_size c x (Err empty_fault.NoneEmpty) d e is = ap (λ (z : DepotState). z.size) is.3

fresh_size : (m : MagazineState) (c x : CpuCacheState) (r : Result (Unit {0}) (PutFullFault MagazineState)) (d e : DepotState) → PutFullOf c d m r x e → e.size ≡ d.size
fresh_size m c x (Ok u) d e is = ap (λ (z : DepotState). z.size) is.depot
fresh_size m c x (Err (fresh_fault.OldSize size back)) d e is = ap (λ (z : DepotState). z.size) is.4
fresh_size m c x (Err (fresh_fault.NoMemory back)) d e is = ap (λ (z : DepotState). z.size) is.4

module _ (old new : LocalState) (k c : ℕ) where
  abbrev Last : Type 0
  Last = all_last new.spaces ≡ all_last old.spaces

  exchange_lasts : (P : CpuCacheState → DepotState → CpuCacheState → DepotState → Type 0) → ((x y : CpuCacheState) (d e : DepotState) → P x d y e → e.size ≡ d.size) → OnExchange old k c P new → Last
  exchange_lasts P same on = depot_lasts k on.0 _ old.spaces new.spaces (λ d e is. same on.3.own.cpu on.3.changed.cpu d e is) on.3.does.1

  of_cache : (here : ℕ → Type 0) (none : Type 0) → ((j : ℕ) → here j → Last) → (none → Last) → OfCache old.spaces k c here none → Last
  of_cache here none some other of = elim of [
    | inl on ↦ some on.0 on.2
    | inr out ↦ other out.1
  ]

  unchanged_lasts : IsUnchanged old new → Last
  unchanged_lasts u = ap all_last u.spaces

free_lasts : (old new : List SpaceState) (t : Tag) (r : Result (Option Tag) Tag) → FreeIn old t r new → all_last new ≡ all_last old
free_lasts old new t r is = elim is [
  | inl on ↦ arena_lasts t.arena _ old new (λ a b of. free_owned t r a b of) on
  | inr out ↦ ap all_last out.2
]

put_lasts : (old new : List SpaceState) (t : Tag) (r : Result (Unit {0}) (PutFault Tag)) → PutIn old t r new → all_last new ≡ all_last old
put_lasts old new t r is = elim is [
  | inl on ↦ slab_lasts t.arena on.0 _ old new on.2
  | inr out ↦ ap all_last out.2
]

does_last : (old : LocalState) (e : Event) (a : AnswerTo e) (new : LocalState) → Does old e a new → all_last new.spaces ≡ all_last old.spaces
does_last old (Carve k q) a new does = arena_lasts k _ old.spaces new.spaces (λ x y of. carve_owned q does.0.0 x y of) does.0.2
does_last old (Free t) a new does = free_lasts old.spaces new.spaces t does.0.0 does.0.2
does_last old (AddCarve k t n) a new does = arena_lasts k _ old.spaces new.spaces (λ x y of. import_owned t (plain_of n) does.0.0 x y of) does.0.2
does_last old (SlabTake k c) a new does = of_cache old new k c _ _ (λ j on. slab_lasts k j _ old.spaces new.spaces on) (λ out. ap all_last out.1) does.0.2
does_last old (SlabPut t) a new does = put_lasts old.spaces new.spaces t does.0.0 does.0.2
does_last old (SlabAdd k c t) a new does = of_cache old new k c _ _ (λ j on. slab_lasts k j _ old.spaces new.spaces on.2) (λ out. ap all_last out.1) does.0
does_last old (SlabReap k c) a new does = of_cache old new k c _ _ (λ j on. slab_lasts k j _ old.spaces new.spaces on) (λ out. ap all_last out.1) does.0.2
does_last old (DepotReap k c) a new does = of_cache old new k c _ _ (λ j on. depot_lasts k j _ old.spaces new.spaces (λ d e of. reap_size does.0.0 d e of) on) (λ out. ap all_last out.1) does.0.2
does_last old (SwapFull k c) a new does = elim does [
  | inl on ↦ exchange_lasts old new k c (SwapsFull a) (λ x y d e is. full_size x y is.r d e is.did) on
  | inr none ↦ unchanged_lasts old new k c none.2
]
does_last old (SwapEmpty k c) a new does = elim does [
  | inl on ↦ exchange_lasts old new k c (SwapsEmpty a) (λ x y d e is. empty_size x y is.r d e is.did) on
  | inr none ↦ unchanged_lasts old new k c none.2
]
does_last old (SwapFresh k c) a new does = elim does [
  | inl on ↦ exchange_lasts old new k c (SwapsFresh a) (λ x y d e is. fresh_size (empty_magazine x.size) x y is.r d e is.did) on
  | inr out ↦ elim out [
    | inl memory ↦ unchanged_lasts old new k c memory.2
    | inr none ↦ unchanged_lasts old new k c none.2
  ]
]
does_last old (Pop k c) a new does = elim does.2 [
  | inl on ↦ ap all_last on.0
  | inr none ↦ unchanged_lasts old new k c none.2
]
does_last old (Push k c t) a new does = elim does [
  | inl on ↦ ap all_last on.2.0
  | inr none ↦ unchanged_lasts old new k c none.2
]
does_last old (Change k c size) a new does = elim does [
  | inl on ↦ ap all_last on.1.0
  | inr none ↦ elim none [
    | inl memory ↦ unchanged_lasts old new k c memory.2
    | inr small ↦ unchanged_lasts old new k c small.2
  ]
]

-- nor does a list of steps
pub run_lasts : {A : Type 0} (arenas : List TreeArena) (p : Plan A) (old new : LocalState) (a : A) → RunsTo arenas p old new a → all_last new.spaces ≡ all_last old.spaces
run_lasts {A} arenas p old new a path = path_keeps_same A LocalState (List Lasts) (λ s. all_last s.spaces) (SoundStep (nodes_of arenas)) (λ s t e x step. does_last s e x t step.step.does) p old new a path

owned_last : (spaces : List SpaceState) → map owned_spans spaces ≡ map (λ (l : Lasts). l.owned) (all_last spaces)
owned_last [] = refl
owned_last (s ∷ spaces) = ap (λ xs. owned_spans s ∷ xs) (owned_last spaces)

pub owned_stay : (old new : List SpaceState) → all_last new ≡ all_last old → map owned_spans new ≡ map owned_spans old
owned_stay old new same = owned_last new ∙ (ap (map (λ (l : Lasts). l.owned)) same ∙ sym (owned_last old))

-- a depot stood with the size that it has
pub size_stood : (old new : List SpaceState) → all_last new ≡ all_last old → (k j : ℕ) (c : QuantumCacheState) → IsCacheAt new k j c → (x : QuantumCacheState) × IsCacheAt old k j x × (x.depot.size ≡ c.depot.size)
size_stood old new same k j c at =
    let there : slice_get (all_last old) k ≡ Some (lasts at.space) = ap (λ ls. slice_get ls k) (sym same) ∙ slice_get_mapped lasts new k at.space at.at in
    let s = mapped lasts old k (lasts at.space) there in
    let sizes : map size_in at.space.caches ≡ map size_in s.0.caches = ap (λ (l : Lasts). l.sizes) s.2 in
    let size : slice_get (map size_in s.0.caches) j ≡ Some (size_in c) = ap (λ ns. slice_get ns j) (sym sizes) ∙ slice_get_mapped size_in at.space.caches j c at.among in
    let x = mapped size_in s.0.caches j (size_in c) size in
    (x.0, record { space = s.0; at = s.1; among = x.1 }, sym x.2)
