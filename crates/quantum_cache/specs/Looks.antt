-- The last look at a depot, a slab cache or the CPU's magazines, and what a drain and a reaping
-- tell of it.
use Rattle.std.specs.Prelude.{◌≡◌, ◌≢◌, ◌⊎◌, ℕ, ◌<◌, ◌≤◌, List, [], ◌∷◌, Some, None, Ok, Err}
use Rattle.std.specs.Prelude.{length, slice_get}
use Rattle.deed_core.specs.Tag.{Tag}
use Rattle.arena_tree.specs.declared.levels.Level.{Level}
use Rattle.arena_tree.specs.declared.trees.TreeArena.{TreeArena}
use Rattle.arena_tree.specs.Chains.{Node, IsChain}
use Rattle.arena_tree.specs.Events.{Event, AnswerTo, SlabReap, DepotReap, Pop}
use Rattle.arena_tree.specs.Told.{AnsweredEvent, Tells, WasStopped}
use Rattle.arena_tree.specs.Trees.{nodes_of, level_of}
use Rattle.quantum_cache.specs.declared.emptying_faults.EmptyingFault.{EmptyingFault}
use Rattle.quantum_cache.specs.declared.emptying_faults.EmptyingFault.TheVariants as emptying
use Rattle.quantum_cache.specs.Caches.{chain_in}
use Rattle.quantum_cache.specs.Drains.{DrainEnd, drain_plan}
use Rattle.quantum_cache.specs.Reaps.{ReapEnd, reap_arena_plan, reap_plan}
use Rattle.quantum_cache.specs.Sizes.{caches_in}
use Rattle.quantum_cache.specs.Told.{JustRefused}

-- when the event was asked last, this was the answer
abbrev pub WasLast : (e : Event) → AnswerTo e → List AnsweredEvent → Type 0
WasLast e a [] = ⊥
WasLast e a (x ∷ told) = (x ≡ record { event = e; answer = a }) ⊎ ((x.event ≢ e) × WasLast e a told)

-- the last looks at the depot and at the slab cache found nothing
abbrev pub NothingToReap : List AnsweredEvent → ℕ → ℕ → Type 0
NothingToReap told arena cache =
    WasLast (DepotReap arena cache) (Ok None) told × WasLast (SlabReap arena cache) (Ok None) told

-- it is so of each cache of each arena of the tree
abbrev pub OfEachCache : List TreeArena → (ℕ → ℕ → Type 0) → Type 0
OfEachCache arenas P = (id cache : ℕ) (x : TreeArena) → slice_get arenas id ≡ Some x → 0 < cache
    → cache ≤ caches_in (level_of id x) → P id cache

-- it is so of each cache of the chain's first arena
abbrev pub OfEachCacheIn : List Level → (ℕ → ℕ → Type 0) → Type 0
OfEachCacheIn [] P = Unit {0}
OfEachCacheIn (l ∷ up) P = (cache : ℕ) → 0 < cache → cache ≤ caches_in l → P l.id cache

-- a segment isn't placed only where a part has just refused it, or was just stopped
abbrev pub EmptyingTold : List AnsweredEvent → EmptyingFault Tag → Type 0
EmptyingTold told (emptying.Stuck t) = JustRefused t told
EmptyingTold told (emptying.Stopped o) = WasStopped told

-- a reaping ends before its limit only where its last looks found nothing
abbrev pub ReapTold : List TreeArena → List AnsweredEvent → ReapEnd → Type 0
ReapTold arenas told (Ok r) = 0 < r.left → OfEachCache arenas (NothingToReap told)
ReapTold arenas told (Err f) = EmptyingTold told f.cause

-- and so does one of a single arena
abbrev pub ReapArenaTold : List Level → List AnsweredEvent → ReapEnd → Type 0
ReapArenaTold chain told (Ok r) = 0 < r.left → OfEachCacheIn chain (NothingToReap told)
ReapArenaTold chain told (Err f) = EmptyingTold told f.cause

-- a drain ends well only where the last pop of each cache found nothing
abbrev pub DrainTold : List TreeArena → List AnsweredEvent → DrainEnd → Type 0
DrainTold arenas told (Ok u) =
    OfEachCache arenas (λ id cache. WasLast (Pop id cache) (Ok None) told)
DrainTold arenas told (Err None) = Unit {0}
DrainTold arenas told (Err (Some f)) = EmptyingTold told f

-- A reaping over the tree tells so.
abbrev pub ReapTells : Type 0
ReapTells = (arenas : List TreeArena) (limit : ℕ)
    → ((id : ℕ) → id < length arenas → IsChain (nodes_of arenas) (chain_in arenas id))
    → Tells (nodes_of arenas) (ReapTold arenas) (reap_plan arenas limit) []

-- So does one of an arena by a chain of the tree.
abbrev pub ReapArenaTells : Type 0
ReapArenaTells = (nodes : List Node) (chain : List Level) (limit : ℕ) → IsChain nodes chain
    → Tells nodes (ReapArenaTold chain)
    (reap_arena_plan chain (record { left = limit; units = 0 })) []

-- And a drain.
abbrev pub DrainTells : Type 0
DrainTells = (turns : ℕ) (arenas : List TreeArena) (nodes : List Node)
    → Tells nodes (DrainTold arenas) (drain_plan turns arenas) []
