-- What lists of steps ask of parts, and how they end where no part refuses what it is rightly
-- asked.
use Rattle.std.specs.Prelude.{◌≡◌, ℕ, ◌/◌, ◌<◌, ◌≤◌, List, slice_get, Some, Result, Ok, Err}
use Rattle.deed_core.specs.Tag.{Tag}
use Rattle.deed_core.specs.declared.segments.Route.TheVariants.{Direct, Cached}
use Rattle.arena_tree.specs.declared.part_faults.PartFault.{PartFault}
use Rattle.arena_tree.specs.declared.part_faults.GivenFault.{GivenFault}
use Rattle.tag_arena.specs.declared.faults.SpanFault.{SpanFault}
use Rattle.slab_layer.specs.declared.faults.AddFault.{AddFault}
use Rattle.arena_tree.specs.declared.part_faults.PartFault.TheVariants as asking
use Rattle.arena_tree.specs.declared.part_faults.GivenFault.TheVariants as giving
use Rattle.tag_arena.specs.declared.faults.SpanFault.TheVariants as adding
use Rattle.slab_layer.specs.declared.faults.AddFault.TheVariants as slabbing
use Rattle.arena_tree.specs.declared.trees.TreeArena.{TreeArena}
use Rattle.arena_tree.specs.Chains.{source_of}
use Rattle.arena_tree.specs.Events.{Event, AnswerTo, Carve, Free, AddCarve, SlabTake, SlabPut}
use Rattle.arena_tree.specs.Events.{SlabAdd, SlabReap, SwapFull, SwapEmpty, SwapFresh, DepotReap}
use Rattle.arena_tree.specs.Events.{Pop, Push, Change}
use Rattle.arena_tree.specs.Plans.{Plan, Done, Ask}
use Rattle.arena_tree.specs.Sound.{Sound}
use Rattle.arena_tree.specs.Trees.{nodes_of}

-- the arena has a cache of chunks of so many quanta, whose slabs are as long as the span
pub record IsSlabLong (arenas : List TreeArena) (arena cache : ℕ) (span : Tag) : Type 0 where
  pub level : TreeArena
  pub at : slice_get arenas arena ≡ Some level
  pub some : 0 < cache
  pub most : cache ≤ level.qcache_max / level.quantum
  pub long : span.holding.range.len ≡ level.slab_size

-- a span that the arena's cache may cut a slab from
pub record IsForSlab (arenas : List TreeArena) (arena cache : ℕ) (span : Tag) : Type 0 where
  pub of_arena : span.arena ≡ arena
  pub direct : span.route ≡ Direct
  pub slab : IsSlabLong arenas arena cache span

-- a span of the child's source
pub record IsForChild (arenas : List TreeArena) (child : ℕ) (span : Tag) : Type 0 where
  pub source : source_of (nodes_of arenas) child ≡ Some span.arena
  pub direct : span.route ≡ Direct

-- what is given is for the part that it is given to: no chunk is freed, no other segment is put
-- into a slab, and what becomes a span is of the right arena and, for a slab, of the right length
abbrev pub IsRightlyAsked : List TreeArena → Event → Type 0
IsRightlyAsked arenas (Free given) = given.route ≡ Direct
IsRightlyAsked arenas (AddCarve child given size) = IsForChild arenas child given
IsRightlyAsked arenas (SlabPut given) = (k : ℕ) × (given.route ≡ Cached k)
IsRightlyAsked arenas (SlabAdd arena cache given) = IsForSlab arenas arena cache given
IsRightlyAsked arenas (Carve arena request) = Unit {0}
IsRightlyAsked arenas _ = Unit {0}

-- by the answer: done, refused for want of room or of a magazine, or out of memory
abbrev pub AsksWell : {A F : Type 0} → Result A (PartFault F) → Type 0
AsksWell (Err asking.Stopped) = ⊥
AsksWell _ = Unit {0}

abbrev pub AddsWell : Result Tag (GivenFault (SpanFault Tag) Tag) → Type 0
AddsWell (Err (giving.Refused (adding.Overlaps t))) = ⊥
AddsWell (Err (giving.Refused (adding.NotAligned t))) = ⊥
AddsWell (Err (giving.Stopped t)) = ⊥
AddsWell _ = Unit {0}

abbrev pub SlabsWell : Result Tag (GivenFault (AddFault Tag) Tag) → Type 0
SlabsWell (Err (giving.Refused (slabbing.WrongSize t))) = ⊥
SlabsWell (Err (giving.Refused (slabbing.Overlaps t))) = ⊥
SlabsWell (Err (giving.Stopped t)) = ⊥
SlabsWell _ = Unit {0}

abbrev pub PushesWell : Result (Unit {0}) (GivenFault Tag Tag) → Type 0
PushesWell (Err (giving.Stopped t)) = ⊥
PushesWell _ = Unit {0}

-- what is never refused is done
abbrev pub DoesWell : {A E : Type 0} → Result A E → Type 0
DoesWell (Ok a) = Unit {0}
DoesWell (Err e) = ⊥

-- no part stops, and none refuses what is given to it but when out of memory
abbrev pub GoesWell : (e : Event) → AnswerTo e → Type 0
GoesWell (Carve arena request) a = AsksWell a
GoesWell (Free given) a = DoesWell a
GoesWell (AddCarve child given size) a = AddsWell a
GoesWell (SlabTake arena cache) a = DoesWell a
GoesWell (SlabPut given) a = DoesWell a
GoesWell (SlabAdd arena cache given) a = SlabsWell a
GoesWell (SlabReap arena cache) a = DoesWell a
GoesWell (SwapFull arena cache) a = AsksWell a
GoesWell (SwapEmpty arena cache) a = AsksWell a
GoesWell (SwapFresh arena cache) a = AsksWell a
GoesWell (DepotReap arena cache) a = DoesWell a
GoesWell (Pop arena cache) a = DoesWell a
GoesWell (Push arena cache given) a = PushesWell a
GoesWell (Change arena cache size) a = AsksWell a

-- each part is rightly asked, and what it ends with is as said, where each answer is sound and all
-- goes well
abbrev pub EndsWell : {A : Type 0} → List TreeArena → (A → Type 0) → Plan A → Type 0
EndsWell arenas post (Done a) = post a
EndsWell arenas post (Ask e f) = IsRightlyAsked arenas e
    × ((x : AnswerTo e) → Sound (nodes_of arenas) e x → GoesWell e x → EndsWell arenas post (f x))
