-- By which part an event came, at which step, and what it answered, as the part says under its
-- lock; and where there is no such part.
use Rattle.std.specs.Prelude.{◌≡◌, ◌⊎◌, ◌+◌, ◌<◌, ◌≤◌, ℕ, List, Option, Some, None}
use Rattle.std.specs.Prelude.{Result, Ok, Err}
use Rattle.std.specs.Prelude.{length, slice_get}
use Rattle.deed_core.specs.Tag.{Tag}
use Rattle.deed_core.specs.declared.segments.Route.{Route}
use Rattle.deed_core.specs.declared.segments.Route.TheVariants.{Direct, Cached}
use Rattle.tag_arena.specs.declared.faults.ArenaFault.TheVariants as carving
use Rattle.tag_arena.specs.declared.faults.SpanFault.TheVariants as adding
use Rattle.slab_layer.specs.declared.faults.PutFault.TheVariants as putting
use Rattle.slab_layer.specs.declared.faults.AddFault.TheVariants as slabbing
use Rattle.magazine_layer.specs.Magazines.{BothFull}
use Rattle.magazine_layer.specs.declared.faults.FullFault.TheVariants as fulling
use Rattle.magazine_layer.specs.declared.faults.EmptyFault.TheVariants as emptying
use Rattle.arena_tree.specs.declared.part_faults.FreshFault.TheVariants as freshing
use Rattle.arena_tree.specs.declared.part_faults.PartFault.TheVariants as asking
use Rattle.arena_tree.specs.declared.part_faults.GivenFault.TheVariants as giving
use Rattle.arena_tree.specs.declared.part_faults.Stopped.{Stopped}
use Rattle.arena_tree.specs.Events.{Event, AnswerTo, Carve, Free, AddCarve, SlabTake, SlabPut}
use Rattle.arena_tree.specs.Events.{SlabAdd, SlabReap, SwapFull, SwapEmpty, SwapFresh, DepotReap}
use Rattle.arena_tree.specs.Events.{Pop, Push, Change}
use Rattle.arena_tree.specs.Tags.{wording_of}
use Rattle.locked_parts.specs.Kinds.{OwnCacheState}
use Rattle.locked_parts.specs.Owns.{HasNoOwn, IsOwnAt, cache_of}
use Rattle.locked_parts.specs.States.{LockedArenaState, LockedPartsState}
use Rattle.locked_parts.specs.Words.{given_word, carve_word, free_word, span_word, put_word}
use Rattle.locked_parts.specs.Words.{add_word, full_word, empty_word, fresh_word}
use Rattle.locked_parts.specs.Words.{MisplacedState}
use Rattle.locked_parts.specs.declared.gates.NextStep.{NextStep}
use Rattle.locked_parts.specs.declared.kinds.CacheKind.{CacheKind}
use Rattle.locked_parts.specs.declared.misplaced.Cause.TheVariants as cause
use Rattle.locked_parts.specs.declared.misplaced.PartName.{PartName}
use Rattle.locked_parts.specs.declared.misplaced.PartName.TheVariants as naming
use Rattle.locked_parts.specs.declared.said.Said.{Said}
use Rattle.locked_parts.specs.declared.said.Said.TheVariants as saying
use Rattle.locked_parts.specs.declared.words.Word.{Word}

-- that arena, asked at that step, answered so
abbrev pub arena_said : ℕ → NextStep → Word → Said
arena_said arena step answer =
    saying.Arena (record { arena = arena; step = step; word = answer })

-- the slabs of that quantum cache did, or its depot
abbrev pub slabs_said : CacheKind → NextStep → Word → Said
slabs_said kind step answer = saying.Slab (record { kind = kind; step = step; word = answer })

abbrev pub depot_said : CacheKind → NextStep → Word → Said
depot_said kind step answer = saying.Depot (record { kind = kind; step = step; word = answer })

-- the arena has a quantum cache of this number
abbrev pub HasCache : LockedArenaState → ℕ → Type 0
HasCache a cache = (0 < cache) × (cache ≤ length a.kinds)

-- this cache stands at the place of that number
abbrev pub HasCacheAt : LockedArenaState → ℕ → CacheKind → Type 0
HasCacheAt a cache kind =
    (place : ℕ) × (place + 1 ≡ cache) × (slice_get a.kinds place ≡ Some kind)

-- the arena of this number is ended, or has no such cache
abbrev pub IsNoCache : LockedPartsState → (arena cache : ℕ) → Type 0
IsNoCache p arena cache = (p.standing ≤ arena)
    ⊎ ((a : LockedArenaState) × (slice_get p.stand arena ≡ Some a) × (¬ HasCache a cache))

-- this part doesn't stand
abbrev pub IsNone : LockedPartsState → PartName → Type 0
IsNone p (naming.Arena arena) = p.standing ≤ arena
IsNone p (naming.Slabs arena cache) = IsNoCache p arena cache
IsNone p (naming.Depot arena cache) = IsNoCache p arena cache

-- it was sought for this step, if for one, and isn't where it was set up: it doesn't stand, or what
-- lies under its lock is another, which that says itself
pub record IsMisplaced (p : LockedPartsState) (step : Option NextStep) (part : PartName)
    (m : MisplacedState) : Type 0 where
  pub step_is : m.step ≡ step
  pub part_is : m.part ≡ part
  pub none : m.cause ≡ cause.None → IsNone p part

-- so it was found at this step
abbrev pub IsNoPart : LockedPartsState → NextStep → PartName → Said → Type 0
IsNoPart p step part s =
    (m : MisplacedState) × (s ≡ saying.Missing m) × IsMisplaced p (Some step) part m

-- the part's own answer is told on in the words of the event, and the part said it
abbrev pub IsToldOn : {X E F : Type 0} → (E → F) → (Result X E → Word) → (Word → Said)
    → Result X F → Said → Type 0
IsToldOn {X} {E} told word_of says a s =
    (own : Result X E) × (a ≡ wording_of told own) × (s ≡ says (word_of own))

-- the same of one that may give a segment
abbrev pub IsGivenOn : (Word → Said) → Result (Option Tag) Stopped → Said → Type 0
IsGivenOn says a s = (own : Option Tag) × (a ≡ Ok own) × (s ≡ says (given_word own))

-- the number of the cache that a chunk is of; 0 of what is no chunk
abbrev pub number_of_cache : Route → ℕ
number_of_cache Direct = 0
number_of_cache (Cached number) = number

-- the event came by that very part, asked at this step, and its answer is the part's; that memory
-- for a magazine is out is told before a depot is asked. The CPU's own events reach no part.
abbrev pub IsSaid : LockedPartsState → NextStep → (e : Event) → AnswerTo e → Said → Type 0
IsSaid p step (Carve arena request) a s =
    IsToldOn asking.Refused carve_word (arena_said arena step) a s
IsSaid p step (Free given) a s =
    IsToldOn giving.Refused free_word (arena_said given.arena step) a s
IsSaid p step (AddCarve child given size) a s =
    IsToldOn giving.Refused span_word (arena_said child step) a s
IsSaid p step (SlabTake arena cache) a s =
    IsGivenOn (slabs_said (cache_of p.arenas arena cache) step) a s
IsSaid p step (SlabPut given) a s = IsToldOn giving.Refused put_word
    (slabs_said (cache_of p.arenas given.arena (number_of_cache given.route)) step) a s
IsSaid p step (SlabAdd arena cache given) a s =
    IsToldOn giving.Refused add_word (slabs_said (cache_of p.arenas arena cache) step) a s
IsSaid p step (SlabReap arena cache) a s =
    IsGivenOn (slabs_said (cache_of p.arenas arena cache) step) a s
IsSaid p step (SwapFull arena cache) a s =
    IsToldOn asking.Refused full_word (depot_said (cache_of p.arenas arena cache) step) a s
IsSaid p step (SwapEmpty arena cache) a s =
    IsToldOn asking.Refused empty_word (depot_said (cache_of p.arenas arena cache) step) a s
IsSaid p step (SwapFresh arena cache) a s =
    IsToldOn asking.Refused fresh_word (depot_said (cache_of p.arenas arena cache) step) a s
    ⊎ (a ≡ Err (asking.Refused freshing.NoMemory))
IsSaid p step (DepotReap arena cache) a s =
    IsGivenOn (depot_said (cache_of p.arenas arena cache) step) a s
IsSaid p step (Pop arena cache) a s = Unit {0}
IsSaid p step (Push arena cache given) a s = Unit {0}
IsSaid p step (Change arena cache size) a s = Unit {0}

-- the CPU has no magazines for the cache, or these aren't both full
abbrev pub HasNoFull : LockedPartsState → (arena cache : ℕ) → List OwnCacheState → Type 0
HasNoFull p arena cache caches = HasNoOwn p.arenas arena cache caches
    ⊎ ((index : ℕ) × (own : OwnCacheState) × IsOwnAt p.arenas arena cache caches index own
    × (¬ BothFull own.cpu))

-- there is no such part, or what the CPU would exchange
abbrev pub IsMissing : LockedPartsState → List OwnCacheState → NextStep → Event → Said → Type 0
IsMissing p caches step (Carve arena request) s = IsNoPart p step (naming.Arena arena) s
IsMissing p caches step (Free given) s = IsNoPart p step (naming.Arena given.arena) s
IsMissing p caches step (AddCarve child given size) s = IsNoPart p step (naming.Arena child) s
IsMissing p caches step (SlabTake arena cache) s = IsNoPart p step (naming.Slabs arena cache) s
IsMissing p caches step (SlabPut given) s =
    IsNoPart p step (naming.Slabs given.arena (number_of_cache given.route)) s
IsMissing p caches step (SlabAdd arena cache given) s =
    IsNoPart p step (naming.Slabs arena cache) s
IsMissing p caches step (SlabReap arena cache) s = IsNoPart p step (naming.Slabs arena cache) s
IsMissing p caches step (SwapFull arena cache) s =
    IsNoPart p step (naming.Depot arena cache) s ⊎ HasNoOwn p.arenas arena cache caches
IsMissing p caches step (SwapEmpty arena cache) s =
    IsNoPart p step (naming.Depot arena cache) s ⊎ HasNoOwn p.arenas arena cache caches
IsMissing p caches step (SwapFresh arena cache) s =
    IsNoPart p step (naming.Depot arena cache) s ⊎ HasNoFull p arena cache caches
IsMissing p caches step (DepotReap arena cache) s = IsNoPart p step (naming.Depot arena cache) s
IsMissing p caches step (Pop arena cache) s = ⊥
IsMissing p caches step (Push arena cache given) s = ⊥
IsMissing p caches step (Change arena cache size) s = ⊥

-- what it is answered then
abbrev pub AnswersMissing : (e : Event) → AnswerTo e → Type 0
AnswersMissing (Carve arena request) a =
    (a ≡ Err (asking.Refused carving.NoMemory)) ⊎ (a ≡ Err (asking.Refused carving.BadRequest))
AnswersMissing (Free given) a = a ≡ Err (giving.Refused given)
AnswersMissing (AddCarve child given size) a = a ≡ Err (giving.Refused (adding.Overlaps given))
AnswersMissing (SlabTake arena cache) a = a ≡ Ok None
AnswersMissing (SlabPut given) a = a ≡ Err (giving.Refused (putting.NotMine given))
AnswersMissing (SlabAdd arena cache given) a = a ≡ Err (giving.Refused (slabbing.WrongSize given))
AnswersMissing (SlabReap arena cache) a = a ≡ Ok None
AnswersMissing (SwapFull arena cache) a = a ≡ Err (asking.Refused fulling.NoneFull)
AnswersMissing (SwapEmpty arena cache) a = a ≡ Err (asking.Refused emptying.NoneEmpty)
AnswersMissing (SwapFresh arena cache) a = a ≡ Err (asking.Refused freshing.NotFull)
AnswersMissing (DepotReap arena cache) a = a ≡ Ok None
AnswersMissing (Pop arena cache) a = ⊥
AnswersMissing (Push arena cache given) a = ⊥
AnswersMissing (Change arena cache size) a = ⊥

-- by which part an event came, or that there is none
abbrev pub CameBy : LockedPartsState → List OwnCacheState → NextStep → (e : Event) → AnswerTo e
    → Said → Type 0
CameBy p caches step e a s =
    IsSaid p step e a s ⊎ (IsMissing p caches step e s × AnswersMissing e a)
