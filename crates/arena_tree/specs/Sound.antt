-- What is so of every answer, whatever the parts are.
use Rattle.std.specs.Prelude.{◌≡◌, ℕ, ◌+◌, ◌%◌, ◌≤◌, List, Option, Some, None, Result, Ok, Err}
use Rattle.std.specs.Prelude.{IfOk, IfErr, IfSome}
use Rattle.deed_core.specs.Tag.{Tag}
use Rattle.deed_core.specs.Request.{IsGood, plain_of}
use Rattle.deed_core.specs.declared.requests.Request.{Request}
use Rattle.deed_core.specs.declared.segments.Route.TheVariants.{Direct}
use Rattle.arena_tree.specs.declared.part_faults.PartFault.{PartFault}
use Rattle.tag_arena.specs.declared.faults.ArenaFault.{ArenaFault}
use Rattle.arena_tree.specs.declared.part_faults.PartFault.TheVariants as asking
use Rattle.tag_arena.specs.declared.faults.ArenaFault.TheVariants.{BadRequest}
use Rattle.arena_tree.specs.declared.part_faults.Stopped.{Stopped}
use Rattle.arena_tree.specs.Chains.{Node, IsGrant, IsCachedChunk, source_of, quantum_in}
use Rattle.arena_tree.specs.Events.{Event, AnswerTo, Carve, Free, AddCarve, SlabTake, SlabPut}
use Rattle.arena_tree.specs.Events.{SlabAdd, SlabReap, SwapFull, SwapEmpty, SwapFresh, DepotReap}
use Rattle.arena_tree.specs.Events.{Pop, Push, Change, segment_of_free, segment_of_add}
use Rattle.arena_tree.specs.Events.{segment_of_put, segment_of_slab_add, segment_of_push}

-- what is carved fits; a request is bad just where no arena of this quantum takes it
abbrev pub SoundCarve : List Node → ℕ → Request → Result Tag (PartFault ArenaFault) → Type 0
SoundCarve nodes arena q (Ok t) = IsGood (quantum_in nodes arena) q × IsGrant nodes arena q t
SoundCarve nodes arena q (Err (asking.Refused BadRequest)) = ¬ IsGood (quantum_in nodes arena) q
SoundCarve nodes arena q (Err (asking.Refused f)) = IsGood (quantum_in nodes arena) q
SoundCarve nodes arena q (Err asking.Stopped) = Unit {0}

-- what is freed was no chunk; a span that it makes whole is a Direct segment of the arena's source
pub record IsFreed (nodes : List Node) (given : Tag) (out : Option Tag) : Type 0 where
  pub direct : given.route ≡ Direct
  pub whole : IfSome out (λ t. (t.route ≡ Direct) × (source_of nodes given.arena ≡ Some t.arena))

-- what a child carves of a span that it adds: the span's first units, which fit the request
pub record IsFirstOf (nodes : List Node) (child : ℕ) (span : Tag) (size : ℕ) (t : Tag)
    : Type 0 where
  pub grant : IsGrant nodes child (plain_of size) t
  pub root : t.holding.root ≡ span.holding.root
  pub base : t.holding.range.base ≡ span.holding.range.base
  pub within : t.holding.range.len ≤ span.holding.range.len

-- the span of a slab is a Direct segment of the arena, on its quantum's grid
pub record IsSlabSpan (nodes : List Node) (arena : ℕ) (t : Tag) : Type 0 where
  pub of_arena : t.arena ≡ arena
  pub direct : t.route ≡ Direct
  pub grid : t.holding.range.base % quantum_in nodes arena ≡ 0

-- what comes is a chunk of the cache
abbrev pub SoundTake : {E : Type 0} → List Node → ℕ → ℕ → Result (Option Tag) E → Type 0
SoundTake nodes arena cache a = IfOk a (λ o. IfSome o (IsCachedChunk nodes arena cache))

-- the segment that a refusal hands back is the one that was given
abbrev pub Sound : List Node → (e : Event) → AnswerTo e → Type 0
Sound nodes (Carve arena request) a = SoundCarve nodes arena request a
Sound nodes (Free given) a = IfOk a (IsFreed nodes given) × IfErr a (λ f. segment_of_free f ≡ given)
Sound nodes (AddCarve child given size) a = IfOk a (IsFirstOf nodes child given size)
    × IfErr a (λ f. segment_of_add f ≡ given)
Sound nodes (SlabTake arena cache) a = SoundTake nodes arena cache a
Sound nodes (SlabPut given) a = IfErr a (λ f. segment_of_put f ≡ given)
Sound nodes (SlabAdd arena cache given) a = IfOk a (IsCachedChunk nodes arena cache)
    × IfErr a (λ f. segment_of_slab_add f ≡ given)
Sound nodes (SlabReap arena cache) a = IfOk a (λ o. IfSome o (IsSlabSpan nodes arena))
Sound nodes (SwapFull arena cache) a = Unit {0}
Sound nodes (SwapEmpty arena cache) a = Unit {0}
Sound nodes (SwapFresh arena cache) a = Unit {0}
Sound nodes (DepotReap arena cache) a = SoundTake nodes arena cache a
Sound nodes (Pop arena cache) a = SoundTake nodes arena cache a
Sound nodes (Push arena cache given) a = IfErr a (λ f. segment_of_push f ≡ given)
Sound nodes (Change arena cache size) a = Unit {0}

-- a round less, where there is one
abbrev pub PopsRound : Result (Option Tag) Stopped → ℕ → ℕ → Type 0
PopsRound (Ok None) old new = new ≡ old
PopsRound (Ok (Some t)) old new = new + 1 ≡ old
PopsRound (Err e) old new = new ≡ old

-- a round more, where it was taken
abbrev pub PushesRound : {E : Type 0} → Result (Unit {0}) E → ℕ → ℕ → Type 0
PushesRound (Ok u) old new = new ≡ old + 1
PushesRound (Err e) old new = new ≡ old

-- how many rounds the CPU has before and after: only its own events and exchanges with a depot
-- change that. (By how many an exchange does, the size of magazines says, which is none of these.)
abbrev pub KeepsRounds : (e : Event) → AnswerTo e → ℕ → ℕ → Type 0
KeepsRounds (Carve arena request) a old new = new ≡ old
KeepsRounds (Free given) a old new = new ≡ old
KeepsRounds (AddCarve child given size) a old new = new ≡ old
KeepsRounds (SlabTake arena cache) a old new = new ≡ old
KeepsRounds (SlabPut given) a old new = new ≡ old
KeepsRounds (SlabAdd arena cache given) a old new = new ≡ old
KeepsRounds (SlabReap arena cache) a old new = new ≡ old
KeepsRounds (SwapFull arena cache) a old new = Unit {0}
KeepsRounds (SwapEmpty arena cache) a old new = Unit {0}
KeepsRounds (SwapFresh arena cache) a old new = Unit {0}
KeepsRounds (DepotReap arena cache) a old new = new ≡ old
KeepsRounds (Pop arena cache) a old new = PopsRound a old new
KeepsRounds (Push arena cache given) a old new = PushesRound a old new
KeepsRounds (Change arena cache size) a old new = new ≡ old
