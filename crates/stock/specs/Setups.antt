-- What a stock is set up as by a setup: the arenas of its tree, and the spans that its roots own.
use Rattle.std.specs.Prelude.{◌≡◌, ℕ, ◌+◌, ◌*◌, ◌/◌, ◌==◌, if◌then◌else◌, List, [], ◌∷◌, ◌++◌, map}
use Rattle.std.specs.Prelude.{replicate, slice_get, Some}
use Rattle.std.specs.FinMap as finmap
use Rattle.deed_core.specs.Holding.{Holding}
use Rattle.tag_arena.specs.declared.policies.Policy.{Policy}
use Rattle.tag_arena.specs.ArenaState.{ArenaState, empty_arena}
use Rattle.arena_tree.specs.declared.limits.TheConstants.{MOST_SPANS}
use Rattle.arena_tree.specs.declared.trees.TreeArena.{TreeArena}
use Rattle.arena_tree.specs.declared.setups.OwnedSpan.{OwnedSpan}
use Rattle.arena_tree.specs.Settings.{SetupState, span_count}
use Rattle.stock.specs.Spaces.{SpaceState, QuantumCacheState, SpacePlan, plans_of}
use Rattle.stock.specs.Steps.{new_cache}

-- what an arena of a tree is set up as: it has a cache for each multiple of its quantum up to the
-- greatest cached size, each with slabs of its one slab size
abbrev pub plan_for : TreeArena → SpacePlan
plan_for x = record {
  source = x.source;
  quantum = x.quantum;
  policy = x.policy;
  slab_sizes = replicate (x.qcache_max / x.quantum) x.slab_size;
}

abbrev pub plans_for : List TreeArena → List SpacePlan
plans_for arenas = map plan_for arenas

-- each cache of the arena is as it is made, with chunks of one quantum more than the one before it,
-- with no slab yet and no magazine, and its magazines take this many rounds
abbrev pub AreNewCaches : ℕ → SpaceState → Type 0
AreNewCaches rounds s = (j : ℕ) (c : QuantumCacheState) → slice_get s.caches j ≡ Some c
    → c ≡ new_cache s.arena.id (j + 1) s.arena.quantum c.slab.slab_size rounds

-- an arena with no span, whose caches have nothing
pub record IsNewSpace (rounds : ℕ) (s : SpaceState) : Type 0 where
  pub arena : s.arena ≡ empty_arena s.arena.id s.arena.quantum s.arena.policy
  pub caches : AreNewCaches rounds s

-- there is one deed for each owned span, of its range and in its order
abbrev pub AreDeedsOf : List OwnedSpan → List Holding → Type 0
AreDeedsOf spans deeds = map (λ h. h.range) deeds ≡ map (λ o. o.range) spans

-- the number of the root at this place among an arena's own: each arena has as many numbers as it
-- may own spans
abbrev pub root_number : ℕ → ℕ → ℕ
root_number arena place = MOST_SPANS * arena + place

-- a deed for each span, each of a root of its own, whose place is how many spans of its arena stand
-- before it: these do before the first
abbrev pub deeds_after : List OwnedSpan → List OwnedSpan → List Holding
deeds_after before [] = []
deeds_after before (o ∷ spans) =
    record { root = root_number o.arena (span_count o.arena before); range = o.range }
    ∷ deeds_after (before ++ o ∷ []) spans

-- the same for all spans of a setup
abbrev pub numbered_deeds : List OwnedSpan → List Holding
numbered_deeds spans = deeds_after [] spans

-- those of the deeds whose spans are this arena's
abbrev pub deeds_owned : ℕ → List OwnedSpan → List Holding → List Holding
deeds_owned arena [] deeds = []
deeds_owned arena (o ∷ spans) [] = []
deeds_owned arena (o ∷ spans) (h ∷ deeds) = if o.arena == arena
    then h ∷ deeds_owned arena spans deeds else deeds_owned arena spans deeds

-- an arena that owns these spans, each wholly free, and has imported and carved nothing
abbrev pub unused_arena : ℕ → ℕ → Policy → List Holding → ArenaState
unused_arena id quantum policy spans = record {
  id = id;
  quantum = quantum;
  policy = policy;
  owned = spans;
  imported = [];
  free = spans;
  allocated = finmap.empty;
  rover = 0;
  looks = 0;
}

-- the arena of this number owns these spans, all of them free, and its caches have nothing
pub record IsUnused (rounds id : ℕ) (spans : List Holding) (s : SpaceState) : Type 0 where
  pub arena : s.arena ≡ unused_arena id s.arena.quantum s.arena.policy spans
  pub caches : AreNewCaches rounds s

-- the stock has the arenas of the setup in their order, each with its source, quantum, policy and
-- caches, and owning just the setup's spans of that arena, each once and whole, as these deeds; no
-- unit of them was carved yet, and no slab or magazine is there
pub record IsSetUpFrom (setup : SetupState) (deeds : List Holding) (rounds : ℕ)
    (spaces : List SpaceState) : Type 0 where
  pub plans : plans_of spaces ≡ plans_for setup.arenas
  pub unused : (k : ℕ) (s : SpaceState) → slice_get spaces k ≡ Some s
      → IsUnused rounds k (deeds_owned k setup.spans deeds) s
