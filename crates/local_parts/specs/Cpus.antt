-- What a contract sees of one CPU's caches: of each arena, in order of setup, those of its quantum
-- caches, by the quanta of a chunk.
use Rattle.std.specs.Prelude.{◌≡◌, ℕ, zero, suc, ◌+◌, List, [], ◌∷◌, All, length, map, flat_map}
use Rattle.std.specs.Prelude.{set, slice_get, Option, Some, None}
use Rattle.deed_core.specs.Tag.{Tag}
use Rattle.stock.specs.Spaces.{SpaceState, SpacePlan, plans_of}
use Rattle.stock.specs.OwnCaches.{OwnCacheState, all_own_rounds, HasNoRound}

-- a quantum cache: the indexes of its arena and of itself, and the arena's quantum
pub record CacheIndexes : Type 0 where
  pub arena : ℕ
  pub cache : ℕ
  pub quantum : ℕ

-- the quantum cache that a CPU's cache was made for
abbrev pub own_index : OwnCacheState → CacheIndexes
own_index o = record { arena = o.arena; cache = o.cache; quantum = o.quantum }

abbrev pub own_indexes : List (List OwnCacheState) → List (List CacheIndexes)
own_indexes cpu = map (map own_index) cpu

-- the quantum caches of an arena: so many, from the index j on
abbrev pub row_indexes : ℕ → ℕ → ℕ → ℕ → List CacheIndexes
row_indexes arena quantum j zero = []
row_indexes arena quantum j (suc count) =
    record { arena = arena; cache = j; quantum = quantum } ∷ row_indexes arena quantum (j + 1) count

-- those of each arena, from the number k on
abbrev pub indexes_from : ℕ → List SpacePlan → List (List CacheIndexes)
indexes_from k [] = []
indexes_from k (p ∷ plans) =
    row_indexes k p.quantum 0 (length p.slab_sizes) ∷ indexes_from (k + 1) plans

-- the CPU has a cache for each quantum cache of the stock, and no other
abbrev pub IsCpuOf : List SpaceState → List (List OwnCacheState) → Type 0
IsCpuOf spaces cpu = own_indexes cpu ≡ indexes_from 0 (plans_of spaces)

-- a CPU's cache that is new: two empty magazines of this size
abbrev pub new_own : ℕ → CacheIndexes → OwnCacheState
new_own size p = record {
  arena = p.arena;
  cache = p.cache;
  quantum = p.quantum;
  cpu = record { size = size; loaded = []; previous = [] };
}

-- a CPU that is new, for a stock that was set up so
abbrev pub new_cpu : ℕ → List SpacePlan → List (List OwnCacheState)
new_cpu size plans = map (map (new_own size)) (indexes_from 0 plans)

-- the rounds of a CPU
abbrev pub cpu_rounds : List (List OwnCacheState) → List Tag
cpu_rounds cpu = flat_map all_own_rounds cpu

-- those of the arena at the index; none where there is no such arena
abbrev pub rounds_of_row : Option (List OwnCacheState) → List Tag
rounds_of_row None = []
rounds_of_row (Some row) = all_own_rounds row

abbrev pub arena_rounds : List (List OwnCacheState) → ℕ → List Tag
arena_rounds cpu k = rounds_of_row (slice_get cpu k)

-- all its magazines are empty
abbrev pub HasNoRounds : List (List OwnCacheState) → Type 0
HasNoRounds cpu = All (λ row. All HasNoRound row) cpu

-- the CPU's cache stands at the index j of those of the arena at the index k, and is made for it
pub record IsOwnAt (cpu : List (List OwnCacheState)) (k j : ℕ) (o : OwnCacheState) : Type 0 where
  pub row : List OwnCacheState
  pub at : slice_get cpu k ≡ Some row
  pub among : slice_get row j ≡ Some o
  pub arena : o.arena ≡ k
  pub cache : o.cache ≡ j

-- the cache at the index j of an arena's row changed so, and nothing else did
pub record OnRow (j : ℕ) (P : OwnCacheState → OwnCacheState → Type 0)
    (old new : List OwnCacheState) : Type 0 where
  pub own : OwnCacheState
  pub at : slice_get old j ≡ Some own
  pub changed : OwnCacheState
  pub after : new ≡ set old j changed
  pub does : P own changed

-- the CPU's cache at the index j of the arena at the index k did
pub record OnOwn (k j : ℕ) (P : OwnCacheState → OwnCacheState → Type 0)
    (old new : List (List OwnCacheState)) : Type 0 where
  pub row : List OwnCacheState
  pub at : slice_get old k ≡ Some row
  pub own : OwnCacheState
  pub among : slice_get row j ≡ Some own
  pub changed : OwnCacheState
  pub after : new ≡ set old k (set row j changed)
  pub does : P own changed
