-- What a contract sees of a depot, and what its calls do.
use Rattle.std.specs.Prelude.{◌≡◌, ℕ, ◌+◌, ◌-◌, ◌<◌, ◌≤◌, ◌⊎◌, List, [], ◌∷◌, ◌++◌}
use Rattle.std.specs.Prelude.{length, min, All, flat_map}
use Rattle.deed_core.specs.Tag.{Tag}
use Rattle.magazine_layer.specs.Magazines.{IsSize, CpuCacheState, MagazineState}
use Rattle.magazine_layer.specs.Magazines.{cache_rounds, with_rounds}

-- what a contract sees of a depot
pub record DepotState : Type 0 where
  -- how many rounds its magazines hold
  pub size : ℕ
  -- the full magazines of that size, the last in at the end
  pub full : List (List Tag)
  -- how many of these lie outside the working set, and may be reaped: the least number that stood
  -- here since the interval began, less those reaped since
  pub full_reapable : ℕ
  -- how many empty ones of that size there are
  pub empty : ℕ
  -- the same of these
  pub empty_reapable : ℕ
  -- the full magazines of smaller sizes, the oldest first
  pub old_full : List (List Tag)
  -- what is left of the one that is being drained
  pub draining : List Tag

-- what every depot is
pub record IsDepot (d : DepotState) : Type 0 where
  pub sized : IsSize d.size
  pub whole : All (λ m. length m ≡ d.size) d.full
  pub some : All (λ m. 0 < length m) d.old_full
  pub full_stands : d.full_reapable ≤ length d.full
  pub empty_stands : d.empty_reapable ≤ d.empty

-- the lists have room for what may move into them without memory: a full magazine for an empty one,
-- an empty one for a full one, and all full ones among the old
pub record ListsHaveRoom (full empty old full_room empty_room old_room : ℕ) : Type 0 where
  pub for_full : full + empty ≤ full_room
  pub for_empty : full + empty ≤ empty_room
  pub for_old : old + (full + empty) ≤ old_room

-- the rounds of some magazines
abbrev pub all_rounds : List (List Tag) → List Tag
all_rounds magazines = flat_map (λ m. m) magazines

-- so many rounds these magazines of smaller sizes have, each of them at most 31
pub record IsOldCount (old_full : List (List Tag)) (count : ℕ) : Type 0 where
  pub counted : count ≡ length (all_rounds old_full)
  pub most : All (λ m. length m ≤ 31) old_full

-- all rounds of a depot
abbrev pub depot_rounds : DepotState → List Tag
depot_rounds d = all_rounds d.old_full ++ (all_rounds d.full ++ d.draining)

-- all rounds of a CPU's cache and a depot
abbrev pub both_rounds : CpuCacheState → DepotState → List Tag
both_rounds c d = cache_rounds c ++ depot_rounds d

-- a depot with no magazine
abbrev pub new_depot : ℕ → DepotState
new_depot m = record {
  size = m;
  full = [];
  full_reapable = 0;
  empty = 0;
  empty_reapable = 0;
  old_full = [];
  draining = [];
}

-- the depot with these full magazines of its size, and this many empty ones: no more may be reaped
-- than stand
abbrev pub with_lists : List (List Tag) → ℕ → DepotState → DepotState
with_lists full empty d = record d {
  full = full;
  full_reapable = min d.full_reapable (length full);
  empty = empty;
  empty_reapable = min d.empty_reapable empty;
}

-- the newest full magazine is loaded, loaded is the previous one, and that one, which is empty, is
-- the depot's
pub record SwapsForFull (c : CpuCacheState) (d : DepotState) (c' : CpuCacheState)
    (d' : DepotState) : Type 0 where
  pub sized : c.size ≡ d.size
  pub newest : d.full ≡ d'.full ++ c'.loaded ∷ []
  pub whole : length c'.loaded ≡ c.size
  pub cache : c' ≡ with_rounds c'.loaded c.loaded c
  pub depot : d' ≡ with_lists d'.full (d.empty + 1) d

-- an empty magazine is loaded, loaded is the previous one, and that one, which is full, is the
-- depot's newest
pub record SwapsForEmpty (c : CpuCacheState) (d : DepotState) (c' : CpuCacheState)
    (d' : DepotState) : Type 0 where
  pub sized : c.size ≡ d.size
  pub one : d.empty ≡ d'.empty + 1
  pub cache : c' ≡ with_rounds [] c.loaded c
  pub depot : d' ≡ with_lists (d.full ++ c.previous ∷ []) d'.empty d

-- the same with a magazine from elsewhere
pub record PutsFull (m : MagazineState) (c : CpuCacheState) (d : DepotState)
    (c' : CpuCacheState) (d' : DepotState) : Type 0 where
  pub sized : (c.size ≡ d.size) × (m.size ≡ d.size)
  pub cache : c' ≡ with_rounds m.rounds c.loaded c
  pub depot : d' ≡ with_lists (d.full ++ c.previous ∷ []) d.empty d

-- an interval begins for both lists
abbrev pub after_tick : DepotState → DepotState
after_tick d = record d { full_reapable = length d.full; empty_reapable = d.empty }

-- a depot for magazines of a greater size: the full ones are of an old size, and the empty ones are
-- gone
abbrev pub after_resize : ℕ → DepotState → DepotState
after_resize m d =
    record (new_depot m) { old_full = d.old_full ++ d.full; draining = d.draining }

-- the depot without the empty magazines that may be reaped
abbrev pub after_trim : DepotState → DepotState
after_trim d = record d { empty = d.empty - d.empty_reapable; empty_reapable = 0 }

-- the oldest magazine of an old size is being drained
pub record BeginsOld (d d' : DepotState) : Type 0 where
  pub drained : d.draining ≡ []
  pub oldest : d.old_full ≡ d'.draining ∷ d'.old_full
  pub rest : d' ≡ record d { old_full = d'.old_full; draining = d'.draining }

-- the oldest full one is, since one lies outside the working set
pub record BeginsFull (d d' : DepotState) : Type 0 where
  pub drained : d.draining ≡ []
  pub none_old : d.old_full ≡ []
  pub some : 0 < d.full_reapable
  pub oldest : d.full ≡ d'.draining ∷ d'.full
  pub rest : d' ≡ record d {
    full = d'.full;
    full_reapable = d.full_reapable - 1;
    draining = d'.draining;
  }

-- the magazine to reap from is being drained: the one that was, else the first that may be
abbrev pub Begins : DepotState → DepotState → Type 0
Begins d d' = ((0 < length d.draining) × (d' ≡ d)) ⊎ BeginsOld d d' ⊎ BeginsFull d d'

-- x is the last round of the magazine being drained
pub record Drains (x : Tag) (d d' : DepotState) : Type 0 where
  pub last : d.draining ≡ d'.draining ++ x ∷ []
  pub rest : d' ≡ record d { draining = d'.draining }

-- x is the round that is reaped
abbrev pub ReapsRound : Tag → DepotState → DepotState → Type 0
ReapsRound x d d' = (begun : DepotState) × Begins d begun × Drains x begun d'

-- a round may be reaped
abbrev pub CanReap : DepotState → Type 0
CanReap d = (0 < length d.draining) ⊎ (0 < length d.old_full) ⊎ (0 < d.full_reapable)
