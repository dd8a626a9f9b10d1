-- When a stock ends, and what is so of one that was reaped.
use Rattle.std.specs.Prelude.{◌≡◌, ◌≢◌, ◌⊎◌, ℕ, ◌<◌, List, [], ◌∷◌, All, Contains, map}
use Rattle.std.specs.Prelude.{slice_get, Some, Result, Ok, Err}
use Rattle.deed_core.specs.Holding.{Holding}
use Rattle.deed_core.specs.Tag.{Tag}
use Rattle.tag_arena.specs.ArenaState.{spans_of}
use Rattle.slab_layer.specs.Slab.{IsComplete}
use Rattle.slab_layer.specs.Cache.{deeds_of}
use Rattle.magazine_layer.specs.Depots.{depot_rounds}
use Rattle.stock.specs.Spaces.{SpaceState, QuantumCacheState, IsCacheAt}
use Rattle.stock.specs.Accounts.{IsAccounted}

-- no deed lies in the slabs of the cache, and no round in its depot
pub record IsBareCache (c : QuantumCacheState) : Type 0 where
  pub slab : deeds_of c.slab ≡ []
  pub depot : depot_rounds c.depot ≡ []

-- the arena has no span, and no deed lies in its caches
pub record IsBare (s : SpaceState) : Type 0 where
  pub spans : spans_of s.arena ≡ []
  pub caches : All IsBareCache s.caches

-- each segment has units
abbrev pub HaveUnits : List Tag → Type 0
HaveUnits segments = All (λ t. 0 < t.holding.range.len) segments

-- so has each round of the depots
abbrev pub RoundsHaveUnits : List QuantumCacheState → Type 0
RoundsHaveUnits caches = All (λ c. HaveUnits (depot_rounds c.depot)) caches

-- the depot has no round, and no slab is left to reap: each has a chunk out
pub record IsReapedCache (c : QuantumCacheState) : Type 0 where
  pub rounds : depot_rounds c.depot ≡ []
  pub slabs : All (λ s. ¬ IsComplete s) c.slab.slabs

-- all caches of the arena are reaped
abbrev pub IsReaped : SpaceState → Type 0
IsReaped s = All IsReapedCache s.caches

-- no owned span of the arena is wholly free, so that none is left to take out
abbrev pub IsTakenOut : SpaceState → Type 0
IsTakenOut s = All (λ h. ¬ Contains s.arena.free h) s.arena.owned

-- none is left in the arena of this index
abbrev pub IsTakenOutAt : List SpaceState → ℕ → Type 0
IsTakenOutAt spaces k = (s : SpaceState) → slice_get spaces k ≡ Some s → IsTakenOut s

-- all arenas but the one of this index are as they were
abbrev pub OthersAreSame : ℕ → List SpaceState → List SpaceState → Type 0
OthersAreSame k old new = (i : ℕ) → i ≢ k → slice_get new i ≡ slice_get old i

-- where nothing is out, a stock ends once its caches are reaped and its owned spans taken out
abbrev pub EndsOnceReaped : Type 0
EndsOnceReaped = (spaces : List SpaceState) → IsAccounted spaces [] → All IsReaped spaces
    → All IsTakenOut spaces → All IsBare spaces

-- and where something is out it doesn't end
abbrev pub EndsWithNothingOut : Type 0
EndsWithNothingOut = (spaces : List SpaceState) (out : List Tag) → IsAccounted spaces out
    → All IsBare spaces → out ≡ []

-- the cache at the index is reaped
abbrev pub IsReapedAt : List SpaceState → ℕ → ℕ → Type 0
IsReapedAt spaces k j = (c : QuantumCacheState) → IsCacheAt spaces k j c → IsReapedCache c

-- each cache but the one at the index was there before
abbrev pub OthersStay : ℕ → ℕ → List SpaceState → List SpaceState → Type 0
OthersStay k j old new = (i n : ℕ) (c : QuantumCacheState) → IsCacheAt new i n c
    → IsCacheAt old i n c ⊎ ((i ≡ k) × (n ≡ j))

-- each cache but those of the arena at the index was there before
abbrev pub OtherArenasStay : ℕ → List SpaceState → List SpaceState → Type 0
OtherArenasStay k old new = (i n : ℕ) (c : QuantumCacheState) → IsCacheAt new i n c
    → IsCacheAt old i n c ⊎ (i ≡ k)

-- the depots are as before
abbrev pub DepotsStay : List SpaceState → List SpaceState → Type 0
DepotsStay old new = (i n : ℕ) (c : QuantumCacheState) → IsCacheAt new i n c
    → (d : QuantumCacheState) × IsCacheAt old i n d × (c.depot ≡ d.depot)

-- each cache was there before
abbrev pub AllCachesStay : List SpaceState → List SpaceState → Type 0
AllCachesStay old new = (i n : ℕ) (c : QuantumCacheState) → IsCacheAt new i n c
    → IsCacheAt old i n c

-- what stays of an arena whatever is reaped: its owned spans, and how many rounds the magazines of
-- its depots take
pub record Lasting : Type 0 where
  pub owned : List Holding
  pub sizes : List ℕ

abbrev pub depot_size_of : QuantumCacheState → ℕ
depot_size_of c = c.depot.size

abbrev pub lasting_of : SpaceState → Lasting
lasting_of s = record { owned = s.arena.owned; sizes = map depot_size_of s.caches }

abbrev pub lastings_of : List SpaceState → List Lasting
lastings_of spaces = map lasting_of spaces

-- what is left in the hand where a part refused it
abbrev pub hand_after_reap : Result (Unit {0}) Tag → List Tag
hand_after_reap (Ok _) = []
hand_after_reap (Err t) = t ∷ []
