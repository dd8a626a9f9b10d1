-- What a contract sees of magazines and of a CPU's cache, and what their calls do.
use Rattle.std.specs.Prelude.{◌≡◌, ℕ, ◌<◌, ◌≤◌, ◌⊎◌, List, [], ◌∷◌, ◌++◌, All, Contains, length}
use Rattle.deed_core.specs.Tag.{Tag}

-- the sizes that a magazine can have
abbrev pub IsSize : ℕ → Type 0
IsSize m = (m ≡ 3) ⊎ (m ≡ 7) ⊎ (m ≡ 15) ⊎ (m ≡ 31)

-- each of these rounds is one of those: whatever holds of all those holds of all these
pub record AreAmong (these those : List Tag) : Type 0 where
  pub each : All (Contains those) these

-- how many rounds a magazine can hold, and those in it, the last in at the end
pub record MagazineState : Type 0 where
  pub size : ℕ
  pub rounds : List Tag

-- what every magazine is
pub record IsMagazine (m : MagazineState) : Type 0 where
  pub sized : IsSize m.size
  pub fits : length m.rounds ≤ m.size

-- a magazine with no round
abbrev pub empty_magazine : ℕ → MagazineState
empty_magazine m = record { size = m; rounds = [] }

-- the size of both magazines of a CPU's cache, and the rounds in each
pub record CpuCacheState : Type 0 where
  pub size : ℕ
  pub loaded : List Tag
  pub previous : List Tag

-- loaded has at most `size` rounds, previous none or `size`
pub record IsShaped (c : CpuCacheState) : Type 0 where
  pub sized : IsSize c.size
  pub most : length c.loaded ≤ c.size
  pub whole : (length c.previous ≡ 0) ⊎ (length c.previous ≡ c.size)

-- both magazines are empty
pub record BothEmpty (c : CpuCacheState) : Type 0 where
  pub loaded_empty : c.loaded ≡ []
  pub previous_empty : c.previous ≡ []

-- both magazines are full
pub record BothFull (c : CpuCacheState) : Type 0 where
  pub loaded_full : length c.loaded ≡ c.size
  pub previous_full : length c.previous ≡ c.size

-- all rounds of a CPU's cache, the last to be taken at the end
abbrev pub cache_rounds : CpuCacheState → List Tag
cache_rounds c = c.previous ++ c.loaded

-- a cache of this one's size with these rounds in loaded and previous
abbrev pub with_rounds : List Tag → List Tag → CpuCacheState → CpuCacheState
with_rounds loaded previous c = record { size = c.size; loaded = loaded; previous = previous }

-- x is taken: the last round of loaded, or, where loaded has none, of previous
pub data Pops (x : Tag) (c c' : CpuCacheState) : Type 0 where
  Of_loaded : c.loaded ≡ c'.loaded ++ x ∷ [] → c' ≡ with_rounds c'.loaded c.previous c → Pops x c c'
  -- the two are exchanged first
  Of_previous : c.loaded ≡ [] → c.previous ≡ c'.loaded ++ x ∷ []
      → c' ≡ with_rounds c'.loaded [] c → Pops x c c'

-- x is given: onto loaded, or, where loaded is full, onto previous, which is empty
pub data Pushes (x : Tag) (c c' : CpuCacheState) : Type 0 where
  On_loaded : length c.loaded < c.size
      → c' ≡ with_rounds (c.loaded ++ x ∷ []) c.previous c → Pushes x c c'
  -- the two are exchanged first
  On_previous : length c.loaded ≡ c.size → c.previous ≡ []
      → c' ≡ with_rounds (x ∷ []) c.loaded c → Pushes x c c'

-- a cache of another size with all rounds in loaded, previous's below loaded's
abbrev pub after_change : ℕ → CpuCacheState → CpuCacheState
after_change m c = record { size = m; loaded = cache_rounds c; previous = [] }
