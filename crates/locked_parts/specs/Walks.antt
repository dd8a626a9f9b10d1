-- Walks over the depots of quantum caches, in order of arenas and of caches, whatever keeps them.
use Rattle.std.specs.Prelude.{◌≡◌, ◌⊎◌, ◌<◌, ◌||◌, ℕ, zero, suc, Bool, true, false, List, Option}
use Rattle.std.specs.Prelude.{Some, None}
use Rattle.arena_tree.specs.declared.trees.TreeArena.{TreeArena}
use Rattle.locked_parts.specs.Kinds.{count_of_caches}
use Rattle.locked_parts.specs.Owns.{cache_of}
use Rattle.locked_parts.specs.Saying.{IsMisplaced}
use Rattle.locked_parts.specs.States.{LockedPartsState}
use Rattle.locked_parts.specs.Words.{MisplacedState}
use Rattle.locked_parts.specs.declared.kinds.CacheKind.{CacheKind}
use Rattle.locked_parts.specs.declared.misplaced.PartName.TheVariants.{Depot}

-- an interval begins in the depots of the arena's first caches, so many, one after another
abbrev pub TicksCaches : {S : Type 0} → (S → ℕ → ℕ → S → Type 0) → (arena count : ℕ) → S → S
    → Type 0
TicksCaches ticks arena zero s t = t ≡ s
TicksCaches {S} ticks arena (suc n) s t = (m : S)
    × TicksCaches ticks arena n s m × ticks m arena (suc n) t

-- and in those of the first arenas, so many
abbrev pub TicksArenas : {S : Type 0} → (S → ℕ → ℕ → S → Type 0) → List TreeArena → ℕ → S → S
    → Type 0
TicksArenas ticks arenas zero s t = t ≡ s
TicksArenas {S} ticks arenas (suc n) s t = (m : S)
    × TicksArenas ticks arenas n s m × TicksCaches ticks n (count_of_caches arenas n) m t

-- an interval began in the depot of this cache, or that isn't where it was set up
abbrev pub SaysTick : LockedPartsState → (arena cache : ℕ) → Option CacheKind
    → Option MisplacedState → Type 0
SaysTick p arena cache said missing = (said ≡ Some (cache_of p.arenas arena cache))
    ⊎ ((m : MisplacedState) × (missing ≡ Some m) × IsMisplaced p None (Depot arena cache) m)

-- which depot was asked to keep magazines of which size, and whether it had smaller ones
pub record ResizeSaidState : Type 0 where
  pub kind : CacheKind
  pub size : ℕ
  pub rose : Bool

-- it was that of this cache, for this size
abbrev pub IsResizeFor : CacheKind → ℕ → ResizeSaidState → Type 0
IsResizeFor kind size said =
    (said.kind ≡ kind) × (said.size ≡ size) × (said.rose ≡ true → 3 < size)

-- the depot of this cache says so, or it isn't where it was set up
abbrev pub SaysResize : LockedPartsState → (arena cache size : ℕ) → Bool → Option ResizeSaidState
    → Option MisplacedState → Type 0
SaysResize p arena cache size rose said missing = ((one : ResizeSaidState) × (said ≡ Some one)
    × IsResizeFor (cache_of p.arenas arena cache) size one × (rose ≡ one.rose))
    ⊎ ((m : MisplacedState) × (missing ≡ Some m) × IsMisplaced p None (Depot arena cache) m
    × (rose ≡ false))

-- so many depots of an arena were asked for magazines of a size, and whether one of them had
-- smaller ones
pub record ResizedState : Type 0 where
  pub arena : ℕ
  pub depots : ℕ
  pub size : ℕ
  pub rose : Bool

-- those of all quantum caches of the arena were asked for this size
abbrev pub IsResizedFor : List TreeArena → (arena size : ℕ) → ResizedState → Type 0
IsResizedFor arenas arena size resized = (resized.arena ≡ arena)
    × (resized.depots ≡ count_of_caches arenas arena) × (resized.size ≡ size)

-- the depots of the arena's first caches, so many, are asked one after another to keep magazines of
-- this size, and whether one of them rose
abbrev pub ResizesCaches : {S : Type 0} → (S → ℕ → ℕ → ℕ → Bool → S → Type 0)
    → (arena size count : ℕ) → S → Bool → S → Type 0
ResizesCaches resizes arena size zero s rose t = (t ≡ s) × (rose ≡ false)
ResizesCaches {S} resizes arena size (suc n) s rose t = (m : S) × (before one : Bool)
    × ResizesCaches resizes arena size n s before m × resizes m arena (suc n) size one t
    × (rose ≡ before || one)
