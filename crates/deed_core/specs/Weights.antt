-- Lists whose order means nothing, compared however their members are weighed. With the weight 1 at
-- one value they count how often it stands, with the covering of a unit how often that unit is
-- covered, with the length how many units there are.
use Rattle.std.specs.Prelude.{◌≡◌, ℕ, ◌+◌, Bool, List, if◌then◌else◌, sum_by}
use Rattle.deed_core.specs.Holding.{Holding}
use Rattle.deed_core.specs.Tag.{Tag}
use Rattle.deed_core.specs.Selections.{is_of_arena, came_direct, came_cached, is_of_cache}
use Rattle.deed_core.specs.Selections.{equal_held, equal_tag}

-- the two lists have the same members, each as often
abbrev pub WeighSame : {X : Type 0} → List X → List X → Type 0
WeighSame {X} xs ys = (f : X → ℕ) → sum_by f xs ≡ sum_by f ys

-- the new list has what the old one has, and one x more
abbrev pub Gains : {X : Type 0} → List X → List X → X → Type 0
Gains {X} old new x = (f : X → ℕ) → sum_by f new ≡ sum_by f old + f x

-- the old list has what the new one has, and one x more
abbrev pub Loses : {X : Type 0} → List X → List X → X → Type 0
Loses {X} old new x = (f : X → ℕ) → sum_by f old ≡ sum_by f new + f x

-- a weight, restricted to the members that pass a test
abbrev pub weight_where : {X : Type 0} → (X → Bool) → (X → ℕ) → X → ℕ
weight_where test f x = if test x then f x else 0

-- the weight of the segments of this arena alone
abbrev pub of_arena : ℕ → (Tag → ℕ) → Tag → ℕ
of_arena arena f = weight_where (is_of_arena arena) f

-- of those that were carved from their arenas
abbrev pub of_direct : (Tag → ℕ) → Tag → ℕ
of_direct f = weight_where came_direct f

-- of those that came from quantum caches
abbrev pub of_cached : (Tag → ℕ) → Tag → ℕ
of_cached f = weight_where came_cached f

-- of those that came from this arena's quantum cache with this number
abbrev pub of_cache : ℕ → ℕ → (Tag → ℕ) → Tag → ℕ
of_cache arena k f = weight_where (is_of_cache arena k) f

-- 1 at this segment and 0 at any other: the weight that counts how often it is in a list
abbrev pub one_at : Tag → Tag → ℕ
one_at t x = if equal_tag t x then 1 else 0

-- the same of a deed
abbrev pub one_at_held : Holding → Holding → ℕ
one_at_held h x = if equal_held h x then 1 else 0
