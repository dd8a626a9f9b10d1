-- Which cache serves a size, and how many caches an arena has.
use Rattle.std.specs.Prelude.{ℕ, ◌/◌, ◌&&◌, nat_lt, nat_le, Bool, Option, Some, None}
use Rattle.std.specs.Prelude.{if◌then◌else◌}
use Rattle.deed_core.specs.Request.{rounding_of}
use Rattle.arena_tree.specs.Trees.{caches_up_to}
use Rattle.arena_tree.specs.declared.levels.Level.{Level}

-- how many quanta a size takes
abbrev pub quanta_for : Level → ℕ → ℕ
quanta_for l size = rounding_of l.quantum size / l.quantum

-- the size in whole quanta is cached: it is some, no more than the arena caches, and of no more
-- quanta than a cache has for its number
abbrev pub is_cached : Level → ℕ → Bool
is_cached l size = nat_lt 0 size && nat_le (rounding_of l.quantum size) l.qcache_max
    && nat_lt (quanta_for l size) 256

-- the number of the cache for a size: its chunks have as many quanta
abbrev pub cache_for : Level → ℕ → Option ℕ
cache_for l size = if is_cached l size then Some (quanta_for l size) else None

-- how many caches an arena has
abbrev pub caches_in : Level → ℕ
caches_in l = caches_up_to l.quantum l.qcache_max
