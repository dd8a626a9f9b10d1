-- Tests of segments and deeds: which arena and which route, and one of them alone.
use Rattle.std.specs.Prelude.{ℕ, Bool, true, false, ◌&&◌, ◌==◌, not}
use Rattle.deed_core.specs.Holding.{Holding}
use Rattle.deed_core.specs.Tag.{Tag}
use Rattle.deed_core.specs.declared.segments.Route.{Route}
use Rattle.deed_core.specs.declared.segments.Route.TheVariants.{Direct, Cached}

-- carved from the arena
abbrev pub is_direct : Route → Bool
is_direct Direct = true
is_direct (Cached k) = false

-- from the quantum cache with this number
abbrev pub is_cached_by : ℕ → Route → Bool
is_cached_by k Direct = false
is_cached_by k (Cached n) = n == k

-- the segment is of this arena
abbrev pub is_of_arena : ℕ → Tag → Bool
is_of_arena arena t = t.arena == arena

-- the segment was carved from its arena
abbrev pub came_direct : Tag → Bool
came_direct t = is_direct t.route

-- the segment came from a quantum cache
abbrev pub came_cached : Tag → Bool
came_cached t = not (is_direct t.route)

-- the segment came from this arena's quantum cache with this number
abbrev pub is_of_cache : ℕ → ℕ → Tag → Bool
is_of_cache arena k t = is_of_arena arena t && is_cached_by k t.route

-- the same route
abbrev pub equal_route : Route → Route → Bool
equal_route Direct r = is_direct r
equal_route (Cached k) r = is_cached_by k r

-- a deed of the same root, base and length
abbrev pub equal_held : Holding → Holding → Bool
equal_held h x =
    (x.root == h.root) && ((x.range.base == h.range.base) && (x.range.len == h.range.len))

-- a segment of the same arena, route and deed
abbrev pub equal_tag : Tag → Tag → Bool
equal_tag t x =
    (x.arena == t.arena) && (equal_route t.route x.route && equal_held t.holding x.holding)
