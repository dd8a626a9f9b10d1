-- A segment goes back, as a list of steps.
use Rattle.std.specs.Prelude.{nat_lt, if◌then◌else◌, List, length, Err}
use Rattle.deed_core.specs.Tag.{Tag}
use Rattle.arena_tree.specs.Climbs.{ReturnEnd}
use Rattle.arena_tree.specs.Plans.{Plan, Done}
use Rattle.arena_tree.specs.declared.part_faults.ReturnFault.TheVariants as returning
use Rattle.arena_tree.specs.declared.trees.TreeArena.{TreeArena}
use Rattle.quantum_cache.specs.Caches.{chain_in}
use Rattle.quantum_cache.specs.Frees.{free_plan}

-- to its arena, by the caches; one of no arena of the tree isn't taken
abbrev pub place_plan : List TreeArena → Tag → Plan ReturnEnd
place_plan arenas t =
    if nat_lt t.arena (length arenas) then free_plan (chain_in arenas t.arena) t
    else Done (Err (returning.Stuck t))
