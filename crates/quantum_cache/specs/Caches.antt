-- The chains of a tree, and lists of steps that go through all caches.
use Rattle.std.specs.Prelude.{ℕ, ◌-◌, zero, suc, List, [], ◌∷◌, Option, Some, None, Result, Ok, Err}
use Rattle.std.specs.Prelude.{slice_get}
use Rattle.arena_tree.specs.declared.levels.Level.{Level}
use Rattle.arena_tree.specs.declared.limits.TheConstants.{LONGEST_CHAIN}
use Rattle.arena_tree.specs.declared.trees.TreeArena.{TreeArena}
use Rattle.arena_tree.specs.Plans.{Plan, Done, then}
use Rattle.arena_tree.specs.Trees.{level_of}

abbrev pub rest_of_chain : (Option ℕ → List Level) → ℕ → Option TreeArena → List Level
rest_of_chain again id None = []
rest_of_chain again id (Some x) = level_of id x ∷ again x.source

-- the arena of this number, its source, that one's source, and so on, so many at most
abbrev pub chain_up : ℕ → List TreeArena → Option ℕ → List Level
chain_up zero arenas o = []
chain_up (suc n) arenas None = []
chain_up (suc n) arenas (Some id) = rest_of_chain (chain_up n arenas) id (slice_get arenas id)

-- an arena's chain
abbrev pub chain_in : List TreeArena → ℕ → List Level
chain_in arenas id = chain_up LONGEST_CHAIN arenas (Some id)

-- what comes next goes on with what came before, but not after a fault
abbrev pub if_ok : {X F : Type 0} → (X → Plan (Result X F)) → Result X F → Plan (Result X F)
if_ok next (Ok x) = next x
if_ok next (Err f) = Done (Err f)

-- the caches of an arena one after another, from the least size; so many of all are left
abbrev pub over_caches : {X F : Type 0} → (ℕ → X → Plan (Result X F)) → (all left : ℕ) → X
    → Plan (Result X F)
over_caches each all zero x = Done (Ok x)
over_caches each all (suc left) x = then (each (all - left) x) (if_ok (over_caches each all left))

-- the arenas below this number one after another, the last first
abbrev pub over_arenas : {X F : Type 0} → (ℕ → X → Plan (Result X F)) → ℕ → X
    → Plan (Result X F)
over_arenas each zero x = Done (Ok x)
over_arenas each (suc id) x = then (each id x) (if_ok (over_arenas each id))
