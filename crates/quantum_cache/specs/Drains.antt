-- What empties a CPU's magazines, as lists of steps.
use Rattle.std.specs.Prelude.{ℕ, zero, suc, List, [], ◌∷◌, Option, Some, None, Result, Ok, Err}
use Rattle.std.specs.Prelude.{length}
use Rattle.deed_core.specs.Tag.{Tag}
use Rattle.arena_tree.specs.declared.levels.Level.{Level}
use Rattle.arena_tree.specs.declared.part_faults.ReturnFault.TheVariants as returning
use Rattle.arena_tree.specs.declared.part_faults.Stopped.{Stopped}
use Rattle.arena_tree.specs.declared.trees.TreeArena.{TreeArena}
use Rattle.arena_tree.specs.Events.{Pop}
use Rattle.arena_tree.specs.Plans.{Plan, Done, Ask, then}
use Rattle.arena_tree.specs.Climbs.{ReturnEnd}
use Rattle.arena_tree.specs.Tags.{tag_option}
use Rattle.quantum_cache.specs.declared.emptying_faults.EmptyingFault.{EmptyingFault}
use Rattle.quantum_cache.specs.declared.emptying_faults.EmptyingFault.TheVariants as emptying
use Rattle.quantum_cache.specs.Caches.{chain_in, over_caches, over_arenas}
use Rattle.quantum_cache.specs.Frees.{put_chunk}
use Rattle.quantum_cache.specs.Sizes.{caches_in}

-- what a segment that is put back ends with
abbrev pub EmptyingEnd : Type 0
EmptyingEnd = Result (Unit {0}) (EmptyingFault Tag)

abbrev pub tag_emptying_fault : {X : Type 0} → (X → Tag) → EmptyingFault X → EmptyingFault Tag
tag_emptying_fault f (emptying.Stuck x) = emptying.Stuck (f x)
tag_emptying_fault f (emptying.Stopped o) = emptying.Stopped (tag_option f o)

abbrev pub tag_emptying : {X : Type 0} → (X → Tag) → Result (Unit {0}) (EmptyingFault X)
    → EmptyingEnd
tag_emptying f (Ok u) = Ok u
tag_emptying f (Err e) = Err (tag_emptying_fault f e)

-- what one turn of a drain ends with: nothing, where there may be more rounds
abbrev pub Turn : Type 0
Turn = Option EmptyingEnd

abbrev pub tag_turn : {X : Type 0} → (X → Tag) → Option (Result (Unit {0}) (EmptyingFault X))
    → Turn
tag_turn f None = None
tag_turn f (Some r) = Some (tag_emptying f r)

-- a round that isn't taken back ends it
abbrev pub on_put_back : ReturnEnd → Turn
on_put_back (Ok u) = None
on_put_back (Err (returning.Stuck t)) = Some (Err (emptying.Stuck t))
on_put_back (Err (returning.Stopped t)) = Some (Err (emptying.Stopped (Some t)))

-- pop, then slab_put
abbrev pub on_drain_pop : Result (Option Tag) Stopped → Plan Turn
on_drain_pop (Ok None) = Done (Some (Ok tt))
on_drain_pop (Ok (Some t)) = then (put_chunk t) (λ r. Done (on_put_back r))
on_drain_pop (Err e) = Done (Some (Err (emptying.Stopped None)))

unfoldable pub drain_turn : ℕ → ℕ → Plan Turn
drain_turn arena cache = Ask (Pop arena cache) on_drain_pop

-- what a drain ends with; Err None where the turns ran out, which more turns than the magazines
-- have rounds never do
abbrev pub DrainEnd : Type 0
DrainEnd = Result (Unit {0}) (Option (EmptyingFault Tag))

abbrev pub drain_end : EmptyingEnd → DrainEnd
drain_end (Ok u) = Ok u
drain_end (Err f) = Err (Some f)

-- the rounds of one cache, in so many turns at most
abbrev pub on_turn : Plan DrainEnd → Turn → Plan DrainEnd
on_turn again None = again
on_turn again (Some r) = Done (drain_end r)

abbrev pub drain_cache_plan : ℕ → ℕ → ℕ → Plan DrainEnd
drain_cache_plan zero arena cache = Done (Err None)
drain_cache_plan (suc turns) arena cache =
    then (drain_turn arena cache) (on_turn (drain_cache_plan turns arena cache))

-- all caches of an arena
abbrev pub drain_arena_plan : ℕ → List Level → Plan DrainEnd
drain_arena_plan turns [] = Done (Ok tt)
drain_arena_plan turns (l ∷ up) =
    over_caches (λ cache _. drain_cache_plan turns l.id cache) (caches_in l) (caches_in l) tt

-- all arenas, the last first
abbrev pub drain_plan : ℕ → List TreeArena → Plan DrainEnd
drain_plan turns arenas =
    over_arenas (λ id _. drain_arena_plan turns (chain_in arenas id)) (length arenas) tt
