-- Reaping, as lists of steps.
use Rattle.std.specs.Prelude.{ℕ, ◌+◌, ◌*◌, ◌^◌, ◌<◌, zero, suc, List, [], ◌∷◌, Option, Some, None}
use Rattle.std.specs.Prelude.{Result, Ok, Err, length}
use Rattle.deed_core.specs.Tag.{Tag}
use Rattle.arena_tree.specs.declared.levels.Level.{Level}
use Rattle.arena_tree.specs.declared.part_faults.ReturnFault.TheVariants as returning
use Rattle.arena_tree.specs.declared.part_faults.Stopped.{Stopped}
use Rattle.arena_tree.specs.declared.trees.TreeArena.{TreeArena}
use Rattle.arena_tree.specs.Events.{DepotReap, SlabReap}
use Rattle.arena_tree.specs.Plans.{Plan, Done, Ask, then}
use Rattle.arena_tree.specs.Climbs.{ReturnEnd, return_plan}
use Rattle.quantum_cache.specs.declared.emptying_faults.EmptyingFault.{EmptyingFault}
use Rattle.quantum_cache.specs.declared.emptying_faults.EmptyingFault.TheVariants as emptying
use Rattle.quantum_cache.specs.declared.reaps.Reaping.{Reaping}
use Rattle.quantum_cache.specs.declared.reaps.ReapFault.{ReapFault}
use Rattle.quantum_cache.specs.Caches.{chain_in, if_ok, over_caches, over_arenas}
use Rattle.quantum_cache.specs.Drains.{tag_emptying_fault}
use Rattle.quantum_cache.specs.Frees.{put_chunk}
use Rattle.quantum_cache.specs.Sizes.{caches_in}

-- as many slabs as may still be reaped have room in the sum of their units
abbrev pub CanCount : Reaping → Type 0
CanCount r = r.units + r.left * 2 ^ 64 < 2 ^ 128

-- what one look came to: the units of a slab, or 0 for a round; nothing where there was none
abbrev pub LookEnd : Type 0
LookEnd = Result (Option ℕ) (EmptyingFault Tag)

abbrev pub tag_look : {X : Type 0} → (X → Tag) → Result (Option ℕ) (EmptyingFault X) → LookEnd
tag_look f (Ok o) = Ok o
tag_look f (Err e) = Err (tag_emptying_fault f e)

-- what a reaping ends with
abbrev pub ReapEnd : Type 0
ReapEnd = Result Reaping (ReapFault Tag)

abbrev pub tag_reap : {X : Type 0} → (X → Tag) → Result Reaping (ReapFault X) → ReapEnd
tag_reap f (Ok r) = Ok r
tag_reap f (Err e) = Err (record { reaping = e.reaping; cause = tag_emptying_fault f e.cause })

-- after what was reaped went back
abbrev pub on_return : ℕ → ReturnEnd → LookEnd
on_return units (Ok u) = Ok (Some units)
on_return units (Err (returning.Stuck t)) = Err (emptying.Stuck t)
on_return units (Err (returning.Stopped t)) = Err (emptying.Stopped (Some t))

-- depot_reap, then slab_put
abbrev pub on_depot_reap : Result (Option Tag) Stopped → Plan LookEnd
on_depot_reap (Ok None) = Done (Ok None)
on_depot_reap (Ok (Some t)) = then (put_chunk t) (λ r. Done (on_return 0 r))
on_depot_reap (Err e) = Done (Err (emptying.Stopped None))

unfoldable pub reap_round : ℕ → ℕ → Plan LookEnd
reap_round arena cache = Ask (DepotReap arena cache) on_depot_reap

-- slab_reap, then a hand back
abbrev pub on_slab_reap : List Level → Result (Option Tag) Stopped → Plan LookEnd
on_slab_reap chain (Ok None) = Done (Ok None)
on_slab_reap chain (Ok (Some t)) =
    then (return_plan chain t) (λ r. Done (on_return t.holding.range.len r))
on_slab_reap chain (Err e) = Done (Err (emptying.Stopped None))

unfoldable pub reap_slab : List Level → ℕ → ℕ → Plan LookEnd
reap_slab chain arena cache = Ask (SlabReap arena cache) (on_slab_reap chain)

-- one look after another, until one finds nothing, or the limit is reached; the units add up
abbrev pub on_look : (ℕ → Plan ReapEnd) → ℕ → ℕ → LookEnd → Plan ReapEnd
on_look again left units (Ok (Some more)) = again (units + more)
on_look again left units (Ok None) = Done (Ok (record { left = left; units = units }))
on_look again left units (Err f) =
    Done (Err (record { reaping = record { left = left; units = units }; cause = f }))

abbrev pub looks_in_turn : Plan LookEnd → ℕ → ℕ → Plan ReapEnd
looks_in_turn look zero units = Done (Ok (record { left = 0; units = units }))
looks_in_turn look (suc left) units = then look (on_look (looks_in_turn look left) left units)

abbrev pub reap_steps : Plan LookEnd → Reaping → Plan ReapEnd
reap_steps look r = looks_in_turn look r.left r.units

-- one cache: rounds of its depot, and then its slabs
unfoldable pub reap_cache : List Level → ℕ → ℕ → Reaping → Plan ReapEnd
reap_cache chain arena cache r =
    then (reap_steps (reap_round arena cache) r) (if_ok (reap_steps (reap_slab chain arena cache)))

-- all caches of an arena, the first of this chain
abbrev pub reap_arena_plan : List Level → Reaping → Plan ReapEnd
reap_arena_plan [] r = Done (Ok r)
reap_arena_plan (l ∷ up) r =
    over_caches (reap_cache (l ∷ up) l.id) (caches_in l) (caches_in l) r

-- all arenas, the last first
abbrev pub reap_plan : List TreeArena → ℕ → Plan ReapEnd
reap_plan arenas limit = over_arenas (λ id. reap_arena_plan (chain_in arenas id)) (length arenas)
    (record { left = limit; units = 0 })
