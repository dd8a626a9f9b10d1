-- Free, as lists of steps.
use Rattle.std.specs.Prelude.{ℕ, List, [], ◌∷◌, Result, Ok, Err}
use Rattle.deed_core.specs.Tag.{Tag}
use Rattle.deed_core.specs.declared.segments.Route.{Route}
use Rattle.deed_core.specs.declared.segments.Route.TheVariants.{Direct, Cached}
use Rattle.arena_tree.specs.declared.levels.Level.{Level}
use Rattle.arena_tree.specs.declared.part_faults.PartFault.{PartFault}
use Rattle.arena_tree.specs.declared.part_faults.GivenFault.{GivenFault}
use Rattle.arena_tree.specs.declared.part_faults.FreshFault.{FreshFault}
use Rattle.arena_tree.specs.declared.part_faults.ChangeFault.{ChangeFault}
use Rattle.slab_layer.specs.declared.faults.PutFault.{PutFault}
use Rattle.magazine_layer.specs.declared.faults.EmptyFault.{EmptyFault}
use Rattle.arena_tree.specs.declared.part_faults.PartFault.TheVariants as asking
use Rattle.arena_tree.specs.declared.part_faults.GivenFault.TheVariants as giving
use Rattle.arena_tree.specs.declared.part_faults.FreshFault.TheVariants as freshing
use Rattle.slab_layer.specs.declared.faults.PutFault.TheVariants as putting
use Rattle.magazine_layer.specs.declared.faults.EmptyFault.TheVariants as emptying
use Rattle.arena_tree.specs.declared.part_faults.ReturnFault.TheVariants as returning
use Rattle.arena_tree.specs.Events.{SlabPut, SwapEmpty, SwapFresh, Push, Change}
use Rattle.arena_tree.specs.Plans.{Plan, Done, Ask, then}
use Rattle.arena_tree.specs.Climbs.{ReturnEnd, return_plan}
use Rattle.quantum_cache.specs.declared.placings.Placing.{Placing}
use Rattle.quantum_cache.specs.declared.placings.Placing.TheVariants.{Placed, Left, Stopped}

abbrev pub tag_placing : {X : Type 0} → (X → Tag) → Placing X → Placing Tag
tag_placing f Placed = Placed
tag_placing f (Left x) = Left (f x)
tag_placing f (Stopped x) = Stopped (f x)

abbrev pub or_next : (Tag → Plan ReturnEnd) → Placing Tag → Plan ReturnEnd
or_next last Placed = Done (Ok tt)
or_next last (Stopped t) = Done (Err (returning.Stopped t))
or_next last (Left t) = last t

-- the stages one after another, up to the first that takes the segment; then the last
abbrev pub first_that_takes : List (Tag → Plan (Placing Tag)) → (Tag → Plan ReturnEnd) → Tag
    → Plan ReturnEnd
first_that_takes [] last t = last t
first_that_takes (p ∷ ps) last t = then (p t) (or_next (first_that_takes ps last))

-- 1. push
abbrev pub on_push : Result (Unit {0}) (GivenFault Tag Tag) → Placing Tag
on_push (Ok u) = Placed
on_push (Err (giving.Refused t)) = Left t
on_push (Err (giving.Stopped t)) = Stopped t

unfoldable pub push_round : ℕ → ℕ → Tag → Plan (Placing Tag)
push_round arena cache t = Ask (Push arena cache t) (λ a. Done (on_push a))

-- on OldSize two magazines are made, changed to, and pushed into; where that can't be, the next
-- stage is tried
abbrev pub on_change : ℕ → ℕ → Tag → Result (Unit {0}) (PartFault ChangeFault)
    → Plan (Placing Tag)
on_change arena cache t (Ok u) = push_round arena cache t
on_change arena cache t (Err (asking.Refused f)) = Done (Left t)
on_change arena cache t (Err asking.Stopped) = Done (Stopped t)

unfoldable pub push_changed : ℕ → ℕ → ℕ → Tag → Plan (Placing Tag)
push_changed arena cache size t = Ask (Change arena cache size) (on_change arena cache t)

-- on NoneEmpty a magazine is made, the full one is put for it, and it is pushed into
abbrev pub on_swap_fresh : ℕ → ℕ → Tag → Result (Unit {0}) (PartFault FreshFault)
    → Plan (Placing Tag)
on_swap_fresh arena cache t (Ok u) = push_round arena cache t
on_swap_fresh arena cache t (Err (asking.Refused (freshing.OldSize size))) =
    push_changed arena cache size t
on_swap_fresh arena cache t (Err (asking.Refused f)) = Done (Left t)
on_swap_fresh arena cache t (Err asking.Stopped) = Done (Stopped t)

unfoldable pub push_fresh : ℕ → ℕ → Tag → Plan (Placing Tag)
push_fresh arena cache t = Ask (SwapFresh arena cache) (on_swap_fresh arena cache t)

-- 2. swap_empty, then push
abbrev pub on_swap_empty : ℕ → ℕ → Tag → Result (Unit {0}) (PartFault EmptyFault)
    → Plan (Placing Tag)
on_swap_empty arena cache t (Ok u) = push_round arena cache t
on_swap_empty arena cache t (Err (asking.Refused emptying.NoneEmpty)) = push_fresh arena cache t
on_swap_empty arena cache t (Err (asking.Refused (emptying.OldSize size))) =
    push_changed arena cache size t
on_swap_empty arena cache t (Err asking.Stopped) = Done (Stopped t)

unfoldable pub push_exchanged : ℕ → ℕ → Tag → Plan (Placing Tag)
push_exchanged arena cache t = Ask (SwapEmpty arena cache) (on_swap_empty arena cache t)

-- 3. slab_put
abbrev pub on_slab_put : Result (Unit {0}) (GivenFault (PutFault Tag) Tag) → ReturnEnd
on_slab_put (Ok u) = Ok tt
on_slab_put (Err (giving.Refused (putting.NotMine t))) = Err (returning.Stuck t)
on_slab_put (Err (giving.Refused (putting.AtHome t))) = Err (returning.Stuck t)
on_slab_put (Err (giving.Stopped t)) = Err (returning.Stopped t)

unfoldable pub put_chunk : Tag → Plan ReturnEnd
put_chunk t = Ask (SlabPut t) (λ a. Done (on_slab_put a))

-- the stages in their order
unfoldable pub free_cached : ℕ → ℕ → Tag → Plan ReturnEnd
free_cached arena cache t =
    first_that_takes (push_round arena cache ∷ push_exchanged arena cache ∷ []) put_chunk t

abbrev pub free_steps : Route → List Level → Tag → Plan ReturnEnd
free_steps Direct chain t = return_plan chain t
free_steps (Cached cache) chain t = free_cached t.arena cache t

-- a round goes into the magazines or its slab, what was carved to its arena
abbrev pub free_plan : List Level → Tag → Plan ReturnEnd
free_plan chain t = free_steps t.route chain t
