-- What a free tells.
use Rattle.std.proofs.Common.{◌≡◌, ℕ, List, [], ◌∷◌, Some, Result, Ok, Err, refl}
use Rattle.deed_core.specs.Tag.{Tag}
use Rattle.deed_core.specs.declared.segments.Route.{Route}
use Rattle.deed_core.specs.declared.segments.Route.TheVariants.{Direct, Cached}
use Rattle.arena_tree.specs.declared.levels.Level.{Level}
use Rattle.arena_tree.specs.declared.part_faults.ReturnFault.TheVariants as returning
use Rattle.arena_tree.specs.declared.part_faults.PartFault.{PartFault}
use Rattle.arena_tree.specs.declared.part_faults.GivenFault.{GivenFault}
use Rattle.arena_tree.specs.declared.part_faults.FreshFault.{FreshFault}
use Rattle.arena_tree.specs.declared.part_faults.ChangeFault.{ChangeFault}
use Rattle.slab_layer.specs.declared.faults.PutFault.{PutFault}
use Rattle.magazine_layer.specs.declared.faults.EmptyFault.{EmptyFault}
use Rattle.arena_tree.specs.declared.part_faults.PartFault.TheVariants as asking
use Rattle.arena_tree.specs.declared.part_faults.GivenFault.TheVariants as giving
use Rattle.arena_tree.specs.declared.part_faults.FreshFault.TheVariants as freshing
use Rattle.slab_layer.specs.declared.faults.PutFault.TheVariants as putting
use Rattle.magazine_layer.specs.declared.faults.EmptyFault.TheVariants as emptying
use Rattle.arena_tree.specs.Chains.{Node, IsChain, first_id}
use Rattle.arena_tree.specs.Events.{SlabPut, SwapEmpty, SwapFresh, Push, Change}
use Rattle.arena_tree.specs.Plans.{Plan, then}
use Rattle.arena_tree.specs.Climbs.{ReturnEnd, return_plan}
use Rattle.arena_tree.specs.Told.{AnsweredEvent, Tells, WasTakenIn, WasStopped, ReturnTold}
use Rattle.arena_tree.proofs.LawProofs.{tells_then, return_tells}
use Rattle.quantum_cache.specs.declared.placings.Placing.{Placing}
use Rattle.quantum_cache.specs.declared.placings.Placing.TheVariants.{Placed, Left, Stopped}
use Rattle.quantum_cache.specs.Frees.{or_next, on_push, push_round, on_change, push_changed, on_swap_fresh, push_fresh, on_swap_empty, push_exchanged, on_slab_put, put_chunk, free_cached, free_steps}
use Rattle.quantum_cache.specs.Told.{FreeTold, FreeTells}
use Rattle.quantum_cache.proofs.Tellings.{answered, After, tells_after, tells_so, just_refused, stopped_after, taken_in_after}

pub told_put : (nodes : List Node) (t : Tag) (told : List AnsweredEvent) → Tells nodes FreeTold (put_chunk t) told
unfolding put_chunk
told_put nodes t told = λ x s. ends x
  where
    ends : (x : Result (Unit {0}) (GivenFault (PutFault Tag) Tag)) → FreeTold (answered (SlabPut t) x ∷ told) (on_slab_put x)
    ends (Ok u) = refl
    ends (Err (giving.Refused (putting.NotMine b))) = refl
    ends (Err (giving.Refused (putting.AtHome b))) = refl
    ends (Err (giving.Stopped b)) = refl

pub told_return : (nodes : List Node) (chain : List Level) (t : Tag) (told : List AnsweredEvent) → IsChain nodes chain → first_id chain ≡ Some t.arena → Tells nodes FreeTold (return_plan chain t) told
told_return nodes chain t told is first = tells_so nodes (After ReturnTold told) FreeTold (return_plan chain t) told ends (tells_after nodes ReturnTold told (return_plan chain t) [] (return_tells nodes chain t is first))
  where
    ends : (now : List AnsweredEvent) (r : ReturnEnd) → After ReturnTold told now r → FreeTold now r
    ends now (Ok u) w = taken_in_after w.0 told now w.1 (w.2).1
    ends now (Err (returning.Stuck x)) w = just_refused x w.0 told now w.1 w.2
    ends now (Err (returning.Stopped x)) w = stopped_after w.0 told now w.1 w.2

-- a stage ends with a segment that was taken in, with one for the next, or by a stop
abbrev PlacingTold : List AnsweredEvent → Placing Tag → Type 0
PlacingTold now Placed = WasTakenIn now
PlacingTold now (Left t) = Unit {0}
PlacingTold now (Stopped t) = WasStopped now

told_push : (nodes : List Node) (arena cache : ℕ) (t : Tag) (told : List AnsweredEvent) → Tells nodes PlacingTold (push_round arena cache t) told
unfolding push_round
told_push nodes arena cache t told = λ x s. pushed x
  where
    pushed : (x : Result (Unit {0}) (GivenFault Tag Tag)) → PlacingTold (answered (Push arena cache t) x ∷ told) (on_push x)
    pushed (Ok u) = refl
    pushed (Err (giving.Refused b)) = tt
    pushed (Err (giving.Stopped b)) = refl

told_changed : (nodes : List Node) (arena cache m : ℕ) (t : Tag) (told : List AnsweredEvent) → Tells nodes PlacingTold (push_changed arena cache m t) told
unfolding push_changed
told_changed nodes arena cache m t told = λ x s. done x
  where
    done : (x : Result (Unit {0}) (PartFault ChangeFault)) → Tells nodes PlacingTold (on_change arena cache t x) (answered (Change arena cache m) x ∷ told)
    done (Ok u) = told_push nodes arena cache t (answered (Change arena cache m) (Ok u) ∷ told)
    done (Err (asking.Refused f)) = tt
    done (Err asking.Stopped) = refl

told_fresh : (nodes : List Node) (arena cache : ℕ) (t : Tag) (told : List AnsweredEvent) → Tells nodes PlacingTold (push_fresh arena cache t) told
unfolding push_fresh
told_fresh nodes arena cache t told = λ x s. done x
  where
    done : (x : Result (Unit {0}) (PartFault FreshFault)) → Tells nodes PlacingTold (on_swap_fresh arena cache t x) (answered (SwapFresh arena cache) x ∷ told)
    done (Ok u) = told_push nodes arena cache t (answered (SwapFresh arena cache) (Ok u) ∷ told)
    done (Err (asking.Refused (freshing.OldSize m))) = told_changed nodes arena cache m t (answered (SwapFresh arena cache) (Err (asking.Refused (freshing.OldSize m))) ∷ told)
    done (Err (asking.Refused freshing.NotFull)) = tt
    done (Err (asking.Refused freshing.NoMemory)) = tt
    done (Err asking.Stopped) = refl

told_exchanged : (nodes : List Node) (arena cache : ℕ) (t : Tag) (told : List AnsweredEvent) → Tells nodes PlacingTold (push_exchanged arena cache t) told
unfolding push_exchanged
told_exchanged nodes arena cache t told = λ x s. done x
  where
    done : (x : Result (Unit {0}) (PartFault EmptyFault)) → Tells nodes PlacingTold (on_swap_empty arena cache t x) (answered (SwapEmpty arena cache) x ∷ told)
    done (Ok u) = told_push nodes arena cache t (answered (SwapEmpty arena cache) (Ok u) ∷ told)
    done (Err (asking.Refused emptying.NoneEmpty)) = told_fresh nodes arena cache t (answered (SwapEmpty arena cache) (Err (asking.Refused emptying.NoneEmpty)) ∷ told)
    done (Err (asking.Refused (emptying.OldSize m))) = told_changed nodes arena cache m t (answered (SwapEmpty arena cache) (Err (asking.Refused (emptying.OldSize m))) ∷ told)
    done (Err asking.Stopped) = refl

told_or_next : (nodes : List Node) (p : Plan (Placing Tag)) (q : Tag → Plan ReturnEnd) (told : List AnsweredEvent) → Tells nodes PlacingTold p told → ((t : Tag) (now : List AnsweredEvent) → Tells nodes FreeTold (q t) now) → Tells nodes FreeTold (then p (or_next q)) told
told_or_next nodes p q told stage next = tells_then nodes PlacingTold FreeTold p (or_next q) told stage go
  where
    go : (a : Placing Tag) (now : List AnsweredEvent) → PlacingTold now a → Tells nodes FreeTold (or_next q a) now
    go Placed now w = w
    go (Left t) now w = next t now
    go (Stopped t) now w = w

told_by : (nodes : List Node) (route : Route) (chain : List Level) (t : Tag) → IsChain nodes chain → first_id chain ≡ Some t.arena → Tells nodes FreeTold (free_steps route chain t) []
unfolding free_cached
told_by nodes Direct chain t is first = told_return nodes chain t [] is first
told_by nodes (Cached cache) chain t is first =
    told_or_next nodes (push_round t.arena cache t) _ [] (told_push nodes t.arena cache t [])
    (λ x now. told_or_next nodes (push_exchanged t.arena cache x) _ now (told_exchanged nodes t.arena cache x now) (λ y later. told_put nodes y later))

pub free_tells : FreeTells
free_tells nodes chain t is first = told_by nodes t.route chain t is first
