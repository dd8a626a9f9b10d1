-- A free ends well.
use Rattle.std.proofs.Common.{◌≡◌, ℕ, List, Some, Result, Ok, Err, refl, ap, ◌∙◌}
use Rattle.deed_core.specs.Tag.{Tag}
use Rattle.deed_core.specs.declared.segments.Route.{Route}
use Rattle.deed_core.specs.declared.segments.Route.TheVariants.{Direct, Cached}
use Rattle.arena_tree.specs.declared.levels.Level.{Level}
use Rattle.arena_tree.specs.declared.trees.TreeArena.{TreeArena}
use Rattle.arena_tree.specs.declared.part_faults.PartFault.{PartFault}
use Rattle.arena_tree.specs.declared.part_faults.GivenFault.{GivenFault}
use Rattle.arena_tree.specs.declared.part_faults.FreshFault.{FreshFault}
use Rattle.arena_tree.specs.declared.part_faults.ChangeFault.{ChangeFault}
use Rattle.slab_layer.specs.declared.faults.PutFault.{PutFault}
use Rattle.magazine_layer.specs.declared.faults.EmptyFault.{EmptyFault}
use Rattle.arena_tree.specs.declared.part_faults.PartFault.TheVariants as asking
use Rattle.arena_tree.specs.declared.part_faults.GivenFault.TheVariants as giving
use Rattle.arena_tree.specs.declared.part_faults.FreshFault.TheVariants as freshing
use Rattle.magazine_layer.specs.declared.faults.EmptyFault.TheVariants as emptying
use Rattle.arena_tree.specs.Chains.{IsChain, first_id}
use Rattle.arena_tree.specs.Climbs.{ReturnEnd}
use Rattle.arena_tree.specs.Events.{Push, SlabPut}
use Rattle.arena_tree.specs.Plans.{Plan, then}
use Rattle.arena_tree.specs.Sound.{Sound}
use Rattle.arena_tree.specs.Trees.{nodes_of}
use Rattle.quantum_cache.specs.declared.placings.Placing.{Placing}
use Rattle.quantum_cache.specs.declared.placings.Placing.TheVariants.{Placed, Left, Stopped}
use Rattle.quantum_cache.specs.Frees.{or_next, on_push, push_round, on_change, push_changed, on_swap_fresh, push_fresh, on_swap_empty, push_exchanged, on_slab_put, put_chunk, free_cached, free_steps, free_plan}
use Rattle.local_calls.specs.Asked.{DoesWell, PushesWell, AsksWell, EndsWell}
use Rattle.local_calls.proofs.ClimbWells.{ends_then, well_return}

-- what is left of a chunk is a chunk
abbrev PlacesWell : Placing Tag → Type 0
PlacesWell Placed = Unit {0}
PlacesWell (Left t) = (k : ℕ) × (t.route ≡ Cached k)
PlacesWell (Stopped t) = ⊥

module _ (arenas : List TreeArena) where
  pub well_put : (t : Tag) (k : ℕ) → t.route ≡ Cached k → EndsWell arenas (λ (r : ReturnEnd). DoesWell r) (put_chunk t)
  unfolding put_chunk
  well_put t k cached = ((k, cached), done)
    where
      done : (x : Result (Unit {0}) (GivenFault (PutFault Tag) Tag)) → Sound (nodes_of arenas) (SlabPut t) x → DoesWell x → DoesWell (on_slab_put x)
      done (Ok u) s well = tt
      done (Err f) s well = absurd well

  module _ (arena cache : ℕ) (t : Tag) (k : ℕ) (cached : t.route ≡ Cached k) where
    well_push : EndsWell arenas PlacesWell (push_round arena cache t)
    unfolding push_round
    well_push = (tt, done)
      where
        done : (x : Result (Unit {0}) (GivenFault Tag Tag)) → Sound (nodes_of arenas) (Push arena cache t) x → PushesWell x → PlacesWell (on_push x)
        done (Ok u) s well = tt
        done (Err (giving.Refused x)) s well = (k, ap (λ (z : Tag). z.route) s ∙ cached)
        done (Err (giving.Stopped x)) s well = absurd well

    well_changed : (m : ℕ) → EndsWell arenas PlacesWell (push_changed arena cache m t)
    unfolding push_changed
    well_changed m = (tt, done)
      where
        done : (x : Result (Unit {0}) (PartFault ChangeFault)) → Unit {0} → AsksWell x → EndsWell arenas PlacesWell (on_change arena cache t x)
        done (Ok u) s well = well_push
        done (Err (asking.Refused f)) s well = (k, cached)
        done (Err asking.Stopped) s well = absurd well

    well_fresh : EndsWell arenas PlacesWell (push_fresh arena cache t)
    unfolding push_fresh
    well_fresh = (tt, done)
      where
        done : (x : Result (Unit {0}) (PartFault FreshFault)) → Unit {0} → AsksWell x → EndsWell arenas PlacesWell (on_swap_fresh arena cache t x)
        done (Ok u) s well = well_push
        done (Err (asking.Refused (freshing.OldSize m))) s well = well_changed m
        done (Err (asking.Refused freshing.NotFull)) s well = (k, cached)
        done (Err (asking.Refused freshing.NoMemory)) s well = (k, cached)
        done (Err asking.Stopped) s well = absurd well

    well_exchanged : EndsWell arenas PlacesWell (push_exchanged arena cache t)
    unfolding push_exchanged
    well_exchanged = (tt, done)
      where
        done : (x : Result (Unit {0}) (PartFault EmptyFault)) → Unit {0} → AsksWell x → EndsWell arenas PlacesWell (on_swap_empty arena cache t x)
        done (Ok u) s well = well_push
        done (Err (asking.Refused emptying.NoneEmpty)) s well = well_fresh
        done (Err (asking.Refused (emptying.OldSize m))) s well = well_changed m
        done (Err asking.Stopped) s well = absurd well

  well_or_next : (p : Plan (Placing Tag)) (q : Tag → Plan ReturnEnd) → EndsWell arenas PlacesWell p → ((t : Tag) (k : ℕ) → t.route ≡ Cached k → EndsWell arenas (λ (r : ReturnEnd). DoesWell r) (q t)) → EndsWell arenas (λ (r : ReturnEnd). DoesWell r) (then p (or_next q))
  well_or_next p q w next = ends_then arenas PlacesWell (λ (r : ReturnEnd). DoesWell r) p (or_next q) w go
    where
      go : (a : Placing Tag) → PlacesWell a → EndsWell arenas (λ (r : ReturnEnd). DoesWell r) (or_next q a)
      go Placed w' = tt
      go (Left t) w' = next t w'.0 w'.1
      go (Stopped t) w' = absurd w'

  well_by : (route : Route) (chain : List Level) (t : Tag) → t.route ≡ route → IsChain (nodes_of arenas) chain → first_id chain ≡ Some t.arena → EndsWell arenas (λ (r : ReturnEnd). DoesWell r) (free_steps route chain t)
  unfolding free_cached
  well_by Direct chain t by is first = well_return arenas chain t is first by
  well_by (Cached cache) chain t by is first =
      well_or_next (push_round t.arena cache t) _ (well_push t.arena cache t cache by) (λ x k e. well_or_next (push_exchanged t.arena cache x) _ (well_exchanged t.arena cache x k e) well_put)

  pub well_free : (chain : List Level) (t : Tag) → IsChain (nodes_of arenas) chain → first_id chain ≡ Some t.arena → EndsWell arenas (λ (r : ReturnEnd). DoesWell r) (free_plan chain t)
  well_free chain t is first = well_by t.route chain t refl is first
