-- What a free leaves in the hand.
use Rattle.std.proofs.Common.{◌≡◌, ℕ, List, Option, Some, None, Result, Ok, Err, refl}
use Rattle.deed_core.specs.Tag.{Tag}
use Rattle.deed_core.specs.declared.segments.Route.{Route}
use Rattle.deed_core.specs.declared.segments.Route.TheVariants.{Direct, Cached}
use Rattle.arena_tree.specs.declared.levels.Level.{Level}
use Rattle.arena_tree.specs.declared.part_faults.PartFault.{PartFault}
use Rattle.arena_tree.specs.declared.part_faults.GivenFault.{GivenFault}
use Rattle.arena_tree.specs.declared.part_faults.FreshFault.{FreshFault}
use Rattle.arena_tree.specs.declared.part_faults.ChangeFault.{ChangeFault}
use Rattle.slab_layer.specs.declared.faults.PutFault.{PutFault}
use Rattle.magazine_layer.specs.declared.faults.EmptyFault.{EmptyFault}
use Rattle.arena_tree.specs.declared.part_faults.PartFault.TheVariants as asking
use Rattle.arena_tree.specs.declared.part_faults.GivenFault.TheVariants as giving
use Rattle.arena_tree.specs.declared.part_faults.FreshFault.TheVariants as freshing
use Rattle.slab_layer.specs.declared.faults.PutFault.TheVariants as putting
use Rattle.magazine_layer.specs.declared.faults.EmptyFault.TheVariants as emptying
use Rattle.arena_tree.specs.Events.{hand_of_fault, segment_of_push, segment_of_put}
use Rattle.arena_tree.specs.Plans.{Plan, then, Handles}
use Rattle.arena_tree.specs.Climbs.{ReturnEnd, return_left}
use Rattle.arena_tree.proofs.LawProofs.{handles_then, handles_return}
use Rattle.quantum_cache.specs.declared.placings.Placing.{Placing}
use Rattle.quantum_cache.specs.declared.placings.Placing.TheVariants.{Placed, Left, Stopped}
use Rattle.quantum_cache.specs.Frees.{or_next, on_push, push_round, on_change, push_changed, on_swap_fresh, push_fresh, on_swap_empty, push_exchanged, on_slab_put, put_chunk, free_cached, free_steps}
use Rattle.quantum_cache.specs.Laws.{FreeHandles}

abbrev placing_left : Placing Tag → Option Tag
placing_left Placed = None
placing_left (Left t) = Some t
placing_left (Stopped t) = Some t

handles_or_next : (p : Plan (Placing Tag)) (q : Tag → Plan ReturnEnd) (h : Option Tag) → Handles placing_left p h → ((t : Tag) → Handles return_left (q t) (Some t)) → Handles return_left (then p (or_next q)) h
handles_or_next p q h w next = handles_then placing_left return_left p (or_next q) h w go
  where
    go : (a : Placing Tag) → Handles return_left (or_next q a) (placing_left a)
    go Placed = refl
    go (Left t) = next t
    go (Stopped t) = refl

handles_push : (arena cache : ℕ) (t : Tag) → Handles placing_left (push_round arena cache t) (Some t)
unfolding push_round
handles_push arena cache t = (refl, done)
  where
    done : (x : Result (Unit {0}) (GivenFault Tag Tag)) → hand_of_fault (λ f. Some (segment_of_push f)) x ≡ placing_left (on_push x)
    done (Ok u) = refl
    done (Err (giving.Refused x)) = refl
    done (Err (giving.Stopped x)) = refl

handles_changed : (arena cache m : ℕ) (t : Tag) → Handles placing_left (push_changed arena cache m t) (Some t)
unfolding push_changed
handles_changed arena cache m t = (tt, done)
  where
    done : (x : Result (Unit {0}) (PartFault ChangeFault)) → Handles placing_left (on_change arena cache t x) (Some t)
    done (Ok u) = handles_push arena cache t
    done (Err (asking.Refused f)) = refl
    done (Err asking.Stopped) = refl

handles_fresh : (arena cache : ℕ) (t : Tag) → Handles placing_left (push_fresh arena cache t) (Some t)
unfolding push_fresh
handles_fresh arena cache t = (tt, done)
  where
    done : (x : Result (Unit {0}) (PartFault FreshFault)) → Handles placing_left (on_swap_fresh arena cache t x) (Some t)
    done (Ok u) = handles_push arena cache t
    done (Err (asking.Refused (freshing.OldSize m))) = handles_changed arena cache m t
    done (Err (asking.Refused freshing.NotFull)) = refl
    done (Err (asking.Refused freshing.NoMemory)) = refl
    done (Err asking.Stopped) = refl

handles_exchanged : (arena cache : ℕ) (t : Tag) → Handles placing_left (push_exchanged arena cache t) (Some t)
unfolding push_exchanged
handles_exchanged arena cache t = (tt, done)
  where
    done : (x : Result (Unit {0}) (PartFault EmptyFault)) → Handles placing_left (on_swap_empty arena cache t x) (Some t)
    done (Ok u) = handles_push arena cache t
    done (Err (asking.Refused emptying.NoneEmpty)) = handles_fresh arena cache t
    done (Err (asking.Refused (emptying.OldSize m))) = handles_changed arena cache m t
    done (Err asking.Stopped) = refl

pub handles_put : (t : Tag) → Handles return_left (put_chunk t) (Some t)
unfolding put_chunk
handles_put t = (refl, done)
  where
    done : (x : Result (Unit {0}) (GivenFault (PutFault Tag) Tag)) → hand_of_fault (λ f. Some (segment_of_put f)) x ≡ return_left (on_slab_put x)
    done (Ok u) = refl
    done (Err (giving.Refused (putting.NotMine x))) = refl
    done (Err (giving.Refused (putting.AtHome x))) = refl
    done (Err (giving.Stopped x)) = refl

handles_by : (route : Route) (chain : List Level) (t : Tag) → Handles return_left (free_steps route chain t) (Some t)
unfolding free_cached
handles_by Direct chain t = handles_return chain t
handles_by (Cached cache) chain t = handles_or_next (push_round t.arena cache t) _ (Some t) (handles_push t.arena cache t) (λ x. handles_or_next (push_exchanged t.arena cache x) _ (Some x) (handles_exchanged t.arena cache x) handles_put)

pub free_handles : FreeHandles
free_handles chain t = handles_by t.route chain t
