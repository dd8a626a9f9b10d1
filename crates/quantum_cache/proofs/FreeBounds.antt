-- How many locks a free takes.
use Rattle.std.proofs.Common.{ℕ, ◌+◌, ◌≤◌, List, Result, Ok, Err, length, arith}
use Rattle.deed_core.specs.Tag.{Tag}
use Rattle.deed_core.specs.declared.segments.Route.{Route}
use Rattle.deed_core.specs.declared.segments.Route.TheVariants.{Direct, Cached}
use Rattle.arena_tree.specs.declared.levels.Level.{Level}
use Rattle.arena_tree.specs.declared.part_faults.PartFault.{PartFault}
use Rattle.arena_tree.specs.declared.part_faults.FreshFault.{FreshFault}
use Rattle.arena_tree.specs.declared.part_faults.ChangeFault.{ChangeFault}
use Rattle.magazine_layer.specs.declared.faults.EmptyFault.{EmptyFault}
use Rattle.arena_tree.specs.declared.part_faults.PartFault.TheVariants as asking
use Rattle.arena_tree.specs.declared.part_faults.FreshFault.TheVariants as freshing
use Rattle.magazine_layer.specs.declared.faults.EmptyFault.TheVariants as emptying
use Rattle.arena_tree.specs.Plans.{Plan, then, Within}
use Rattle.arena_tree.specs.Climbs.{ReturnEnd}
use Rattle.arena_tree.proofs.LawProofs.{within_then, within_return}
use Rattle.quantum_cache.specs.declared.placings.Placing.{Placing}
use Rattle.quantum_cache.specs.declared.placings.Placing.TheVariants.{Placed, Left, Stopped}
use Rattle.quantum_cache.specs.Frees.{or_next, push_round, on_change, push_changed, on_swap_fresh, push_fresh, on_swap_empty, push_exchanged, put_chunk, free_cached, free_steps}
use Rattle.quantum_cache.specs.Laws.{free_most, FreeIsShort}

pub within_put : (t : Tag) → Within (λ (r : ReturnEnd). 1) (put_chunk t) 0
unfolding put_chunk
within_put t = λ x. omega arith

put_after : (t : Tag) (n : ℕ) → n ≤ 2 → Within (λ (r : ReturnEnd). 3) (put_chunk t) n
unfolding put_chunk
put_after t n le = λ x. omega (arith, le)

within_push : (arena cache : ℕ) (t : Tag) (n most : ℕ) → n ≤ most → Within (λ (p : Placing Tag). most) (push_round arena cache t) n
unfolding push_round
within_push arena cache t n most le = λ x. omega (arith, le)

within_changed : (arena cache m : ℕ) (t : Tag) (n most : ℕ) → n ≤ most → Within (λ (p : Placing Tag). most) (push_changed arena cache m t) n
unfolding push_changed
within_changed arena cache m t n most le = changed
  where
    changed : (x : Result (Unit {0}) (PartFault ChangeFault)) → Within (λ (p : Placing Tag). most) (on_change arena cache t x) (n + 0)
    changed (Ok u) = within_push arena cache t (n + 0) most (omega (arith, le))
    changed (Err (asking.Refused f)) = omega (arith, le)
    changed (Err asking.Stopped) = omega (arith, le)

within_fresh : (arena cache : ℕ) (t : Tag) (n most : ℕ) → n + 1 ≤ most → Within (λ (p : Placing Tag). most) (push_fresh arena cache t) n
unfolding push_fresh
within_fresh arena cache t n most le = swapped
  where
    swapped : (x : Result (Unit {0}) (PartFault FreshFault)) → Within (λ (p : Placing Tag). most) (on_swap_fresh arena cache t x) (n + 1)
    swapped (Ok u) = within_push arena cache t (n + 1) most le
    swapped (Err (asking.Refused (freshing.OldSize m))) = within_changed arena cache m t (n + 1) most le
    swapped (Err (asking.Refused freshing.NotFull)) = le
    swapped (Err (asking.Refused freshing.NoMemory)) = le
    swapped (Err asking.Stopped) = le

within_exchanged : (arena cache : ℕ) (t : Tag) (n most : ℕ) → n + 2 ≤ most → Within (λ (p : Placing Tag). most) (push_exchanged arena cache t) n
unfolding push_exchanged
within_exchanged arena cache t n most le = swapped
  where
    swapped : (x : Result (Unit {0}) (PartFault EmptyFault)) → Within (λ (p : Placing Tag). most) (on_swap_empty arena cache t x) (n + 1)
    swapped (Ok u) = within_push arena cache t (n + 1) most (omega (arith, le))
    swapped (Err (asking.Refused emptying.NoneEmpty)) = within_fresh arena cache t (n + 1) most (omega (arith, le))
    swapped (Err (asking.Refused (emptying.OldSize m))) = within_changed arena cache m t (n + 1) most (omega (arith, le))
    swapped (Err asking.Stopped) = omega (arith, le)

within_or_next : (p : Plan (Placing Tag)) (q : Tag → Plan ReturnEnd) (n stage : ℕ) → Within (λ (a : Placing Tag). stage) p n → stage ≤ 3 → ((t : Tag) (m : ℕ) → m ≤ stage → Within (λ (r : ReturnEnd). 3) (q t) m) → Within (λ (r : ReturnEnd). 3) (then p (or_next q)) n
within_or_next p q n stage w le next = within_then (λ (a : Placing Tag). stage) (λ (r : ReturnEnd). 3) p (or_next q) n w go
  where
    go : (a : Placing Tag) (m : ℕ) → m ≤ stage → Within (λ (r : ReturnEnd). 3) (or_next q a) m
    go Placed m low = omega (arith, low, le)
    go (Left t) m low = next t m low
    go (Stopped t) m low = omega (arith, low, le)

within_by : (route : Route) (chain : List Level) (t : Tag) → Within (λ (r : ReturnEnd). free_most route (length chain)) (free_steps route chain t) 0
unfolding free_cached
within_by Direct chain t = within_return (λ (r : ReturnEnd). length chain) chain t 0 (λ r. omega arith)
within_by (Cached cache) chain t =
    within_or_next (push_round t.arena cache t) _ 0 0 (within_push t.arena cache t 0 0 (omega arith)) (omega arith)
    (λ x m low. within_or_next (push_exchanged t.arena cache x) _ m 2 (within_exchanged t.arena cache x m 2 (omega (arith, low))) (omega arith) put_after)

pub free_is_short : FreeIsShort
free_is_short chain t = within_by t.route chain t
