use Rattle.std.proofs.Common.{◌≡◌}
use Rattle.arena_tree.specs.Plans.{Ran}
use Rattle.quantum_cache.specs.Reaps.{ReapEnd, CanCount, reap_slab, reap_steps}
use Rattle.quantum_cache.proofs.reaps.reap_slabs.Given as goal

-- what the rest does, the whole does
abbrev pub invariant-slabs : goal.invariant-slabs
invariant-slabs g l =
    ((t : g.row.P.Denot) (a : ReapEnd) → Ran g.P.Parts.step g.P.Parts.tree g.P.Parts.count g.P.Parts.rounds (reap_steps (reap_slab l.chain l.arena l.cache) l.reaping) l.parts t a
    → Ran g.P.Parts.step g.P.Parts.tree g.P.Parts.count g.P.Parts.rounds (reap_steps (reap_slab l.chain l.arena l.cache) l.fn.before) l.fn.parts t a)
    × CanCount l.reaping
    × (g.P.Parts.tree l.parts ≡ g.P.Parts.tree l.fn.parts)

abbrev pub decreases-slabs : goal.decreases-slabs
decreases-slabs g l = l.reaping.left
