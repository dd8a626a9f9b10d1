use Rattle.std.proofs.Common.{◌≡◌}
use Rattle.arena_tree.specs.Plans.{Ran}
use Rattle.quantum_cache.specs.Reaps.{ReapEnd, CanCount, reap_round, reap_steps}
use Rattle.quantum_cache.proofs.reaps.reap_rounds.Given as goal

-- what the rest does, the whole does
abbrev pub invariant-rounds : goal.invariant-rounds
invariant-rounds g l =
    ((t : g.row.P.Denot) (a : ReapEnd) → Ran g.P.Parts.step g.P.Parts.tree g.P.Parts.count g.P.Parts.rounds (reap_steps (reap_round l.arena l.cache) l.reaping) l.parts t a
    → Ran g.P.Parts.step g.P.Parts.tree g.P.Parts.count g.P.Parts.rounds (reap_steps (reap_round l.arena l.cache) l.fn.before) l.fn.parts t a)
    × CanCount l.reaping
    × (g.P.Parts.tree l.parts ≡ g.P.Parts.tree l.fn.parts)

abbrev pub decreases-rounds : goal.decreases-rounds
decreases-rounds g l = l.reaping.left
