use Rattle.std.proofs.Common.{◌≡◌, ◌≤◌, ◌<◌, ◌+◌, ℕ}
use Rattle.arena_tree.specs.Plans.{Ran}
use Rattle.quantum_cache.specs.Drains.{DrainEnd, drain_cache_plan}
use Rattle.quantum_cache.proofs.drains.drain_rounds.Given as goal

-- what the rest does, the whole does
abbrev pub invariant-rounds : goal.invariant-rounds
invariant-rounds g l =
    ((t : g.row.P.Denot) (a : DrainEnd) → ((turns : ℕ) → g.P.Parts.rounds l.parts < turns → Ran g.P.Parts.step g.P.Parts.tree g.P.Parts.count g.P.Parts.rounds (drain_cache_plan turns l.arena l.cache) l.parts t a)
    → (turns : ℕ) → g.P.Parts.rounds l.fn.parts < turns → Ran g.P.Parts.step g.P.Parts.tree g.P.Parts.count g.P.Parts.rounds (drain_cache_plan turns l.arena l.cache) l.fn.parts t a)
    × (g.P.Parts.rounds l.parts ≤ g.P.Parts.rounds l.fn.parts)
    × (g.P.Parts.count l.parts + g.P.Parts.rounds l.parts ≤ g.P.Parts.count l.fn.parts + g.P.Parts.rounds l.fn.parts)
    × (g.P.Parts.tree l.parts ≡ g.P.Parts.tree l.fn.parts)

abbrev pub decreases-rounds : goal.decreases-rounds
decreases-rounds g l = g.P.Parts.rounds l.parts
