use Rattle.std.proofs.Common.{arith}
use Rattle.tag_arena.proofs.Blocks.{aligned_here, aligned_next, least_here, least_next}
use Rattle.plain_arena.proofs.places.least_aligned.Goals as goal

pub returns-then-rest-phase-clause-aligned : goal.returns-then-rest-phase-clause-aligned
returns-then-rest-phase-clause-aligned c = aligned_here _ _ _ c.requires.phase c.if-rest-phase.true

pub returns-then-rest-phase-clause-least : goal.returns-then-rest-phase-clause-least
returns-then-rest-phase-clause-least c = λ b le e.
    least_here _ _ _ b c.requires.phase (omega arith) c.if-rest-phase.true le e

pub returns-else-rest-phase-clause-aligned : goal.returns-else-rest-phase-clause-aligned
returns-else-rest-phase-clause-aligned c = aligned_next _ _ _ c.requires.phase c.if-rest-phase.false (omega arith)

pub returns-else-rest-phase-clause-least : goal.returns-else-rest-phase-clause-least
returns-else-rest-phase-clause-least c = λ b le e.
    least_next _ _ _ b c.requires.phase (omega arith) c.if-rest-phase.false le e
