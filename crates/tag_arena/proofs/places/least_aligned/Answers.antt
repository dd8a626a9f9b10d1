use Rattle.std.proofs.Common.{◌≤◌, ◌<◌, subst, arith}
use Rattle.tag_arena.proofs.Blocks.{aligned_here, aligned_next, least_here, least_next}
use Rattle.tag_arena.proofs.places.least_aligned.Goals as goal

pub returns-then-rest-phase-clause-aligned : goal.returns-then-rest-phase-clause-aligned
returns-then-rest-phase-clause-aligned c =
    let e = c.rest_in-rest.ensures in
    rw e (aligned_here _ _ _ c.requires.phase (subst (λ r. r ≤ c.args.phase) e c.if-rest-phase.true))

pub returns-then-rest-phase-clause-least : goal.returns-then-rest-phase-clause-least
returns-then-rest-phase-clause-least c = λ b le is.
    let e = c.rest_in-rest.ensures in
    rw e (least_here _ _ _ b c.requires.phase (omega arith) (subst (λ r. r ≤ c.args.phase) e c.if-rest-phase.true) le is)

pub returns-else-rest-phase-clause-aligned : goal.returns-else-rest-phase-clause-aligned
returns-else-rest-phase-clause-aligned c =
    let e = c.rest_in-rest.ensures in
    rw e (aligned_next _ _ _ c.requires.phase (subst (λ r. c.args.phase < r) e c.if-rest-phase.false) (omega arith))

pub returns-else-rest-phase-clause-least : goal.returns-else-rest-phase-clause-least
returns-else-rest-phase-clause-least c = λ b le is.
    let e = c.rest_in-rest.ensures in
    rw e (least_next _ _ _ b c.requires.phase (omega arith) (subst (λ r. c.args.phase < r) e c.if-rest-phase.false) le is)
