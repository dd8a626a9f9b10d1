use Rattle.deed_core.specs.Request.{IsPlain}
use Rattle.plain_arena.proofs.Choosing.{newest_choice, newest_placed}
use Rattle.plain_arena.proofs.power_lists.instant.Goals as goal

pub returns-clause-choice : goal.returns-clause-choice
returns-clause-choice g c =
    let plain : IsPlain c.args.request.now = c.is_constrained.ensures.0 c.if-is_constrained.false in
    rw c.base.ensures.value (newest_choice c.args.quantum c.args.request.now c.args.free.now plain c.requires.below c.requires.aligned c.in-Some.len c.in-Some.ensures.1 c.in-Some-newest.listed c.in-Some-newest.ensures)

pub returns-clause-placed : goal.returns-clause-placed
returns-clause-placed g c =
    let plain : IsPlain c.args.request.now = c.is_constrained.ensures.0 c.if-is_constrained.false in
    rw c.base.ensures.value (newest_placed c.args.quantum c.args.request.now c.args.free.now plain c.requires.below c.requires.aligned c.in-Some.len c.in-Some.ensures.1 c.in-Some-newest.listed c.in-Some-newest.ensures)
