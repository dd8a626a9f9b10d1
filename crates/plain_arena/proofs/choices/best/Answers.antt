use Rattle.std.proofs.Common.{◌≡◌, length, subst, arith}
use Rattle.plain_arena.specs.Found.{BestSoFar}
use Rattle.plain_arena.proofs.Choosing.{best_choice}
use Rattle.plain_arena.proofs.choices.best.Goals as goal

pub returns-clause-choice : goal.returns-clause-choice
returns-clause-choice g c =
    let all : c.loop-at.at ≡ length c.args.free.now = omega arith in
    best_choice c.args.quantum c.args.request.now c.args.free.now c.loop-at.best (subst (λ n. BestSoFar c.args.quantum c.args.request.now c.args.free.now n c.loop-at.best) all c.loop-at.invariant)
