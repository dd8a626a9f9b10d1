use Rattle.std.proofs.Common.{◌≡◌, length, subst, arith}
use Rattle.plain_arena.specs.Found.{LowestSoFar}
use Rattle.plain_arena.proofs.whole_spans.lowest_whole.Goals as goal

pub returns : goal.returns
returns g c =
    let all : c.loop-at.at ≡ length c.args.owned.now = omega arith in
    subst (λ n. LowestSoFar c.args.owned.now c.args.free.now n c.loop-at.lowest) all c.loop-at.invariant
