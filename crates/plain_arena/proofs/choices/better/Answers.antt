use Rattle.std.proofs.Common.{subst}
use Rattle.plain_arena.specs.Found.{BestSoFar}
use Rattle.plain_arena.proofs.Scans.{best_skips, best_first, best_kept, best_taken}
use Rattle.plain_arena.proofs.choices.better.Goals as goal

pub returns-in_default : goal.returns-in_default
returns-in_default g c = best_skips _ _ _ c.held_range_at-range.ensures.here _ _ _ c.requires.best c.in_default.ensures

pub returns-in_default-best : goal.returns-in_default-best
returns-in_default-best g c =
    best_first _ _ _ c.held_range_at-range.ensures.here _ _ _ c.in-Some.ensures (subst (BestSoFar c.args.quantum c.args.request.now c.args.free.now c.args.at) c.in_default-best.is c.requires.best)

pub returns-then-comes_first : goal.returns-then-comes_first
returns-then-comes_first g c =
    best_kept _ _ _ c.held_range_at-range.ensures.here _ _ _ c.in-Some.ensures _ (subst (BestSoFar c.args.quantum c.args.request.now c.args.free.now c.args.at) c.in-Some-best.is c.requires.best) c.if-comes_first.ensures

pub returns-else-comes_first : goal.returns-else-comes_first
returns-else-comes_first g c =
    best_taken _ _ _ c.held_range_at-range.ensures.here _ _ _ c.in-Some.ensures _ (subst (BestSoFar c.args.quantum c.args.request.now c.args.free.now c.args.at) c.in-Some-best.is c.requires.best) c.if-comes_first.ensures
