use Rattle.std.proofs.Common.{subst, arith}
use Rattle.plain_arena.specs.Found.{EarliestSoFar}
use Rattle.plain_arena.proofs.Scans.{earliest_skips, earliest_kept, earliest_taken}
use Rattle.plain_arena.proofs.choices.earlier.Goals as goal

pub returns-in_default : goal.returns-in_default
returns-in_default g c = earliest_skips _ _ _ c.held_range_at-range.ensures.here _ _ _ _ c.requires.earliest c.in_default.ensures

pub returns-then-other-base : goal.returns-then-other-base
returns-then-other-base g c =
    earliest_kept _ _ _ c.held_range_at-range.ensures.here _ _ _ _ c.in-Some.ensures _ (subst (EarliestSoFar c.args.quantum c.args.request.now c.args.start c.args.free.now c.args.at) c.in-Some-earliest.is c.requires.earliest) c.if-other-base.true

pub returns-else-other-base : goal.returns-else-other-base
returns-else-other-base g c =
    earliest_taken _ _ _ c.held_range_at-range.ensures.here _ _ _ _ c.in-Some.ensures _ (subst (EarliestSoFar c.args.quantum c.args.request.now c.args.start c.args.free.now c.args.at) c.in-Some-earliest.is c.requires.earliest) (omega arith)
