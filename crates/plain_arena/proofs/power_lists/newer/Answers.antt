use Rattle.std.proofs.Common.{ℕ, ◌*◌, ◌^◌, subst, ap, arith}
use Rattle.plain_arena.specs.Found.{NewestSoFar}
use Rattle.plain_arena.proofs.Scans.{newest_skips, newest_first, newest_kept, newest_taken, shifted}
use Rattle.plain_arena.proofs.power_lists.newer.Goals as goal

pub overflow_mul-list : goal.overflow_mul-list
overflow_mul-list g c = let e = shifted c.in-Some.list c.args.quantum c.in-Some.ensures.0 in omega (arith, e, c.in-Some.ensures.1)

pub returns-in_default : goal.returns-in_default
returns-in_default g c = newest_skips _ _ _ c.held_range_at-range.ensures.here _ _ _ c.requires.newest (λ i on serves. c.in_default.ensures i on)

pub returns-then-list-quantum : goal.returns-then-list-quantum
returns-then-list-quantum g c = newest_skips _ _ _ c.held_range_at-range.ensures.here _ _ _ c.requires.newest (λ i on serves.
    let e = shifted c.in-Some.list c.args.quantum c.in-Some.ensures.0 in
    let same = ap (λ (k : ℕ). 2 ^ k * c.args.quantum) (c.in-Some.ensures.3 i on) in
    omega (arith, e, same, serves, c.if-list-quantum.true))

pub returns-in_default-newest : goal.returns-in_default-newest
returns-in_default-newest g c =
    let e = shifted c.in-Some.list c.args.quantum c.in-Some.ensures.0 in
    newest_first _ _ _ c.held_range_at-range.ensures.here _ _ _ c.in-Some.ensures.2 c.in-Some.ensures.3
    (subst (NewestSoFar c.args.quantum c.args.len c.args.free.now c.args.at) c.in_default-newest.is c.requires.newest) (omega (arith, e, c.if-list-quantum.false))

pub returns-then-other-list : goal.returns-then-other-list
returns-then-other-list g c =
    newest_kept _ _ _ c.held_range_at-range.ensures.here _ _ _ c.in-Some.ensures.2 c.in-Some.ensures.3 _
    (subst (NewestSoFar c.args.quantum c.args.len c.args.free.now c.args.at) c.in-Some-newest.is c.requires.newest) c.if-other-list.true

pub returns-else-other-list : goal.returns-else-other-list
returns-else-other-list g c =
    let e = shifted c.in-Some.list c.args.quantum c.in-Some.ensures.0 in
    newest_taken _ _ _ c.held_range_at-range.ensures.here _ _ _ c.in-Some.ensures.2 c.in-Some.ensures.3 _
    (subst (NewestSoFar c.args.quantum c.args.len c.args.free.now c.args.at) c.in-Some-newest.is c.requires.newest) (omega arith) (omega (arith, e, c.if-list-quantum.false))
