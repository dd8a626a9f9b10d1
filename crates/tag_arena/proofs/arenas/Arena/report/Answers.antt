use Rattle.std.proofs.Common.{refl, subst, ap, arith}
use Rattle.deed_core.specs.Covering.{units_held}
use Rattle.tag_arena.specs.Layout.{FreeIsLongestRuns}
use Rattle.tag_arena.specs.ArenaState.{ArenaState, layout_of, ranges_of}
use Rattle.tag_arena.proofs.Reporting.{report_adds, free_is_longest_runs}
use Rattle.tag_arena.proofs.arenas.Arena.report.Goals as goal

pub overflow_sub-result : goal.overflow_sub-result
overflow_sub-result g c =
    let adds = report_adds _ c.self.invariant.0.divided _ _ _ _ _ _ c.units.ensures.sum refl c.units-2.ensures.sum refl c.units-free.ensures refl in
    omega (arith, adds)

pub returns-clause-allocated : goal.returns-clause-allocated
returns-clause-allocated g c =
    let adds = report_adds _ c.self.invariant.0.divided _ _ _ _ _ _ c.units.ensures.sum refl c.units-2.ensures.sum refl c.units-free.ensures refl in
    let same = ap (λ (s : ArenaState). units_held (ranges_of s.allocated)) c.self.view_is in
    omega (arith, adds, same)

pub returns-clause-adds_up : goal.returns-clause-adds_up
returns-clause-adds_up g c =
    let adds = report_adds _ c.self.invariant.0.divided _ _ _ _ _ _ c.units.ensures.sum refl c.units-2.ensures.sum refl c.units-free.ensures refl in
    omega (arith, adds)

pub returns-clause-longest : goal.returns-clause-longest
returns-clause-longest g c = subst (λ (s : ArenaState). FreeIsLongestRuns (layout_of s)) c.self.view_is (free_is_longest_runs _ c.self.invariant.0.divided.whole)
