use Rattle.std.proofs.Common.{◌-◌, ◌^◌, ◌≤◌, Contains}
use Rattle.deed_core.specs.Extent.{end_of}
use Rattle.deed_core.specs.Holding.{Holding}
use Rattle.tag_arena.specs.Spanned.{holdings_of}
use Rattle.tag_arena.proofs.whole_spans.lowest_whole.Given as goal

abbrev pub invariant-loop-next : goal.invariant-loop-next
invariant-loop-next g l = (s : Holding) → Contains (holdings_of l.spans.items) s → end_of s.range ≤ l.from → Contains l.free.ranges s → ⊥

abbrev pub decreases-loop-next : goal.decreases-loop-next
decreases-loop-next g l = 2 ^ 62 - l.from
