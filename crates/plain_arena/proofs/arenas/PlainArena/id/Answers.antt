use Rattle.std.proofs.Common.{subst}
use Rattle.tag_arena.specs.Layout.{FreeIsLongestRuns}
use Rattle.tag_arena.specs.ArenaState.{ArenaState, layout_of}
use Rattle.tag_arena.proofs.Reporting.{free_is_longest_runs}
use Rattle.plain_arena.proofs.arenas.PlainArena.id.Goals as goal

pub returns-clause-longest : goal.returns-clause-longest
returns-clause-longest g c = subst (λ (s : ArenaState). FreeIsLongestRuns (layout_of s)) c.self.view_is (free_is_longest_runs _ c.self.invariant.0.divided.whole)
