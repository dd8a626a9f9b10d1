use Rattle.std.proofs.Common.{◌≡◌}
use Rattle.vmemd.specs.Watching.{arenas_by}
use Rattle.vmemd.proofs.looking.arenas_of.Given as goal

-- the arenas so far
abbrev pub invariant-loop-arena : goal.invariant-loop-arena
invariant-loop-arena g l = l.seen.items ≡ arenas_by l.system.arenas l.sums.items l.arena
