use Rattle.vmemd.specs.Watching.{AreSumsOfEach}
use Rattle.vmemd.proofs.looking.sums_of.Given as goal

-- those of the arenas so far
abbrev pub invariant-loop-arena : goal.invariant-loop-arena
invariant-loop-arena g l = AreSumsOfEach l.system.arenas l.arena l.sums.items
