use Rattle.stock.proofs.LawProofs.{ToldFirst}
use Rattle.stock_audit.specs.Audits.{TellsSums}
use Rattle.stock_audit.specs.Outside.{out_of}
use Rattle.world_core.specs.WorldState.{outside_of}
use Rattle.world_core.proofs.parts.WorldParts.sums.Given as goal

abbrev pub invariant-loop-arena : goal.invariant-loop-arena
invariant-loop-arena g l = ToldFirst (λ k r. TellsSums l.self.stock k (out_of (outside_of l.self)) r) l.arena l.room
