use Rattle.std.proofs.Common.{arith}
use Rattle.locked_parts.proofs.owned_spans.index_of.Goals as goal

pub unreachable-requires : goal.unreachable-requires
unreachable-requires g c = c.loop-index.invariant c.requires.0 (omega (arith, c.requires.1, c.loop-index-test.false)) c.requires.2
