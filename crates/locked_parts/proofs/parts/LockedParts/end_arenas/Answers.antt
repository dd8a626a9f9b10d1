use Rattle.std.proofs.Common.{arith}
use Rattle.locked_parts.proofs.parts.LockedParts.end_arenas.Goals as goal

pub invariant_of-self : goal.invariant_of-self
invariant_of-self g c = (c.self.invariant.0, c.end_all.ensures.in_place c.self.inside.tree c.self.invariant.1, omega (arith, c.end_all.ensures.fewer, c.self.invariant.2))
