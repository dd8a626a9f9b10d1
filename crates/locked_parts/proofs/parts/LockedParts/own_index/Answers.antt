use Rattle.std.proofs.Common.{ap, arith}
use Rattle.locked_parts.specs.Kinds.{caches_before}
use Rattle.locked_parts.specs.States.{LockedPartsState}
use Rattle.locked_parts.proofs.Begins.{few_before}
use Rattle.locked_parts.proofs.parts.LockedParts.own_index.Goals as goal

pub returns : goal.returns
returns g c = λ within some.
    let before = c.self.invariant.0 c.args.arena (omega (arith, c.if-arena-len.false, c.len.ensures.value)) in
    let few = few_before c.self.inside.tree c.args.arena in
    let same = ap (λ (s : LockedPartsState). caches_before s.arenas c.args.arena) c.self.view_is in
    omega (arith, before, few, same, some, c.saturating_add.ensures, c.saturating_sub.ensures, c.ranges.arena.fits, c.ranges.number.fits)
