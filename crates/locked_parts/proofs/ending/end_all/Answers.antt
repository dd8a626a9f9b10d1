use Rattle.std.proofs.Common.{sym, subst, arith}
use Rattle.locked_parts.specs.States.{AreInPlace}
use Rattle.locked_parts.proofs.Stands.{back_in_place, fewer_in_place}
use Rattle.locked_parts.proofs.ending.end_all.Goals as goal

pub returns-in-Err-clause-in_place : goal.returns-in-Err-clause-in_place
returns-in-Err-clause-in_place g c = λ tree before.
    let all = subst (AreInPlace tree) c.in-Some.ensures.items (c.loop-locked.invariant.0 tree before) in
    subst (AreInPlace tree) (sym c.push_reserved.ensures.items) (back_in_place tree c.pop.new.self.items c.in-Some.locked c.in-Err.locked c.in-Err.ensures.set c.in-Err.ensures.kinds all)

pub loop-locked-preserved : goal.loop-locked-preserved
loop-locked-preserved g c = (
  λ tree before. fewer_in_place tree c.pop.new.self.items c.in-Some.locked (subst (AreInPlace tree) c.in-Some.ensures.items (c.loop-locked.invariant.0 tree before)),
  omega (arith, c.in-Some.ensures.cases, c.loop-locked.invariant.1),
)
