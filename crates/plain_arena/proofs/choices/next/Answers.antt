use Rattle.std.proofs.Common.{Some, None, refl, arith}
use Rattle.tag_arena.proofs.Grids.{IsLeast-same}
use Rattle.plain_arena.proofs.Choosing.{earliest_least}
use Rattle.plain_arena.proofs.choices.next.Goals as goal

pub returns-in-Some-clause-choice : goal.returns-in-Some-clause-choice
returns-in-Some-clause-choice g c =
    (Some c.in-Some.found.base, earliest_least c.args.quantum c.args.request.now c.args.free.now c.args.rover (Some c.in-Some.found) c.in-Some.ensures, refl)

pub returns-clause-choice : goal.returns-clause-choice
returns-clause-choice g c = (
  None,
  earliest_least c.args.quantum c.args.request.now c.args.free.now c.args.rover None c.in_default.ensures,
  IsLeast-same _ _ _ (λ b h. h.0) (λ b h. (h, omega arith)) (earliest_least c.args.quantum c.args.request.now c.args.free.now 0 c.earliest.result c.earliest.ensures),
)
