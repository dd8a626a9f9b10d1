use Rattle.std.proofs.Common.{ap, subst}
use Rattle.tag_arena.specs.Choice.{IsBestChoice}
use Rattle.tag_arena.specs.Fits.{base_of}
use Rattle.tag_arena.proofs.free_index.FreeIndex.best.Goals as goal

pub returns-clause-choice : goal.returns-clause-choice
returns-clause-choice g c = subst (λ l. IsBestChoice c.args.quantum c.args.request.now l (base_of c.best_fit.result)) (ap (λ v. v.ranges) c.self.view_is) c.best_fit.ensures.choice
