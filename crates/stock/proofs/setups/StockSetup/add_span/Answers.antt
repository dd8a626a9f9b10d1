use Rattle.std.proofs.Common.{List, subst}
use Rattle.tag_arena.specs.Outcomes.{AddSpanOf}
use Rattle.stock.specs.Spaces.{SpaceState}
use Rattle.stock.specs.Steps.{OnArena}
use Rattle.stock.proofs.setups.StockSetup.add_span.Goals as goal

pub returns-clause-added : goal.returns-clause-added
returns-clause-added g c = subst (λ (xs : List SpaceState). OnArena c.args.arena (λ a b. AddSpanOf a c.args.deed (g.D.Deed.holding c.args.deed) c.add_span.result b) xs c.add_span.new.self) c.self.view_is c.add_span.ensures.added
