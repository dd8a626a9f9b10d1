use Rattle.std.proofs.Common.{sym, subst, ◌∙◌, List}
use Rattle.deed_core.specs.Holding.{Holding}
use Rattle.stock.specs.Setups.{AreDeedsOf}
use Rattle.stock.proofs.Numbering.{are_deeds, map_same}
use Rattle.stock.proofs.plain_stocks.plain_stock.Goals as goal

pub of-requires-clause-deeds : goal.of-requires-clause-deeds
of-requires-clause-deeds c = subst (λ (hs : List Holding). AreDeedsOf c.args.setup.now.spans hs) (sym (map_same c.in_ok-deeds.deeds.items ∙ c.in_ok-deeds.ensures)) (are_deeds c.args.setup.now.spans)
