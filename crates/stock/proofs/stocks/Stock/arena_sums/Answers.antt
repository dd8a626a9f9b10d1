use Rattle.std.proofs.Common.{arith}
use Rattle.stock.proofs.Summing.{all_told}
use Rattle.stock.proofs.stocks.Stock.arena_sums.Goals as goal

pub depots_units-magazine-requires-clause-fits : goal.depots_units-magazine-requires-clause-fits
depots_units-magazine-requires-clause-fits g c s at =
    let all = all_told c.args.self.now c.count.ensures.stock c.args.arena s at c.requires.balanced.0 c.requires.balanced.1 in
    omega (arith, all, c.arena_report.ensures.span s at)
