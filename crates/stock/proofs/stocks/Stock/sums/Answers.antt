use Rattle.std.proofs.Common.{◌≡◌, List, arith}
use Rattle.deed_core.specs.Tag.{Tag}
use Rattle.stock.specs.Accounts.{Accounts}
use Rattle.stock.specs.Sums.{TellsSums, as_leased}
use Rattle.stock.proofs.Telling.{told_more, tell_each}
use Rattle.stock.proofs.stocks.Stock.sums.Goals as goal

pub loop-arena-preserved : goal.loop-arena-preserved
loop-arena-preserved g c =
    told_more (λ k r. (out : List Tag) → Accounts c.args.self.now out → TellsSums c.args.self.now k (as_leased out) r) c.loop-arena.arena c.loop-arena.room c.tell.new.self c.arena_sums.result c.tell.ensures c.loop-arena.invariant c.arena_sums.ensures

pub returns : goal.returns
returns g c out accounts =
    let all : c.loop-arena.arena ≡ c.count-count.result = (let end = c.loop-arena.auto.arena-end in omega (arith, end, c.loop-arena-test.false)) in
    tell_each c.args.self.now (as_leased out) c.count-count.result c.loop-arena.room c.first.result.now (λ k r lt at. c.loop-arena.invariant k r (omega (arith, lt, all)) at out accounts) c.first.ensures.value c.first.ensures.all c.count-count.ensures.value
