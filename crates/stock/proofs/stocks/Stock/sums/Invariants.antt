use Rattle.std.proofs.Common.{List}
use Rattle.deed_core.specs.Tag.{Tag}
use Rattle.stock.specs.Accounts.{Accounts}
use Rattle.stock.specs.Sums.{TellsSums, as_leased}
use Rattle.stock.proofs.Telling.{ToldFirst}
use Rattle.stock.proofs.stocks.Stock.sums.Given as goal

abbrev pub invariant-loop-arena : goal.invariant-loop-arena
invariant-loop-arena g l = ToldFirst (λ k r. (out : List Tag) → Accounts l.self out → TellsSums l.self k (as_leased out) r) l.arena l.room
