use Rattle.std.proofs.Common.{◌≡◌, ℕ, ◌<◌, [], All}
use Rattle.stock.specs.Accounts.{Accounts}
use Rattle.stock.specs.Endings.{IsReaped, IsTakenOutAt}
use Rattle.stock.specs.Spaces.{plans_of}
use Rattle.stock.proofs.plain_stocks.close_owned.Given as goal

abbrev pub invariant-loop-arena : goal.invariant-loop-arena
invariant-loop-arena l = record {
  balanced : Accounts l.stock [];
  reaped : All IsReaped l.stock;
  fixed : plans_of l.stock ≡ plans_of l.fn.stock;
  taken : (k : ℕ) → k < l.arena → IsTakenOutAt l.stock k;
}
