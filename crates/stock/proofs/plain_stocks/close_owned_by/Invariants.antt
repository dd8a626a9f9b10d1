use Rattle.std.proofs.Common.{◌≡◌, [], All}
use Rattle.std.specs.Prelude.{sum_by}
use Rattle.stock.specs.Accounts.{Accounts}
use Rattle.stock.specs.Endings.{IsReaped, OthersAreSame}
use Rattle.stock.specs.Owning.{weight_owned}
use Rattle.stock.specs.Spaces.{plans_of}
use Rattle.stock.proofs.plain_stocks.close_owned_by.Given as goal

abbrev pub invariant-loop-deed : goal.invariant-loop-deed
invariant-loop-deed l = record {
  balanced : Accounts l.stock [];
  reaped : All IsReaped l.stock;
  others : OthersAreSame l.fn.arena l.fn.stock l.stock;
  fixed : plans_of l.stock ≡ plans_of l.fn.stock;
}

abbrev pub decreases-loop-deed : goal.decreases-loop-deed
decreases-loop-deed l = sum_by (weight_owned (λ h. 1)) l.stock
