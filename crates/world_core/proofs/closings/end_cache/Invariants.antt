use Rattle.std.proofs.Common.{List, ◌++◌}
use Rattle.std.specs.Prelude.{sum_by}
use Rattle.deed_core.specs.Tag.{Tag}
use Rattle.stock.specs.Accounts.{Accounts}
use Rattle.stock.specs.OwnCaches.{own_rounds}
use Rattle.world_core.proofs.closings.end_cache.Given as goal

abbrev pub invariant-loop-round : goal.invariant-loop-round
invariant-loop-round l = (others : List Tag) → Accounts l.fn.stock (own_rounds l.fn.own ++ others) → Accounts l.stock (own_rounds l.own ++ others)

abbrev pub decreases-loop-round : goal.decreases-loop-round
decreases-loop-round l = sum_by (λ t. 1) (own_rounds l.own)
