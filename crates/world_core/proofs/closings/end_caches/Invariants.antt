use Rattle.std.proofs.Common.{List, ◌++◌, vec_len}
use Rattle.deed_core.specs.Tag.{Tag}
use Rattle.stock.specs.Accounts.{Accounts}
use Rattle.stock.specs.OwnCaches.{all_own_rounds}
use Rattle.world_core.proofs.closings.end_caches.Given as goal

abbrev pub invariant-loop-own : goal.invariant-loop-own
invariant-loop-own l = (others : List Tag) → Accounts l.fn.stock (all_own_rounds l.fn.caches.items ++ others) → Accounts l.stock (all_own_rounds l.caches.items ++ others)

abbrev pub decreases-loop-own : goal.decreases-loop-own
decreases-loop-own l = vec_len l.caches
