use Rattle.std.proofs.Common.{List, ◌++◌, vec_len}
use Rattle.deed_core.specs.Tag.{Tag}
use Rattle.stock.specs.Accounts.{Accounts}
use Rattle.world_core.specs.WorldState.{in_hands}
use Rattle.world_core.proofs.closings.empty_hands.Given as goal

abbrev pub invariant-loop-hand : goal.invariant-loop-hand
invariant-loop-hand l = (others : List Tag) → Accounts l.fn.stock (in_hands l.fn.hands.items ++ others) → Accounts l.stock (in_hands l.hands.items ++ others)

abbrev pub decreases-loop-hand : goal.decreases-loop-hand
decreases-loop-hand l = vec_len l.hands
