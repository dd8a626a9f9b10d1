use Rattle.std.proofs.Common.{List, ◌++◌}
use Rattle.std.specs.Prelude.{sum_by}
use Rattle.deed_core.specs.Tag.{Tag}
use Rattle.lease_book.specs.BookState.{leased_segments}
use Rattle.stock.specs.Accounts.{Accounts}
use Rattle.world_core.proofs.closings.end_leases.Given as goal

abbrev pub invariant-loop-segment : goal.invariant-loop-segment
invariant-loop-segment l =
    (others : List Tag) → Accounts l.fn.stock (leased_segments l.fn.book ++ others) → Accounts l.stock (leased_segments l.book ++ others)

abbrev pub decreases-loop-segment : goal.decreases-loop-segment
decreases-loop-segment l = sum_by (λ t. 1) (leased_segments l.book)
