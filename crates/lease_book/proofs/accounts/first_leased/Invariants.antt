use Rattle.lease_book.specs.Shelf.{IsEmptyBefore}
use Rattle.lease_book.proofs.accounts.first_leased.Given as goal

abbrev pub invariant-loop-index : goal.invariant-loop-index
invariant-loop-index g l = IsEmptyBefore l.index l.leases
