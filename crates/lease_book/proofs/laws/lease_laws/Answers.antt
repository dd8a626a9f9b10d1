use Rattle.lease_book.proofs.LawProofs.{without_loses, leases_not_above, leases_granted}
use Rattle.lease_book.proofs.laws.lease_laws.Goals as goal

pub returns : goal.returns
returns c = record { without = without_loses; current = leases_not_above; granted = leases_granted }
