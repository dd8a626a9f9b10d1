use Rattle.lease_book.proofs.LawProofs.{entered_changes, leases_are_the_clients}
use Rattle.lease_book.proofs.laws.client_laws.Goals as goal

pub returns : goal.returns
returns c = record { entered = entered_changes; leases = leases_are_the_clients }
