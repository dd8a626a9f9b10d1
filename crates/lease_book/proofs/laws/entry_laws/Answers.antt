use Rattle.lease_book.proofs.LawProofs.{hello_changes, settled_changes, swept_changes}
use Rattle.lease_book.proofs.laws.entry_laws.Goals as goal

pub returns : goal.returns
returns c = record { hello = hello_changes; settled = settled_changes; swept = swept_changes }
