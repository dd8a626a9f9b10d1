use Rattle.lease_book.proofs.LawProofs.{account_is, account_client}
use Rattle.lease_book.proofs.laws.account_law.Goals as goal

pub returns : goal.returns
returns c = record { read_off = account_is; client = account_client }
