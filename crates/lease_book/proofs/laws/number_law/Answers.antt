use Rattle.lease_book.proofs.LawProofs.{numbers_settled_once}
use Rattle.lease_book.proofs.laws.number_law.Goals as goal

pub returns : goal.returns
returns c = numbers_settled_once
