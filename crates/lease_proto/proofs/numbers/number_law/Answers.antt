use Rattle.lease_proto.proofs.WordLemmas.{numbers}
use Rattle.lease_proto.proofs.numbers.number_law.Goals as goal

pub returns : goal.returns
returns c = numbers
