use Rattle.std.proofs.Common.{◌≡◌, drop}
use Rattle.lease_proto.specs.Words.{digits_from, number_in}
use Rattle.lease_proto.proofs.numbers.value_of.Given as goal

abbrev pub invariant-loop-digit : goal.invariant-loop-digit
invariant-loop-digit l = digits_from l.value (drop l.digit-index l.word) ≡ number_in l.word
