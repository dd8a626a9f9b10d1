use Rattle.std.proofs.Common.{◌≡◌, drop}
use Rattle.lease_proto.specs.Words.{is_sentence}
use Rattle.lease_proto.proofs.SentenceLemmas.{goes_on}
use Rattle.lease_proto.proofs.sentences.is_sentence.Given as goal

abbrev pub invariant-loop-byte : goal.invariant-loop-byte
invariant-loop-byte l = is_sentence l.line ≡ goes_on l.inside (drop l.byte-index l.line)
