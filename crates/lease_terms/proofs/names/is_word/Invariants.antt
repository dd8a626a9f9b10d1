use Rattle.std.proofs.Common.{◌≡◌, drop}
use Rattle.std.specs.List.{list_all}
use Rattle.lease_terms.specs.Names.{is_word_byte}
use Rattle.lease_terms.proofs.names.is_word.Given as goal

abbrev pub invariant-loop-byte : goal.invariant-loop-byte
invariant-loop-byte l = list_all is_word_byte (drop l.byte-index l.text) ≡ list_all is_word_byte l.text
