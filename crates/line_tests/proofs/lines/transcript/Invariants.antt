use Rattle.std.proofs.Common.{◌≡◌, false}
use Rattle.line_tests.proofs.lines.transcript.Given as goal

abbrev pub invariant-loop-byte : goal.invariant-loop-byte
invariant-loop-byte l = l.reader.whole ≡ false
