use Rattle.std.proofs.Common.{◌≡◌, false, length}
use Rattle.line_tests.proofs.lines.take_piece.Given as goal

abbrev pub invariant-loop-piece : goal.invariant-loop-piece
invariant-loop-piece l = l.reader.whole ≡ false

abbrev pub decreases-loop-piece : goal.decreases-loop-piece
decreases-loop-piece l = length l.piece
