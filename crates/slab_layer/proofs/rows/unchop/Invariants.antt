use Rattle.std.proofs.Common.{◌≡◌, vec_len}
use Rattle.slab_layer.specs.Parts.{joined_row, AreEndToEnd}
use Rattle.slab_layer.proofs.rows.unchop.Given as goal

-- the row is as it was but for the parts at its end, which are joined to the rest
abbrev pub invariant-loop-last : goal.invariant-loop-last
invariant-loop-last g l = record { row : AreEndToEnd l.row.items l.rest; whole : joined_row l.row.items l.rest ≡ joined_row l.fn.row.items l.fn.rest }

abbrev pub decreases-loop-last : goal.decreases-loop-last
decreases-loop-last g l = vec_len l.row
