use Rattle.std.proofs.Common.{◌≡◌, ℕ, ◌<◌, Bool, false, get_or, map, is_some}
use Rattle.slab_layer.proofs.rows.first_some.Given as goal

abbrev pub invariant-loop-j : goal.invariant-loop-j
invariant-loop-j g l = (k : ℕ) (d : Bool) → k < l.j → get_or (map is_some l.row) k d ≡ false
