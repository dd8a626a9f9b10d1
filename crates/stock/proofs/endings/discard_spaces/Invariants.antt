use Rattle.std.proofs.Common.{All, vec_len}
use Rattle.stock.specs.Endings.{IsBare}
use Rattle.stock.proofs.endings.discard_spaces.Given as goal

abbrev pub invariant-loop-space : goal.invariant-loop-space
invariant-loop-space g l = All IsBare l.spaces.items

abbrev pub decreases-loop-space : goal.decreases-loop-space
decreases-loop-space g l = vec_len l.spaces
