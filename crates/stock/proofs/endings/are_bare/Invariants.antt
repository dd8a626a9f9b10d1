use Rattle.std.specs.List.{AllWithin}
use Rattle.stock.specs.Endings.{IsBare}
use Rattle.stock.proofs.endings.are_bare.Given as goal

abbrev pub invariant-loop-space : goal.invariant-loop-space
invariant-loop-space g l = AllWithin IsBare l.spaces 0 l.space-index
