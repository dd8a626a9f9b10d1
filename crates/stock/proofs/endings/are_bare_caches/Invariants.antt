use Rattle.std.specs.List.{AllWithin}
use Rattle.stock.specs.Endings.{IsBareCache}
use Rattle.stock.proofs.endings.are_bare_caches.Given as goal

abbrev pub invariant-loop-cache : goal.invariant-loop-cache
invariant-loop-cache g l = AllWithin IsBareCache l.caches 0 l.cache-index
