use Rattle.std.proofs.Common.{◌≡◌, ◌++◌, All, map}
use Rattle.magazine_layer.specs.Magazines.{BothEmpty}
use Rattle.locked_parts.specs.Kinds.{kinds_of_first, new_own}
use Rattle.locked_parts.proofs.magazine_sets.fill.Given as goal

abbrev pub invariant-loop-arena : goal.invariant-loop-arena
invariant-loop-arena g l = All (λ r. BothEmpty r.cpu) l.caches.items
    × (l.caches.items ≡ l.fn.caches.items ++ map new_own (kinds_of_first l.fn.tree l.arena))
