use Rattle.std.specs.List.{AllWithin}
use Rattle.arena_tree.specs.Settings.{Clash}
use Rattle.arena_tree.proofs.setups.are_in_the_way.Given as goal

abbrev pub invariant-loop-span : goal.invariant-loop-span
invariant-loop-span l = AllWithin (λ a. ¬ Clash a l.wanted) l.spans 0 l.span-index
