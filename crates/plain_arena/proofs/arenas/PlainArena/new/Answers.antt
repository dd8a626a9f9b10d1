use Rattle.std.proofs.Common.{◌≡◌, ap, ◌∙◌, arith}
use Rattle.std.specs.Ordering.{nat_cmp}
use Rattle.std.specs.FinMap as finmap
use Rattle.std.specs.FinMap.{len-empty}
use Rattle.deed_core.specs.Holding.{Holding}
use Rattle.tag_arena.proofs.Using.{empty_sound}
use Rattle.plain_arena.proofs.arenas.PlainArena.new.Goals as goal

pub invariant_of-result : goal.invariant_of-result
invariant_of-result g c = (
  rw (c.new.ensures.items, c.new-2.ensures.items, c.new-3.ensures.items, c.new-4.ensures) (empty_sound c.args.id c.args.quantum c.args.policy c.requires),
  let none : finmap.len c.new-4.result ≡ 0 = ap finmap.len c.new-4.ensures ∙ len-empty nat_cmp Holding in omega (arith, none, c.new-3.ensures.len),
)
