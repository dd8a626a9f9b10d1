use Rattle.std.proofs.Common.{rules}
use Rattle.deed_table.proofs.Keeps.{keeps_join, even_beside}
use Rattle.deed_table.proofs.steps.put_beside.Goals as goal

pub join_seat-requires : goal.join_seat-requires
join_seat-requires c =
    let v = c.args.seat.now.me.0 in
    let w = c.args.other.me.0 in (
      c.requires.seat.0,
      c.requires.other.0,
      c.requires.other.1,
      search rules,
      λ s k at apart too. keeps_join s.views _ _ v w _ k at too (even_beside v w c.requires.numbers),
    )
