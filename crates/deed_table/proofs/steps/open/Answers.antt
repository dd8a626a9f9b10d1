use Rattle.std.proofs.Common.{rules, refl}
use Rattle.atomic_table.specs.Table.{keeps}
use Rattle.deed_table.specs.View.{opened_view}
use Rattle.deed_table.proofs.Keeps.{keeps_open}
use Rattle.deed_table.proofs.steps.open.Goals as goal

pub load-requires : goal.load-requires
load-requires g c =
    let v = c.args.seat.now.me.0 in
    let e = g.C.ChosenRange.range in
    let new = c.requires.new in (
      c.requires.seat.0,
      search rules,
      λ s k homes at fits. (opened_view e v, keeps, tt, keeps_open s.views _ v e k at new.0 new.1 new.2, refl),
    )
