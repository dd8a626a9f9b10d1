use Rattle.std.proofs.Common.{ap, length, arith, insert, remove, ◌∙◌}
use Rattle.sorted_rows.proofs.StruckLemmas.{set_is}
use Rattle.sorted_rows.proofs.row.Row.set.Goals as goal

pub returns : goal.returns
returns g c =
    let size = ap length c.self.view_is in
    set_is c.self.inside.items.items c.args.at c.args.entry (omega (arith, size, c.requires)) ∙ ap (λ xs. insert (remove xs c.args.at) c.args.at c.args.entry) c.self.view_is
