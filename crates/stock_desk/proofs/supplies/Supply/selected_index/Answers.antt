use Rattle.std.proofs.Common.{◌≡◌, ◌∙◌, sym, ap, subst, position, None}
use Rattle.std.specs.List.{find}
use Rattle.lease_machine.specs.Picture.{is_cpu}
use Rattle.stock_desk.specs.Supplies.{SupplyState}
use Rattle.stock_desk.proofs.SelectedCpu.{no_index}
use Rattle.stock_desk.proofs.supplies.Supply.selected_index.Goals as goal

pub unreachable-requires : goal.unreachable-requires
unreachable-requires c =
    let none : position (is_cpu c.self.inside.selected) c.self.inside.cpus.items ≡ None = ap (position (is_cpu c.self.inside.selected)) (sym c.as_slice.ensures.value) ∙ sym c.index_of.ensures ∙ c.in-None.is in
    c.requires (subst (λ (s : SupplyState). find (is_cpu s.selected) s.cpus ≡ None) c.self.view_is (no_index c.self.inside.selected c.self.inside.cpus.items none))
