use Rattle.std.proofs.Common.{sym, subst, [], set}
use Rattle.lease_machine.specs.Picture.{NumberedCpu, IsHeld}
use Rattle.stock_desk.specs.Supplies.{SupplyState, picture_with, local_of}
use Rattle.stock_desk.specs.Operators.{IsReapedOnce}
use Rattle.stock_desk.proofs.SelectedParts.{selected_first, selected_at, parts_out}
use Rattle.stock_desk.proofs.Reaping.{reaped_so}
use Rattle.stock_desk.proofs.supplies.Supply.reap_once.Goals as goal

pub reap_with-requires-clause-out : goal.reap_with-requires-clause-out
reap_with-requires-clause-out c =
    let (b, now) = c.requires.held in
    let held = subst (λ (x : SupplyState). IsHeld [] (picture_with b x)) (sym c.self.view_is) now in
    let s : SupplyState = record { tree = c.self.inside.tree; spaces = c.self.inside.stock; cpus = c.self.inside.cpus.items; selected = c.self.inside.selected } in
    let cpu : NumberedCpu = record { number = c.cpu.inside.number; caches = c.cpu.inside.caches } in
    let first = selected_first s _ c.self.view_is _ c.selected_index-index.ensures.index in
    let at = selected_at s _ c.self.view_is _ c.index_mut-cpu.result.now cpu c.selected_index-index.ensures.within c.index_mut-cpu.ensures.value c.cpu.view_is in
    parts_out (picture_with b s) c.selected_index-index.result cpu first at held

pub returns : goal.returns
returns c b now =
    let held = subst (λ (x : SupplyState). IsHeld [] (picture_with b x)) (sym c.self.view_is) now in
    let s : SupplyState = record { tree = c.self.inside.tree; spaces = c.self.inside.stock; cpus = c.self.inside.cpus.items; selected = c.self.inside.selected } in
    let cpu : NumberedCpu = record { number = c.cpu.inside.number; caches = c.cpu.inside.caches } in
    let first = selected_first s _ c.self.view_is _ c.selected_index-index.ensures.index in
    let at = selected_at s _ c.self.view_is _ c.index_mut-cpu.result.now cpu c.selected_index-index.ensures.within c.index_mut-cpu.ensures.value c.cpu.view_is in
    subst (λ (x : SupplyState). IsReapedOnce c.reap_with.result (picture_with b x) (picture_with b (record s { spaces = c.reap_with.new.stock; cpus = set s.cpus c.selected_index-index.result (record { number = c.cpu.inside.number; caches = c.reap_with.new.cpu }) }))) c.self.view_is
    (reaped_so (picture_with b s) c.selected_index-index.result cpu first at held (local_of c.reap_with.new.stock c.reap_with.new.cpu) c.reap_with.result c.reap_with.ensures.ran)
