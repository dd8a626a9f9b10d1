use Rattle.std.proofs.Common.{sym, subst, set}
use Rattle.lease_machine.specs.Conversations.{AnswersRequest}
use Rattle.lease_machine.specs.Picture.{NumberedCpu, IsPicture}
use Rattle.stock_desk.specs.Supplies.{SupplyState, picture_with, local_of}
use Rattle.stock_desk.proofs.SelectedParts.{selected_first, selected_at}
use Rattle.stock_desk.proofs.AnsweredSo.{call_local, request_so}
use Rattle.stock_desk.proofs.supplies.Supply.ask.Goals as goal

pub request_with-requires : goal.request_with-requires
request_with-requires c =
    let is = subst (λ (x : SupplyState). IsPicture (picture_with c.args.book.now x)) (sym c.self.view_is) c.requires in
    let s : SupplyState = record { tree = c.self.inside.tree; spaces = c.self.inside.stock; cpus = c.self.inside.cpus.items; selected = c.self.inside.selected } in
    let cpu : NumberedCpu = record { number = c.cpu.inside.number; caches = c.cpu.inside.caches } in
    let first = selected_first s _ c.self.view_is _ c.selected_index-index.ensures.index in
    let at = selected_at s _ c.self.view_is _ c.index_mut-cpu.result.now cpu c.selected_index-index.ensures.within c.index_mut-cpu.ensures.value c.cpu.view_is in
    record { local = call_local (picture_with c.args.book.now s) c.selected_index-index.result cpu first at is }

pub returns : goal.returns
returns c =
    let is = subst (λ (x : SupplyState). IsPicture (picture_with c.args.book.now x)) (sym c.self.view_is) c.requires in
    let s : SupplyState = record { tree = c.self.inside.tree; spaces = c.self.inside.stock; cpus = c.self.inside.cpus.items; selected = c.self.inside.selected } in
    let cpu : NumberedCpu = record { number = c.cpu.inside.number; caches = c.cpu.inside.caches } in
    let first = selected_first s _ c.self.view_is _ c.selected_index-index.ensures.index in
    let at = selected_at s _ c.self.view_is _ c.index_mut-cpu.result.now cpu c.selected_index-index.ensures.within c.index_mut-cpu.ensures.value c.cpu.view_is in
    subst (λ (x : SupplyState). AnswersRequest c.args.id c.args.op.now (picture_with c.args.book.now x) (picture_with c.request_with.new.book (record s { spaces = c.request_with.new.stock; cpus = set s.cpus c.selected_index-index.result (record { number = c.cpu.inside.number; caches = c.request_with.new.cpu }) })) c.request_with.result) c.self.view_is
    (request_so (picture_with c.args.book.now s) c.selected_index-index.result cpu first at is c.request_with.new.book (local_of c.request_with.new.stock c.request_with.new.cpu) c.args.id c.args.op.now c.request_with.result c.request_with.ensures.ran)
