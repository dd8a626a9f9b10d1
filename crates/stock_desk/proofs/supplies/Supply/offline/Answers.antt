use Rattle.std.proofs.Common.{◌≡◌, ◌<◌, ◌∙◌, sym, ap, subst, List, [], ◌++◌, length, position, set, Some, None, Ok, ℕ}
use Rattle.std.specs.Prelude.{slice_get}
use Rattle.deed_core.specs.Tag.{Tag}
use Rattle.deed_core.proofs.LawProofs.{slice_get_here}
use Rattle.stock.specs.Accounts.{Accounts}
use Rattle.stock.specs.OwnCaches.{OwnCacheState}
use Rattle.stock.specs.Spaces.{plans_of}
use Rattle.local_parts.specs.Cpus.{cpu_rounds, new_cpu}
use Rattle.quantum_cache.specs.Drains.{drain_plan}
use Rattle.local_calls.specs.Runs.{RunsTo}
use Rattle.lease_machine.specs.Picture.{NumberedCpu, is_cpu, IsHeld}
use Rattle.stock_desk.specs.Operators.{IsOffline}
use Rattle.stock_desk.specs.Supplies.{SupplyState, picture_with, local_of}
use Rattle.stock_desk.proofs.NumberedCpus.{first_is}
use Rattle.stock_desk.proofs.GoingOffline.{found_there, was_offline, off_out, went_offline, on_err}
use Rattle.stock_desk.proofs.supplies.Supply.offline.Goals as goal

pub returns-in_default-clause-ok : goal.returns-in_default-clause-ok
returns-in_default-clause-ok c b held =
    let none : position (is_cpu c.args.number) c.self.inside.cpus.items ≡ None = ap (position (is_cpu c.args.number)) (sym c.as_slice.ensures.value) ∙ sym c.index_of.ensures ∙ c.in_default.is in
    was_offline c.args.number (picture_with b c.args.self.now) (subst (λ (s : SupplyState). position (is_cpu c.args.number) s.cpus ≡ None) c.self.view_is none) held

pub returns-in_err-fresh-clause-err : goal.returns-in_err-fresh-clause-err
returns-in_err-fresh-clause-err c =
    let first : position (is_cpu c.args.number) c.self.inside.cpus.items ≡ Some c.in-Some.index = ap (position (is_cpu c.args.number)) (sym c.as_slice.ensures.value) ∙ sym c.in-Some.ensures in
    on_err c.from_residual.result (found_there c.args.number c.args.self.now.cpus c.in-Some.index (subst (λ (s : SupplyState). position (is_cpu c.args.number) s.cpus ≡ Some c.in-Some.index) c.self.view_is first))

pub empty-requires-clause-out : goal.empty-requires-clause-out
empty-requires-clause-out c =
    let (b, now) = c.requires.held in
    let held = subst (λ (s : SupplyState). IsHeld [] (picture_with b s)) (sym c.self.view_is) now in
    let first : position (is_cpu c.args.number) c.self.inside.cpus.items ≡ Some c.in-Some.index = ap (position (is_cpu c.args.number)) (sym c.as_slice.ensures.value) ∙ sym c.in-Some.ensures in
    let within : c.in-Some.index < length c.self.inside.cpus.items = (let is = first_is c.args.number c.self.inside.cpus.items c.in-Some.index first in subst (λ i. i < length c.self.inside.cpus.items) (sym is.0) is.1) in
    let cpu : NumberedCpu = record { number = c.cpu.inside.number; caches = c.cpu.inside.caches } in
    let at : slice_get c.self.inside.cpus.items c.in-Some.index ≡ Some cpu = slice_get_here c.self.inside.cpus.items c.in-Some.index c.index_mut-cpu.result.now within c.index_mut-cpu.ensures.value ∙ ap (λ (x : NumberedCpu). Some x) (sym c.cpu.view_is) in
    subst (λ (rows : List (List OwnCacheState)). (others : List Tag) × Accounts c.self.inside.stock (cpu_rounds rows ++ others)) (sym c.replace-old.ensures.value)
    (off_out (picture_with b (record { tree = c.self.inside.tree; spaces = c.self.inside.stock; cpus = c.self.inside.cpus.items; selected = c.self.inside.selected })) c.args.number c.in-Some.index cpu first at held)

pub returns-clause-ok : goal.returns-clause-ok
returns-clause-ok c b now =
    let held = subst (λ (s : SupplyState). IsHeld [] (picture_with b s)) (sym c.self.view_is) now in
    let first : position (is_cpu c.args.number) c.self.inside.cpus.items ≡ Some c.in-Some.index = ap (position (is_cpu c.args.number)) (sym c.as_slice.ensures.value) ∙ sym c.in-Some.ensures in
    let within : c.in-Some.index < length c.self.inside.cpus.items = (let is = first_is c.args.number c.self.inside.cpus.items c.in-Some.index first in subst (λ i. i < length c.self.inside.cpus.items) (sym is.0) is.1) in
    let cpu : NumberedCpu = record { number = c.cpu.inside.number; caches = c.cpu.inside.caches } in
    let at : slice_get c.self.inside.cpus.items c.in-Some.index ≡ Some cpu = slice_get_here c.self.inside.cpus.items c.in-Some.index c.index_mut-cpu.result.now within c.index_mut-cpu.ensures.value ∙ ap (λ (x : NumberedCpu). Some x) (sym c.cpu.view_is) in
    let fresh : c.replace-old.new.dest ≡ new_cpu 3 (plans_of c.self.inside.stock) = c.replace-old.ensures.after ∙ c.in_ok-fresh.ensures.made in
    let drained = subst (λ (rows : List (List OwnCacheState)). (turns : ℕ) → length (cpu_rounds rows) < turns → (left : List (List OwnCacheState)) × RunsTo c.self.inside.tree (drain_plan turns c.self.inside.tree) (local_of c.self.inside.stock rows) (local_of c.empty.new.stock left) (Ok tt)) c.replace-old.ensures.value c.empty.ensures.ran in
    subst (λ (s : SupplyState). IsOffline c.args.number (picture_with b s) (picture_with b (record { tree = c.self.inside.tree; spaces = c.empty.new.stock; cpus = (set c.self.inside.cpus.items c.in-Some.index (record { number = c.cpu.inside.number; caches = c.replace-old.new.dest })); selected = c.self.inside.selected }))) c.self.view_is
    (subst (λ (rows : List (List OwnCacheState)). IsOffline c.args.number (picture_with b (record { tree = c.self.inside.tree; spaces = c.self.inside.stock; cpus = c.self.inside.cpus.items; selected = c.self.inside.selected })) (picture_with b (record { tree = c.self.inside.tree; spaces = c.empty.new.stock; cpus = (set c.self.inside.cpus.items c.in-Some.index (record { number = c.cpu.inside.number; caches = rows })); selected = c.self.inside.selected }))) (sym fresh)
    (went_offline (picture_with b (record { tree = c.self.inside.tree; spaces = c.self.inside.stock; cpus = c.self.inside.cpus.items; selected = c.self.inside.selected })) c.args.number c.in-Some.index cpu first at held c.empty.new.stock drained))
