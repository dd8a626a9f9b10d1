use Rattle.std.proofs.Common.{◌≡◌, refl, sym, ap, ◌∙◌, List, [], ◌∷◌, ◌++◌, length, position, slice_get, None, arith}
use Rattle.stock.specs.OwnCaches.{OwnCacheState}
use Rattle.lease_machine.specs.Picture.{NumberedCpu, is_cpu}
use Rattle.stock_desk.proofs.NumberedCpus.{found_cpu, with_old, with_new, none_there, last_cpu, on_err}
use Rattle.stock_desk.proofs.cpus.select.Goals as goal

pub returns-in-Some-clause-index : goal.returns-in-Some-clause-index
returns-in-Some-clause-index c = found_cpu c.args.number c.args.cpus.now.items c.in-Some.index (ap (position (is_cpu c.args.number)) (sym c.as_slice.ensures.value) ∙ sym c.in-Some.ensures)

pub returns-in-Some-clause-ok : goal.returns-in-Some-clause-ok
returns-in-Some-clause-ok c d same here = with_old c.args.number c.args.cpus.now.items c.in-Some.index (ap (position (is_cpu c.args.number)) (sym c.as_slice.ensures.value) ∙ sym c.in-Some.ensures) d same

pub returns-clause-index : goal.returns-clause-index
returns-clause-index c =
    let cpu : NumberedCpu = record { number = c.args.number; caches = c.in_ok-caches.caches } in
    let count : c.len-index.result ≡ length c.reserve.new.self.items = omega (arith, c.len-index.ensures) in
    (cpu, ap (λ i. slice_get c.push_reserved.new.self.items i) count ∙ ap (λ (xs : List NumberedCpu). slice_get xs (length c.reserve.new.self.items)) c.push_reserved.ensures.items ∙ last_cpu c.reserve.new.self.items cpu, refl)

pub returns-clause-ok : goal.returns-clause-ok
returns-clause-ok c d same here =
    let cpu : NumberedCpu = record { number = c.args.number; caches = c.in_ok-caches.caches } in
    let left = c.in_default.is in
    let gave = c.index_of.ensures in
    let none : position (is_cpu c.args.number) c.as_slice.result.now ≡ None = cc in
    c.push_reserved.ensures.items
    ∙ ap (λ (xs : List NumberedCpu). xs ++ cpu ∷ []) c.in_ok-reserve.ensures.items
    ∙ ap (λ (rows : List (List OwnCacheState)). c.args.cpus.now.items ++ record { number = c.args.number; caches = rows } ∷ []) c.in_ok-caches.ensures.made
    ∙ with_new c.args.number c.args.cpus.now.items (ap (position (is_cpu c.args.number)) (sym c.as_slice.ensures.value) ∙ none) d c.args.stock.now same here

pub returns-in_err-reserve-clause-lacked : goal.returns-in_err-reserve-clause-lacked
returns-in_err-reserve-clause-lacked c =
    let left = c.in_default.is in
    let gave = c.index_of.ensures in
    let none : position (is_cpu c.args.number) c.as_slice.result.now ≡ None = cc in
    on_err c.from_residual.result _ (none_there c.args.number c.args.cpus.now.items (ap (position (is_cpu c.args.number)) (sym c.as_slice.ensures.value) ∙ none))

pub returns-in_err-caches-clause-lacked : goal.returns-in_err-caches-clause-lacked
returns-in_err-caches-clause-lacked c =
    let left = c.in_default.is in
    let gave = c.index_of.ensures in
    let none : position (is_cpu c.args.number) c.as_slice.result.now ≡ None = cc in
    on_err c.from_residual-in_err-caches.result _ (none_there c.args.number c.args.cpus.now.items (ap (position (is_cpu c.args.number)) (sym c.as_slice.ensures.value) ∙ none))
