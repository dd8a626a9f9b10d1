use Rattle.std.proofs.Common.{sym, subst, ◌∙◌}
use Rattle.lease_machine.specs.Picture.{IsPicture}
use Rattle.stock_desk.specs.Supplies.{SupplyState, picture_with, rounds_of_all}
use Rattle.stock_desk.proofs.Closing.{out_of_picture}
use Rattle.stock_desk.proofs.Draining.{same_cpu_of}
use Rattle.stock_desk.proofs.desks.Desk.close.Goals as goal

pub end_leases-requires : goal.end_leases-requires
end_leases-requires c =
    let s : SupplyState = record { tree = c.supply.inside.tree; spaces = c.supply.inside.stock; cpus = c.supply.inside.cpus.items; selected = c.supply.inside.selected } in
    let is : IsPicture (picture_with c.self.inside.book s) = subst (λ (x : SupplyState). IsPicture (picture_with c.self.inside.book x)) (sym c.supply.view_is) c.self.invariant in
    (rounds_of_all c.supply.inside.cpus.items, out_of_picture (picture_with c.self.inside.book s) is)

pub empty_all-requires-clause-setup : goal.empty_all-requires-clause-setup
empty_all-requires-clause-setup c =
    let s : SupplyState = record { tree = c.supply.inside.tree; spaces = c.supply.inside.stock; cpus = c.supply.inside.cpus.items; selected = c.supply.inside.selected } in
    let is : IsPicture (picture_with c.self.inside.book s) = subst (λ (x : SupplyState). IsPicture (picture_with c.self.inside.book x)) (sym c.supply.view_is) c.self.invariant in
    c.end_leases.ensures.fixed ∙ is.held.plans

pub empty_all-requires-clause-of : goal.empty_all-requires-clause-of
empty_all-requires-clause-of c =
    let s : SupplyState = record { tree = c.supply.inside.tree; spaces = c.supply.inside.stock; cpus = c.supply.inside.cpus.items; selected = c.supply.inside.selected } in
    let is : IsPicture (picture_with c.self.inside.book s) = subst (λ (x : SupplyState). IsPicture (picture_with c.self.inside.book x)) (sym c.supply.view_is) c.self.invariant in
    λ i x below. same_cpu_of c.supply.inside.stock c.end_leases.new.stock c.end_leases.ensures.fixed _ (is.held.cpus.each i x below).1

pub empty_all-requires-clause-out : goal.empty_all-requires-clause-out
empty_all-requires-clause-out c =
    let s : SupplyState = record { tree = c.supply.inside.tree; spaces = c.supply.inside.stock; cpus = c.supply.inside.cpus.items; selected = c.supply.inside.selected } in
    let is : IsPicture (picture_with c.self.inside.book s) = subst (λ (x : SupplyState). IsPicture (picture_with c.self.inside.book x)) (sym c.supply.view_is) c.self.invariant in
    c.end_leases.ensures.out (rounds_of_all c.supply.inside.cpus.items) (out_of_picture (picture_with c.self.inside.book s) is)
