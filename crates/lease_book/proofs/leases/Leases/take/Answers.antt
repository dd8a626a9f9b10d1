use Rattle.std.proofs.Common.{◌≤◌, ◌++◌, List, length, sym, ap, subst, arith, ◌∙◌}
use Rattle.lease_book.specs.Account.{Lease}
use Rattle.lease_book.specs.Places.{is_asked, leases_in}
use Rattle.lease_book.specs.Shelf.{NoneBefore}
use Rattle.lease_book.proofs.EachLemmas.{shorter, all_without}
use Rattle.lease_book.proofs.leases.Leases.take.Goals as goal

pub invariant_of-self-2 : goal.invariant_of-self-2
invariant_of-self-2 g c =
    let test = is_asked c.args.which in
    let before : List Lease = c.self.inside.few ++ leases_in c.self.inside.places.places in
    let less = shorter test before c.in_ok-held.held (c.take_out.ensures.lease ∙ c.in_ok-held.was) in (
      omega (arith, less, c.self.invariant.0, ap length c.take_out.ensures.rest),
      subst (NoneBefore c.self.inside.least) (sym c.take_out.ensures.rest) (all_without (λ (l : Lease). c.self.inside.least ≤ l.incarnation) test before c.self.invariant.1),
    )
