use Rattle.std.proofs.Common.{List, ◌∷◌, [], ◌++◌, ap, sym, subst, ◌∙◌}
use Rattle.lease_book.specs.Account.{Lease}
use Rattle.lease_book.specs.Shelf.{IsEmptyBefore}
use Rattle.lease_book.specs.Totals.{IsCounted}
use Rattle.lease_book.proofs.ShelfLemmas.{inserted, opened_shelf, opened_accounts, empty_push}
use Rattle.lease_book.proofs.CountLemmas.{counted_push}
use Rattle.lease_book.proofs.accounts.Accounts.open.Goals as goal

pub invariant_of-self-2 : goal.invariant_of-self-2
invariant_of-self-2 g c =
    let entries = inserted c.reserve-2.new.self _ c.insert.new.self.entries _ _ c.args.client c.args.standing c.self.view_is c.self.invariant.shelf.together c.requires c.reserve-2.ensures.entries c.in-Ok.ensures.entries in
    let leases = c.push_reserved.ensures.items ∙ ap (λ (xs : List (List Lease)). xs ++ c.new-leases.result ∷ []) c.reserve.ensures.items in
    record {
      shelf = opened_shelf _ _ _ _ _ _ _ c.self.invariant.shelf c.get.ensures.range entries leases c.new-leases.ensures c.in-Ok.ensures.unique;
      before = subst (IsEmptyBefore c.self.inside.empty) (sym (leases ∙ ap (λ (x : List Lease). c.self.inside.leases.items ++ x ∷ []) c.new-leases.ensures)) (empty_push _ _ c.self.invariant.before);
      counted = subst (λ (xs : List (List Lease)). IsCounted xs c.self.inside.totals) (sym (leases ∙ ap (λ (x : List Lease). c.self.inside.leases.items ++ x ∷ []) c.new-leases.ensures)) (counted_push _ _ c.self.invariant.counted);
    }

pub returns-clause-ok : goal.returns-clause-ok
returns-clause-ok g c =
    let entries = inserted c.reserve-2.new.self _ c.insert.new.self.entries _ _ c.args.client c.args.standing c.self.view_is c.self.invariant.shelf.together c.requires c.reserve-2.ensures.entries c.in-Ok.ensures.entries in
    let leases = c.push_reserved.ensures.items ∙ ap (λ (xs : List (List Lease)). xs ++ c.new-leases.result ∷ []) c.reserve.ensures.items in
    opened_accounts _ _ _ _ _ _ _ _ c.self.view_is c.self.invariant.shelf.together entries leases c.new-leases.ensures
