use Rattle.std.proofs.Common.{◌≡◌, List, IfSome, slice_get, None, true, subst}
use Rattle.std.specs.List.{find}
use Rattle.lease_book.specs.Account.{Account}
use Rattle.lease_book.proofs.BookLemmas.{taken_at, one_found}
use Rattle.lease_book.proofs.books.Book.take_lease.Goals as goal

pub returns-in_err-held-clause-exactly : goal.returns-in_err-held-clause-exactly
returns-in_err-held-clause-exactly g c =
    absurd (one_found _ c.in_ok-index.index c.in_ok-index.ensures.within c.in_ok-index.ensures.found
    (subst (λ (xs : List Account). IfSome (slice_get xs c.in_ok-index.index) (λ a. find (λ x. true) a.leases ≡ None)) c.first_leased.ensures.unchanged c.in_err-held.ensures.lease))

pub invariant_of-self-2 : goal.invariant_of-self-2
invariant_of-self-2 g c =
    (taken_at _ _ _ _ c.in_ok-index.index _ c.in_ok-held.held c.ended.result c.ended.ensures c.self.view_is c.first_leased.ensures.unchanged c.in_ok-index.ensures.within c.in_ok-index.ensures.own c.client-client.ensures
    c.in_ok-held.ensures.lease c.in_ok-held.ensures.rest c.self.invariant).0

pub returns-clause-taken : goal.returns-clause-taken
returns-clause-taken g c =
    (taken_at _ _ _ _ c.in_ok-index.index _ c.in_ok-held.held c.ended.result c.ended.ensures c.self.view_is c.first_leased.ensures.unchanged c.in_ok-index.ensures.within c.in_ok-index.ensures.own c.client-client.ensures
    c.in_ok-held.ensures.lease c.in_ok-held.ensures.rest c.self.invariant).1
