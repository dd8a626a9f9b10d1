use Rattle.std.proofs.Common.{◌≡◌, arith}
use Rattle.std.proofs.lemmas.Bool.{eqb-true}
use Rattle.lease_book.proofs.ShelfLemmas.{stands_there}
use Rattle.lease_book.proofs.accounts.Accounts.is_at.Goals as goal

pub returns-in-Some-clause-within : goal.returns-in-Some-clause-within
returns-in-Some-clause-within g c is =
    let same : c.get.result ≡ c.get-in-Some.result = eqb-true _ _ is in
    (stands_there c.args.client _ _ _ c.args.index _ c.self.view_is c.self.invariant.shelf c.in-Some.ensures.entry (omega (arith, same, c.get.ensures.value, c.get-in-Some.ensures.value))).0

pub returns-in-Some-clause-found : goal.returns-in-Some-clause-found
returns-in-Some-clause-found g c is =
    let same : c.get.result ≡ c.get-in-Some.result = eqb-true _ _ is in
    (stands_there c.args.client _ _ _ c.args.index _ c.self.view_is c.self.invariant.shelf c.in-Some.ensures.entry (omega (arith, same, c.get.ensures.value, c.get-in-Some.ensures.value))).1
