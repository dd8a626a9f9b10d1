use Rattle.std.proofs.Common.{ℕ, List, Option, nat_lt, length, position, ap, subst, sym, ◌∙◌}
use Rattle.lease_book.specs.Account.{Lease}
use Rattle.lease_book.specs.Shelf.{IsEmptyBefore}
use Rattle.lease_book.proofs.ShelfLemmas.{own_place}
use Rattle.lease_book.proofs.WeightLemmas.{IsLeased, leased_of}
use Rattle.lease_book.proofs.BookLemmas.{if_none}
use Rattle.lease_book.proofs.accounts.Accounts.first_leased.Goals as goal

pub first_leased-requires : goal.first_leased-requires
first_leased-requires g c = subst (λ (ls : List (List Lease)). IsEmptyBefore c.self.inside.empty ls) (sym c.deref.ensures.value) c.self.invariant.before

pub invariant_of-self : goal.invariant_of-self
invariant_of-self g c = record {
  shelf = c.self.invariant.shelf;
  before = subst (λ (ls : List (List Lease)). IsEmptyBefore c.in_ok-index.index ls) c.deref.ensures.value c.in_ok-index.ensures.before;
  counted = c.self.invariant.counted;
}

pub returns-in_err-index-clause-none : goal.returns-in_err-index-clause-none
returns-in_err-index-clause-none g c =
    let leased = leased_of _ _ _ _ c.self.view_is c.self.invariant.shelf.together (c.first_leased.ensures.value ∙ ap (λ (ls : List (List Lease)). position (λ l. nat_lt 0 (length l)) ls) c.deref.ensures.value) in
    if_none c.from_residual.result (subst (λ (r : Option ℕ). IsLeased c.args.self.now r) c.in_err-index.was leased).none

pub returns-clause-within : goal.returns-clause-within
returns-clause-within g c =
    let leased = leased_of _ _ _ _ c.self.view_is c.self.invariant.shelf.together (c.first_leased.ensures.value ∙ ap (λ (ls : List (List Lease)). position (λ l. nat_lt 0 (length l)) ls) c.deref.ensures.value) in
    (subst (λ (r : Option ℕ). IsLeased c.args.self.now r) c.in_ok-index.was leased).within

pub returns-clause-found : goal.returns-clause-found
returns-clause-found g c =
    let leased = leased_of _ _ _ _ c.self.view_is c.self.invariant.shelf.together (c.first_leased.ensures.value ∙ ap (λ (ls : List (List Lease)). position (λ l. nat_lt 0 (length l)) ls) c.deref.ensures.value) in
    (subst (λ (r : Option ℕ). IsLeased c.args.self.now r) c.in_ok-index.was leased).found

pub returns-clause-own : goal.returns-clause-own
returns-clause-own g c = own_place _ _ _ c.in_ok-index.index c.self.view_is c.self.invariant.shelf

pub returns-clause-some : goal.returns-clause-some
returns-clause-some g c =
    let leased = leased_of _ _ _ _ c.self.view_is c.self.invariant.shelf.together (c.first_leased.ensures.value ∙ ap (λ (ls : List (List Lease)). position (λ l. nat_lt 0 (length l)) ls) c.deref.ensures.value) in
    (subst (λ (r : Option ℕ). IsLeased c.args.self.now r) c.in_ok-index.was leased).some
