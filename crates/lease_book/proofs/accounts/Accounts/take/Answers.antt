use Rattle.std.proofs.Common.{◌≡◌, ◌<◌, ◌≤◌, length, List, Some, arith, sym, ap, subst, ◌∙◌}
use Rattle.std.specs.List.{find}
use Rattle.std.proofs.Math.ListN.{set}
use Rattle.lease_book.specs.declared.books.TheConstants.{MOST_LEASES}
use Rattle.lease_book.specs.Account.{Lease, Account, without_first}
use Rattle.lease_book.specs.Places.{is_asked}
use Rattle.lease_book.specs.Shelf.{IsStored, accounts_of, update_at, with_leases}
use Rattle.lease_book.proofs.PlaceLemmas.{without_fewer}
use Rattle.lease_book.proofs.ShelfLemmas.{within_parts, shelf_set, set_same, empty_shorter, limited_at, leases_here, write_leases}
use Rattle.lease_book.proofs.CountLemmas.{one_there, counted_less}
use Rattle.lease_book.proofs.accounts.Accounts.take.Goals as goal

pub index_mut-requires : goal.index_mut-requires
index_mut-requires g c =
    let within : c.args.index < length c.self.inside.leases.items = (within_parts _ _ _ _ c.self.view_is c.self.invariant.shelf.together c.requires).1 in
    omega arith

pub invariant_of-self : goal.invariant_of-self
invariant_of-self g c =
    let ls : List (List Lease) = c.self.inside.leases.items in
    let same : set ls c.args.index c.take.new.self ≡ ls = set_same ls c.args.index _ _ c.index_mut.ensures.value c.in_err-held.ensures.unchanged in
    subst (λ (xs : List (List Lease)). IsStored c.self.inside.clients.entries xs c.self.inside.empty c.self.inside.totals) (sym same) c.self.invariant

pub returns-in_err-held-clause-lease : goal.returns-in_err-held-clause-lease
returns-in_err-held-clause-lease g c =
    leases_here (λ (l : List Lease). find (is_asked c.args.which) l ≡ c.from_residual.result) _ _ _ _ _ c.self.view_is c.self.invariant.shelf.together
    c.index_mut.ensures.value (c.in_err-held.ensures.lease ∙ sym c.from_residual.ensures)

pub returns-in_err-held-clause-rest : goal.returns-in_err-held-clause-rest
returns-in_err-held-clause-rest g c =
    ap (λ (l : List Lease). accounts_of c.self.inside.clients.entries (set c.self.inside.leases.items c.args.index l)) c.take.ensures.rest
    ∙ write_leases (without_first (is_asked c.args.which)) _ _ _ _ c.index_mut.ensures.value ∙ ap (λ (xs : List Account). update_at xs c.args.index (with_leases (without_first (is_asked c.args.which)))) c.self.view_is

pub subtract-requires : goal.subtract-requires
subtract-requires g c =
    let within : c.args.index < length c.self.inside.leases.items = (within_parts _ _ _ _ c.self.view_is c.self.invariant.shelf.together c.requires).1 in
    let own = c.arena_and_units-arena.ensures in
    one_there _ _ _ _ (is_asked c.args.which) c.in_ok-held.held _ _ c.self.invariant.counted within c.index_mut.ensures.value c.in_ok-held.ensures.lease own.arena own.units

pub invariant_of-self-2 : goal.invariant_of-self-2
invariant_of-self-2 g c =
    let within : c.args.index < length c.self.inside.leases.items = (within_parts _ _ _ _ c.self.view_is c.self.invariant.shelf.together c.requires).1 in
    let small : length c.index_mut.result.now ≤ MOST_LEASES = limited_at _ _ _ _ c.self.invariant.shelf within c.index_mut.ensures.value in
    let less : length c.take.new.self ≤ length c.index_mut.result.now = omega (arith, ap length c.take.ensures.rest, without_fewer (is_asked c.args.which) c.index_mut.result.now) in
    let own = c.arena_and_units-arena.ensures in
    record {
      shelf = shelf_set _ _ _ _ c.self.invariant.shelf (omega (arith, small, less));
      before = empty_shorter _ _ _ _ _ c.index_mut.ensures.value less c.self.invariant.before;
      counted = counted_less _ _ _ _ _ _ (is_asked c.args.which) c.in_ok-held.held _ _ c.self.invariant.counted within c.index_mut.ensures.value c.in_ok-held.ensures.lease c.take.ensures.rest own.arena own.units c.subtract.ensures;
    }

pub returns-clause-lease : goal.returns-clause-lease
returns-clause-lease g c =
    leases_here (λ (l : List Lease). find (is_asked c.args.which) l ≡ Some c.in_ok-held.held) _ _ _ _ _ c.self.view_is c.self.invariant.shelf.together
    c.index_mut.ensures.value c.in_ok-held.ensures.lease

pub returns-clause-rest : goal.returns-clause-rest
returns-clause-rest g c =
    ap (λ (l : List Lease). accounts_of c.self.inside.clients.entries (set c.self.inside.leases.items c.args.index l)) c.take.ensures.rest
    ∙ write_leases (without_first (is_asked c.args.which)) _ _ _ _ c.index_mut.ensures.value ∙ ap (λ (xs : List Account). update_at xs c.args.index (with_leases (without_first (is_asked c.args.which)))) c.self.view_is
