use Rattle.std.proofs.Common.{◌≡◌, ◌<◌, ◌≤◌, ◌∷◌, [], ◌++◌, length, List, sym, ap, subst, ◌∙◌, arith}
use Rattle.std.proofs.Math.ListN.{set}
use Rattle.std.proofs.Math.Nat.{min-le_left, min-le_right}
use Rattle.lease_book.specs.declared.books.TheConstants.{MOST_LEASES}
use Rattle.lease_book.specs.Account.{Lease, Account}
use Rattle.lease_book.specs.Shelf.{IsShelf, IsEmptyBefore, accounts_of, update_at, with_leases}
use Rattle.lease_book.specs.Totals.{IsCounted}
use Rattle.lease_book.proofs.ShelfLemmas.{within_parts, shelf_set, set_same, empty_set, empty_less, leases_there, limited_after, write_leases}
use Rattle.lease_book.proofs.CountLemmas.{one_fits, counted_more, counted_back}
use Rattle.lease_book.proofs.accounts.Accounts.lease.Goals as goal

pub add-requires : goal.add-requires
add-requires g c = one_fits _ _ _ _ _ c.self.invariant.shelf c.self.invariant.counted (omega (arith, c.arena_and_units-arena.ensures.units, c.arena_and_units-arena.ensures.range.below))

pub index_mut-requires : goal.index_mut-requires
index_mut-requires g c =
    let within : c.args.index < length c.self.inside.leases.items = (within_parts _ _ _ _ c.self.view_is c.self.invariant.shelf.together c.requires.within).1 in
    omega arith

pub add-requires-2 : goal.add-requires-2
add-requires-2 g c =
    let within : c.args.index < length c.self.inside.leases.items = (within_parts _ _ _ _ c.self.view_is c.self.invariant.shelf.together c.requires.within).1 in
    leases_there (λ (l : List Lease). length l < MOST_LEASES) _ _ _ _ _ c.self.view_is c.self.invariant.shelf.together within c.index_mut.ensures.value c.requires.room

pub invariant_of-self-in-Ok-add : goal.invariant_of-self-in-Ok-add
invariant_of-self-in-Ok-add g c =
    let within : c.args.index < length c.self.inside.leases.items = (within_parts _ _ _ _ c.self.view_is c.self.invariant.shelf.together c.requires.within).1 in
    let few = leases_there (λ (l : List Lease). length l < MOST_LEASES) _ _ _ _ _ c.self.view_is c.self.invariant.shelf.together within c.index_mut.ensures.value c.requires.room in
    let index : c.min-self-inside.result ≤ c.args.index = omega (arith, c.min-self-inside.ensures, min-le_right c.self.inside.empty c.args.index) in
    let empty : c.min-self-inside.result ≤ c.self.inside.empty = omega (arith, c.min-self-inside.ensures, min-le_left c.self.inside.empty c.args.index) in
    let own = c.arena_and_units-arena.ensures in
    record {
      shelf = shelf_set _ _ _ _ c.self.invariant.shelf (limited_after c.add-2.result _ _ _ few c.add-2.ensures.ok c.add-2.ensures.unchanged);
      before = empty_set _ _ _ _ index (empty_less _ _ _ empty c.self.invariant.before);
      counted = counted_more _ _ _ _ _ _ c.args.held _ _ c.self.invariant.counted within c.index_mut.ensures.value c.in-Ok-add.ensures.ok own.range own.arena own.units c.in-Ok.ensures.ok;
    }

pub invariant_of-self-in-Err : goal.invariant_of-self-in-Err
invariant_of-self-in-Err g c =
    let ls : List (List Lease) = c.self.inside.leases.items in
    let same : set ls c.args.index c.add-2.new.self ≡ ls = set_same ls c.args.index _ _ c.index_mut.ensures.value c.in-Err.ensures.unchanged in
    let empty : c.min-self-inside.result ≤ c.self.inside.empty = omega (arith, c.min-self-inside.ensures, min-le_left c.self.inside.empty c.args.index) in
    record {
      shelf = subst (λ (xs : List (List Lease)). IsShelf c.self.inside.clients.entries xs) (sym same) c.self.invariant.shelf;
      before = subst (IsEmptyBefore c.min-self-inside.result) (sym same) (empty_less _ _ _ empty c.self.invariant.before);
      counted = subst (λ (xs : List (List Lease)). IsCounted xs c.subtract.new.self) (sym same) (counted_back _ _ _ _ _ _ c.self.invariant.counted c.in-Ok.ensures.ok c.subtract.ensures);
    }

pub returns-in-Ok-add-clause-ok : goal.returns-in-Ok-add-clause-ok
returns-in-Ok-add-clause-ok g c =
    ap (λ (l : List Lease). accounts_of c.self.inside.clients.entries (set c.self.inside.leases.items c.args.index l)) c.in-Ok-add.ensures.ok
    ∙ write_leases (λ ls. ls ++ c.args.held ∷ []) _ _ _ _ c.index_mut.ensures.value ∙ ap (λ (xs : List Account). update_at xs c.args.index (with_leases (λ ls. ls ++ c.args.held ∷ []))) c.self.view_is
