-- An exchange with a depot, by what the depot answered.
use Rattle.std.proofs.Common.{◌≡◌, ℕ, subst, List, Result}
use Rattle.magazine_layer.specs.Magazines.{MagazineState, BothEmpty, BothFull, empty_magazine}
use Rattle.magazine_layer.specs.Depots.{DepotState}
use Rattle.magazine_layer.specs.Calls.{SwapFullOf, SwapEmptyOf, PutFullOf}
use Rattle.magazine_layer.specs.declared.faults.FullFault.{FullFault}
use Rattle.magazine_layer.specs.declared.faults.EmptyFault.{EmptyFault}
use Rattle.magazine_layer.specs.declared.faults.PutFullFault.{PutFullFault}
use Rattle.arena_tree.specs.declared.part_faults.PartFault.{PartFault}
use Rattle.arena_tree.specs.declared.part_faults.FreshFault.{FreshFault}
use Rattle.arena_tree.specs.declared.part_faults.PartFault.TheVariants as asking
use Rattle.stock.specs.Spaces.{SpaceState, plans_of}
use Rattle.stock.specs.Stocks.{IsStock}
use Rattle.stock.specs.Accounts.{Frames}
use Rattle.stock.specs.OwnCaches.{OwnCacheState, IsAtIndexesOf, own_rounds}
use Rattle.stock.specs.Steps.{OnDepot}
use Rattle.arena_tree.specs.Tags.{wording_of}
use Rattle.local_parts.specs.OwnSteps.{fresh_word}
use Rattle.local_parts.specs.OwnSteps.{SwapsFull, SwapsEmpty, SwapsFresh}
use Rattle.local_parts.specs.OwnChanges.{OwnExchanges}

depot_does : (k j : ℕ) (P Q : DepotState → DepotState → Type 0) (old new : List SpaceState) → ((d e : DepotState) → P d e → Q d e) → OnDepot k j P old new → OnDepot k j Q old new
depot_does k j P Q old new so on =
    record { space = on.space; at = on.at; cache = on.cache; among = on.among; depot = on.depot; after = on.after; does = so on.cache.depot on.depot on.does }

module _ (old new : List SpaceState) (o o' : OwnCacheState) (index : IsAtIndexesOf o o') (frame : Frames old (own_rounds o) new (own_rounds o')) (fixed : plans_of new ≡ plans_of old) (stock : IsStock new) where
  pub full_exchanged : BothEmpty o.cpu → (r : Result (Unit {0}) FullFault) (a : Result (Unit {0}) (PartFault FullFault)) → a ≡ wording_of asking.Refused r → OnDepot o.arena o.cache (λ d e. SwapFullOf o.cpu d r o'.cpu e) old new → OwnExchanges o.arena o.cache (SwapsFull a) old new o o'
  full_exchanged empty r a told on = record { index = index; swapped = depot_does o.arena o.cache _ _ old new (λ d e did. record { empty = empty; r = r; did = did; told = told }) on; frame = frame; fixed = fixed; stock = stock }

  pub empty_exchanged : BothFull o.cpu → (r : Result (Unit {0}) EmptyFault) (a : Result (Unit {0}) (PartFault EmptyFault)) → a ≡ wording_of asking.Refused r → OnDepot o.arena o.cache (λ d e. SwapEmptyOf o.cpu d r o'.cpu e) old new → OwnExchanges o.arena o.cache (SwapsEmpty a) old new o o'
  empty_exchanged full r a told on = record { index = index; swapped = depot_does o.arena o.cache _ _ old new (λ d e did. record { full = full; r = r; did = did; told = told }) on; frame = frame; fixed = fixed; stock = stock }

  pub fresh_exchanged : BothFull o.cpu → (m : MagazineState) (r : Result (Unit {0}) (PutFullFault MagazineState)) (a : Result (Unit {0}) (PartFault FreshFault)) → m ≡ empty_magazine o.cpu.size → a ≡ wording_of fresh_word r
      → OnDepot o.arena o.cache (λ d e. PutFullOf o.cpu d m r o'.cpu e) old new → OwnExchanges o.arena o.cache (SwapsFresh a) old new o o'
  fresh_exchanged full m r a is told on = record {
    index = index;
    swapped = depot_does o.arena o.cache _ _ old new (λ d e did. record { full = full; r = r; did = subst (λ x. PutFullOf o.cpu d x r o'.cpu e) is did; told = told }) on;
    frame = frame;
    fixed = fixed;
    stock = stock;
  }
