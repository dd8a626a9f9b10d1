-- What a step of a script leaves balanced.
use Rattle.std.proofs.Common.{◌≡◌, ℕ, ◌+◌, List, [], ◌++◌, arith}
use Rattle.std.specs.Prelude.{sum_by}
use Rattle.std.proofs.lemmas.List.Sums.{sum_by-append}
use Rattle.deed_core.specs.Tag.{Tag}
use Rattle.deed_core.specs.Weights.{WeighSame}
use Rattle.stock.specs.Spaces.{SpaceState}
use Rattle.stock.specs.Accounts.{Frames}
use Rattle.stock.specs.OwnCaches.{OwnCacheState, own_rounds}
use Rattle.stock.proofs.LawProofs.{out_weighs}
use Rattle.stock_tests.specs.Walks.{Balances}

-- one CPU's cache
one_cpu : (f : Tag → ℕ) (hand leases : List Tag) (cpu : OwnCacheState) → sum_by f (hand ++ (leases ++ (own_rounds cpu ++ []))) ≡ sum_by f hand + sum_by f leases + sum_by f (own_rounds cpu)
one_cpu f hand leases cpu = omega (arith, sum_by-append f hand (leases ++ (own_rounds cpu ++ [])), sum_by-append f leases (own_rounds cpu ++ []), sum_by-append f (own_rounds cpu) [])

-- an event: what it takes out of the hand, what it does, and what goes into the hand
pub event_balances : (old new : List SpaceState) (hand kept after leases given answered : List Tag) (cpu cpu_after : OwnCacheState)
    → WeighSame hand (given ++ kept) → Frames old (given ++ own_rounds cpu) new (answered ++ own_rounds cpu_after) → WeighSame (answered ++ kept) after
    → Balances old hand leases cpu → Balances new after leases cpu_after
event_balances old new hand kept after leases given answered cpu cpu_after taken frame put a =
    out_weighs new ((answered ++ own_rounds cpu_after) ++ (kept ++ leases)) (after ++ (leases ++ (own_rounds cpu_after ++ [])))
    (λ f. omega (
      arith,
      put f,
      one_cpu f after leases cpu_after,
      sum_by-append f (answered ++ own_rounds cpu_after) (kept ++ leases),
      sum_by-append f answered (own_rounds cpu_after),
      sum_by-append f kept leases,
      sum_by-append f answered kept,
    ))
    (
    frame (kept ++ leases) (
    out_weighs old (hand ++ (leases ++ (own_rounds cpu ++ []))) ((given ++ own_rounds cpu) ++ (kept ++ leases))
    (λ f. omega (
      arith,
      taken f,
      one_cpu f hand leases cpu,
      sum_by-append f (given ++ own_rounds cpu) (kept ++ leases),
      sum_by-append f given (own_rounds cpu),
      sum_by-append f kept leases,
      sum_by-append f given kept,
    ))
    a
    )
    )

-- a segment that goes over to the leases
pub lease_balances : (spaces : List SpaceState) (hand leases after leased : List Tag) (cpu : OwnCacheState)
    → WeighSame (hand ++ leases) (after ++ leased) → Balances spaces hand leases cpu → Balances spaces after leased cpu
lease_balances spaces hand leases after leased cpu same =
    out_weighs spaces (hand ++ (leases ++ (own_rounds cpu ++ []))) (after ++ (leased ++ (own_rounds cpu ++ [])))
    (λ f. omega (arith, same f, one_cpu f hand leases cpu, one_cpu f after leased cpu, sum_by-append f hand leases, sum_by-append f after leased))

-- or comes back
pub release_balances : (spaces : List SpaceState) (hand leases after leased : List Tag) (cpu : OwnCacheState)
    → WeighSame (leases ++ hand) (leased ++ after) → Balances spaces hand leases cpu → Balances spaces after leased cpu
release_balances spaces hand leases after leased cpu same =
    lease_balances spaces hand leases after leased cpu (λ f. omega (arith, same f, sum_by-append f leases hand, sum_by-append f hand leases, sum_by-append f leased after, sum_by-append f after leased))
