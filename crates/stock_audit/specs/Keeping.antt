-- The steps that a stock and the segments out of it take together.
use Rattle.std.specs.Prelude.{◌≡◌, ◌≢◌, ◌⊎◌, ℕ, List, ◌++◌, All, set, slice_get, sum_by, Some}
use Rattle.deed_core.specs.Tag.{Tag}
use Rattle.deed_core.specs.Weights.{WeighSame, Gains, Loses, of_arena}
use Rattle.stock.specs.Spaces.{SpaceState, plans_of}
use Rattle.stock.specs.Stocks.{IsStock}
use Rattle.stock.specs.Accounts.{Frames}
use Rattle.stock.specs.OwnCaches.{OwnCacheState, IsOwnCache, IsAtIndexesOf, own_rounds}
use Rattle.stock.specs.OwnCaches.{all_own_rounds}
use Rattle.stock_audit.specs.Outside.{Outside}
use Rattle.stock_audit.specs.Accounted.{IsOwnIn}
use Rattle.stock_audit.specs.Chains.{IsUpFrom}

-- a call of a stock was given some segments and answered others: what the stock's own law and the
-- clauses `frame` and `fixed` of each call say
pub record IsStep (old : List SpaceState) (given : List Tag) (new : List SpaceState)
    (answered : List Tag) : Type 0 where
  pub stock : IsStock new
  pub frame : Frames old given new answered
  pub fixed : plans_of new ≡ plans_of old

-- hands gave the first segments and took the second, in any order, and nothing else moved
pub record HandsMove (before : Outside) (given answered : List Tag) (after : Outside)
    : Type 0 where
  pub rest : List Tag
  pub gave : WeighSame before.hands (given ++ rest)
  pub took : WeighSame after.hands (answered ++ rest)
  pub leases : after.leases ≡ before.leases
  pub cpus : after.cpus ≡ before.cpus

-- the CPU's cache at the index i became that other one of the same quantum cache, and the other
-- caches and the leases stay
pub record OnCpu (i : ℕ) (o p : OwnCacheState) (before after : Outside) : Type 0 where
  pub at : slice_get before.cpus i ≡ Some o
  pub own : IsOwnCache p
  pub index : IsAtIndexesOf o p
  pub cpus : after.cpus ≡ set before.cpus i p
  pub leases : after.leases ≡ before.leases

-- a round went into a hand
pub record PopMove (i : ℕ) (o p : OwnCacheState) (t : Tag) (before after : Outside) : Type 0 where
  pub on : OnCpu i o p before after
  pub rounds : Loses (own_rounds o) (own_rounds p) t
  pub hands : Gains before.hands after.hands t

-- a segment in a hand became a round
pub record PushMove (i : ℕ) (o p : OwnCacheState) (t : Tag) (before after : Outside)
    : Type 0 where
  pub on : OnCpu i o p before after
  pub rounds : Gains (own_rounds o) (own_rounds p) t
  pub hands : Loses before.hands after.hands t

-- the same rounds lie in other magazines
pub record ChangeMove (i : ℕ) (o p : OwnCacheState) (before after : Outside) : Type 0 where
  pub on : OnCpu i o p before after
  pub rounds : WeighSame (own_rounds o) (own_rounds p)
  pub hands : after.hands ≡ before.hands

-- a segment in a hand became leased
pub record LeaseMove (t : Tag) (before after : Outside) : Type 0 where
  pub hands : Loses before.hands after.hands t
  pub leases : Gains before.leases after.leases t
  pub cpus : after.cpus ≡ before.cpus

-- a leased segment went into a hand
pub record ReleaseMove (t : Tag) (before after : Outside) : Type 0 where
  pub hands : Gains before.hands after.hands t
  pub leases : Loses before.leases after.leases t
  pub cpus : after.cpus ≡ before.cpus

-- whatever steps were taken, they were on the arenas up the chain from the index k and on the
-- caches of that one, of the stock and of CPUs: all other arenas, caches and rounds are as before,
-- and so are owned spans and leases
pub record StaysOffChain (k : ℕ) (old new : List SpaceState) (before after : Outside) : Type 0 where
  pub fixed : plans_of new ≡ plans_of old
  pub arenas : (b : ℕ) (s x : SpaceState) → slice_get old b ≡ Some s → slice_get new b ≡ Some x
      → IsUpFrom old k b ⊎ (x.arena ≡ s.arena)
  pub owned : (b : ℕ) (s x : SpaceState) → slice_get old b ≡ Some s → slice_get new b ≡ Some x
      → x.arena.owned ≡ s.arena.owned
  pub caches : (b : ℕ) (s x : SpaceState) → b ≢ k → slice_get old b ≡ Some s
      → slice_get new b ≡ Some x → x.caches ≡ s.caches
  pub rounds : (b : ℕ) → b ≢ k → (f : Tag → ℕ)
      → sum_by (of_arena b f) (all_own_rounds after.cpus)
      ≡ sum_by (of_arena b f) (all_own_rounds before.cpus)
  pub leases : after.leases ≡ before.leases

-- a segment of the arena came into a hand by such steps
pub record IsGiven (k : ℕ) (t : Tag) (old new : List SpaceState) (before after : Outside)
    : Type 0 where
  pub home : t.arena ≡ k
  pub steps : StaysOffChain k old new before after
  pub hands : Gains before.hands after.hands t

-- the CPUs' caches are others, each of a quantum cache of the stock, with the same rounds in them
-- all
pub record CpusMove (spaces : List SpaceState) (before after : Outside) : Type 0 where
  pub hands : after.hands ≡ before.hands
  pub leases : after.leases ≡ before.leases
  pub rounds : WeighSame (all_own_rounds before.cpus) (all_own_rounds after.cpus)
  pub own : All (IsOwnIn spaces) after.cpus
