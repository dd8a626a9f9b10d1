-- Sums that are counted one member after another.
use Rattle.std.proofs.Common.{◌≡◌, ◌≢◌, ℕ, ◌+◌, ◌<◌, ◌≤◌, min, List, length, get_or, take, All, sym, ap, ◌∙◌, arith}
use Rattle.std.specs.Prelude.{sum_by}
use Rattle.std.proofs.lemmas.List.{take_all}
use Rattle.std.proofs.lemmas.List.Sums.{sum_by_more}
use Rattle.std.proofs.lemmas.List.Elements.{All-weaker}
use Rattle.deed_core.specs.Tag.{Tag}
use Rattle.deed_core.specs.Covering.{units_in}
use Rattle.deed_core.specs.Weights.{of_arena}
use Rattle.deed_core.proofs.LawProofs.{sum_by-flat_map}
use Rattle.stock.specs.Stocks.{IsRoundOf}
use Rattle.stock.specs.OwnCaches.{OwnCacheState, IsOwnCache, own_rounds, all_own_rounds}
use Rattle.stock_audit.specs.Audits.{units_of_arena_in}
use Rattle.stock_audit.proofs.Placing.{held_weigh}
use Rattle.stock_audit.proofs.Exporting.{all_here, none_here}

module _ {X : Type 0} (f : X → ℕ) (xs : List X) (i : ℕ) where
  -- one more
  pub one_more : (x : X) → i < length xs → x ≡ get_or xs i x → sum_by f (take (i + 1) xs) ≡ sum_by f (take i xs) + f x
  one_more x within is = sum_by_more f xs i x within ∙ ap (λ y. sum_by f (take i xs) + f y) (sym is)

  -- all of them
  pub all_counted : length xs ≤ i → sum_by f (take i xs) ≡ sum_by f xs
  all_counted past = ap (sum_by f) (take_all i xs past)

-- a sum that stops at the greatest number
pub stops_at : (most total all part next sum : ℕ) → total ≡ min all most → sum ≡ all + part → next ≡ min (total + part) most → next ≡ min sum most
stops_at most total all part next sum so_far more last = omega arith

-- the units of one arena in a segment
abbrev pub arena_weight : ℕ → Tag → ℕ
arena_weight k = of_arena k (λ t. units_in t.holding)

-- the rounds of a CPU's cache are all of its arena
module _ (k : ℕ) (o : OwnCacheState) (is : IsOwnCache o) where
  home : All (λ t. t.arena ≡ o.arena) (own_rounds o)
  home = All-weaker (IsRoundOf o.arena (o.cache + 1) o.quantum) (λ t. t.arena ≡ o.arena) (λ t round. round.from) (own_rounds o) is.rounds

  pub own_here : o.arena ≡ k → sum_by (arena_weight k) (own_rounds o) ≡ sum_by (λ t. units_in t.holding) (own_rounds o)
  own_here same = all_here k (λ t. units_in t.holding) o.arena (own_rounds o) home same

  pub own_there : o.arena ≢ k → sum_by (arena_weight k) (own_rounds o) ≡ 0
  own_there other = none_here k (λ t. units_in t.holding) o.arena (own_rounds o) home other

-- what is counted over CPUs
pub rounds_counted : (k : ℕ) (cpus : List OwnCacheState) → sum_by (λ o. sum_by (arena_weight k) (own_rounds o)) cpus ≡ units_of_arena_in k (all_own_rounds cpus)
rounds_counted k cpus = sym (sum_by-flat_map (arena_weight k) own_rounds cpus) ∙ sym (held_weigh k units_in (all_own_rounds cpus))
