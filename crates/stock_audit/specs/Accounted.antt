-- That all units of a stock are accounted for.
use Rattle.std.specs.Prelude.{List, All}
use Rattle.tag_arena.specs.ArenaState.{ArenaState, spans_of, ranges_of, layout_of, OnQuantum}
use Rattle.tag_arena.specs.Layout.{FreeIsLongestRuns}
use Rattle.stock.specs.Spaces.{SpaceState, HasCache}
use Rattle.stock.specs.Stocks.{IsStock}
use Rattle.stock.specs.Accounts.{Accounts}
use Rattle.stock.specs.Steps.{HasQuantum}
use Rattle.stock.specs.OwnCaches.{OwnCacheState, IsOwnCache}
use Rattle.stock_audit.specs.Outside.{Outside, segments_out}

-- its spans and its free and allocated ranges begin and end on multiples of its quantum
pub record IsOfWholeQuanta (a : ArenaState) : Type 0 where
  pub spans : All (λ h. OnQuantum a.quantum h.range) (spans_of a)
  pub free : All (λ h. OnQuantum a.quantum h.range) a.free
  pub allocated : All (λ h. OnQuantum a.quantum h.range) (ranges_of a.allocated)

-- the cache of a CPU is of a quantum cache of the stock, and its rounds are chunks of that one
pub record IsOwnIn (spaces : List SpaceState) (o : OwnCacheState) : Type 0 where
  pub own : IsOwnCache o
  pub has : HasCache spaces o.arena o.cache
  pub quantum : HasQuantum spaces o.arena o.quantum

-- each part is sound; what the parts have handed out is in another part or out; the free ranges of
-- each arena are the longest runs of free units inside one span, and all its ranges are in whole
-- quanta; and each CPU's rounds are chunks of the quantum cache that they are kept for
pub record IsAccountedFor (spaces : List SpaceState) (out : Outside) : Type 0 where
  pub parts : IsStock spaces
  pub accounts : Accounts spaces (segments_out out)
  pub runs : All (λ s. FreeIsLongestRuns (layout_of s.arena)) spaces
  pub grid : All (λ s. IsOfWholeQuanta s.arena) spaces
  pub cpus : All (IsOwnIn spaces) out.cpus
