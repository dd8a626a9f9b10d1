-- The segments that are out of a stock, by who has them.
use Rattle.std.specs.Prelude.{List, []}
use Rattle.deed_core.specs.Tag.{Tag}
use Rattle.stock.specs.OwnCaches.{OwnCacheState, all_own_rounds}
use Rattle.stock.specs.Sums.{Out, all_out}

-- those in hands, those leased, and the caches of the CPUs, each with the rounds in it
pub record Outside : Type 0 where
  pub hands : List Tag
  pub leases : List Tag
  pub cpus : List OwnCacheState

abbrev pub outside : List Tag → List Tag → List OwnCacheState → Outside
outside hands leases cpus = record { hands = hands; leases = leases; cpus = cpus }

-- nothing is
abbrev pub nothing_out : Outside
nothing_out = outside [] [] []

-- the same segments, each with its index
abbrev pub out_of : Outside → Out
out_of out =
    record { hands = out.hands; leases = out.leases; rounds = all_own_rounds out.cpus }

-- all of them
abbrev pub segments_out : Outside → List Tag
segments_out out = all_out (out_of out)
