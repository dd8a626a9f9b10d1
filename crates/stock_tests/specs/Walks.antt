-- What is always so along a script of events on a stock.
use Rattle.std.specs.Prelude.{List, [], ◌∷◌}
use Rattle.deed_core.specs.Tag.{Tag}
use Rattle.stock.specs.Spaces.{SpaceState}
use Rattle.stock.specs.Accounts.{Accounts}
use Rattle.stock.specs.OwnCaches.{OwnCacheState}
use Rattle.stock_audit.specs.Outside.{outside, segments_out}

-- just these segments are out of the stock: those in the hand, those leased, and the CPU's rounds
abbrev pub Balances : List SpaceState → List Tag → List Tag → OwnCacheState → Type 0
Balances spaces hand leases cpu = Accounts spaces (segments_out (outside hand leases (cpu ∷ [])))
