-- The first picture, and what becomes of one when a CPU is made.
use Rattle.std.specs.Prelude.{◌≡◌, ℕ, List, [], ◌∷◌, All}
use Rattle.arena_tree.specs.Trees.{IsTree}
use Rattle.stock.specs.Spaces.{SpaceState, plans_of}
use Rattle.stock.specs.Stocks.{IsStock}
use Rattle.stock.specs.Accounts.{IsAccounted}
use Rattle.stock.specs.Setups.{plans_for}
use Rattle.stock.specs.OwnCaches.{all_own_rounds}
use Rattle.stock_audit.specs.Accounted.{IsOwnIn}
use Rattle.local_parts.specs.Cpus.{IsCpuOf}
use Rattle.lease_proto.specs.Cpus.{IsCpu}
use Rattle.lease_book.specs.BookState.{IsHistory}
use Rattle.lease_machine.specs.Picture.{Picture, IsPicture, IsShapedIn, caches_of}
use Rattle.lease_machine.specs.Picture.{fresh_cpu}
use Rattle.lease_machine.specs.Operators.{with_cpu}

-- a stock with the arenas of a tree and nothing out, CPU 0, and a book of which nothing happened
pub record IsFresh (d : Picture) : Type 0 where
  pub tree : IsTree d.tree
  pub plans : plans_of d.spaces ≡ plans_for d.tree
  pub units : IsAccounted d.spaces []
  pub cpus : d.cpus ≡ fresh_cpu 0 d.spaces ∷ []
  pub selected : d.selected ≡ 0
  pub book : IsHistory [] d.book

abbrev pub FreshIsPicture : Type 0
FreshIsPicture = (d : Picture) → IsFresh d → IsPicture d

-- a CPU is selected, and made if it is new
abbrev pub SelectedIsPicture : Type 0
SelectedIsPicture = (d : Picture) (n : ℕ) → IsPicture d → IsCpu n
    → IsPicture (record d { cpus = with_cpu n d; selected = n })

-- a CPU that is new has no round, and a cache for each quantum cache of the stock, with magazines
-- no greater than its depot's
pub record FreshCpuFits : Type 0 where
  pub of : (spaces : List SpaceState) (n : ℕ) → IsCpuOf spaces (fresh_cpu n spaces).caches
  pub none : (spaces : List SpaceState) (n : ℕ)
      → all_own_rounds (caches_of (fresh_cpu n spaces)) ≡ []
  pub own : (spaces : List SpaceState) (n : ℕ) → IsStock spaces
      → All (IsOwnIn spaces) (caches_of (fresh_cpu n spaces))
  pub shapes : (spaces : List SpaceState) (n : ℕ) → IsStock spaces
      → All (IsShapedIn spaces) (caches_of (fresh_cpu n spaces))
