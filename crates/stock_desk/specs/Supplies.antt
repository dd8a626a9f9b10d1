-- What is seen of a supply, from which segments come: the names of its arenas, its stock, its CPUs
-- and which of them is selected.
use Rattle.std.specs.Prelude.{◌≡◌, ℕ, List}
use Rattle.std.specs.List.{flat_map}
use Rattle.deed_core.specs.Tag.{Tag}
use Rattle.arena_tree.specs.declared.trees.TreeArena.{TreeArena}
use Rattle.stock.specs.Spaces.{SpaceState}
use Rattle.stock.specs.OwnCaches.{OwnCacheState}
use Rattle.local_parts.specs.Cpus.{cpu_rounds}
use Rattle.local_parts.specs.States.{LocalState}
use Rattle.lease_book.specs.BookState.{BookState}
use Rattle.lease_machine.specs.Picture.{NumberedCpu, Picture}

pub record SupplyState : Type 0 where
  pub tree : List TreeArena
  pub spaces : List SpaceState
  pub cpus : List NumberedCpu
  pub selected : ℕ

-- with a book it is a picture
abbrev pub picture_with : BookState → SupplyState → Picture
picture_with b s = record {
  tree = s.tree;
  spaces = s.spaces;
  cpus = s.cpus;
  selected = s.selected;
  book = b;
}

-- the picture has these arenas, this stock, these CPUs and this book
pub record HasParts (tree : List TreeArena) (spaces : List SpaceState) (cpus : List NumberedCpu)
    (book : BookState) (d : Picture) : Type 0 where
  pub arenas : d.tree ≡ tree
  pub stock : d.spaces ≡ spaces
  pub made : d.cpus ≡ cpus
  pub ledger : d.book ≡ book

-- one thread's parts, of a stock and a CPU
abbrev pub local_of : List SpaceState → List (List OwnCacheState) → LocalState
local_of spaces cpu = record { spaces = spaces; cpu = cpu }

-- the rounds of all these CPUs
abbrev pub rounds_of_all : List NumberedCpu → List Tag
rounds_of_all cpus = flat_map (λ c. cpu_rounds c.caches) cpus
