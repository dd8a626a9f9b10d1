-- What is seen of a service of leases between two lines, when nothing is in a hand.
use Rattle.std.specs.Prelude.{◌≡◌, ◌≢◌, ℕ, ◌≤◌, ◌==◌, Bool, List, [], ◌++◌, All, AllPairs}
use Rattle.std.specs.Prelude.{map, length, slice_get, Some, None}
use Rattle.std.specs.List.{find, flat_map, AllByRecursion}
use Rattle.deed_core.specs.Holding.{Holding}
use Rattle.deed_core.specs.Tag.{Tag}
use Rattle.arena_tree.specs.declared.trees.TreeArena.{TreeArena}
use Rattle.arena_tree.specs.Trees.{IsTree, index_in}
use Rattle.magazine_layer.specs.Magazines.{IsShaped}
use Rattle.stock.specs.Spaces.{SpaceState, QuantumCacheState, IsCacheAt, plans_of}
use Rattle.stock.specs.Setups.{plans_for}
use Rattle.stock.specs.OwnCaches.{OwnCacheState}
use Rattle.stock_audit.specs.Outside.{Outside, outside}
use Rattle.stock_audit.specs.Accounted.{IsAccountedFor}
use Rattle.local_parts.specs.Cpus.{IsCpuOf, new_cpu}
use Rattle.lease_proto.specs.Cpus.{IsCpu}
use Rattle.lease_book.specs.Entry.{Entry, Settlement, Grant, Return, Refuse, Hello, Settled, Swept}
use Rattle.lease_book.specs.BookState.{BookState, IsHistory, leased_segments}

-- a CPU by its number, and its caches of each arena
pub record NumberedCpu : Type 0 where
  pub number : ℕ
  pub caches : List (List OwnCacheState)

-- the arenas as they were set up, with their names, and what the stock has of each, both in order
-- of setup; the CPUs in order of making, and the number of the one that is selected; the book
pub record Picture : Type 0 where
  pub tree : List TreeArena
  pub spaces : List SpaceState
  pub cpus : List NumberedCpu
  pub selected : ℕ
  pub book : BookState

abbrev pub is_cpu : ℕ → NumberedCpu → Bool
is_cpu n c = c.number == n

-- all caches of a CPU
abbrev pub caches_of : NumberedCpu → List OwnCacheState
caches_of c = flat_map (λ row. row) c.caches

-- what is out of the parts: in hands, leased, and in the caches of CPUs
abbrev pub outside_with : List Tag → Picture → Outside
outside_with hands d = outside hands (leased_segments d.book) (flat_map caches_of d.cpus)

-- the same with nothing in a hand
abbrev pub held_outside : Picture → Outside
held_outside d = outside_with [] d

-- a CPU with no round, whose magazines are of the least size
abbrev pub fresh_cpu : ℕ → List SpaceState → NumberedCpu
fresh_cpu n spaces = record { number = n; caches = new_cpu 3 (plans_of spaces) }

-- a grant is of one of the arenas, and was made by its quantum
abbrev pub IsSettledIn : List TreeArena → Settlement → Type 0
IsSettledIn tree (Grant t terms) =
    (x : TreeArena) × (slice_get tree t.arena ≡ Some x) × (terms.quantum ≡ x.quantum)
IsSettledIn tree (Return arena base) = Unit {0}
IsSettledIn tree (Refuse why) = Unit {0}

abbrev pub IsEnteredIn : List TreeArena → Entry → Type 0
IsEnteredIn tree (Hello c i p) = Unit {0}
IsEnteredIn tree (Settled id s) = IsSettledIn tree s
IsEnteredIn tree (Swept c i arena base) = Unit {0}

-- some history gives the book, and each grant in it is of one of the arenas
pub record IsBookOf (tree : List TreeArena) (book : BookState) : Type 0 where
  pub entries : List Entry
  pub history : IsHistory entries book
  pub possible : AllByRecursion (IsEnteredIn tree) entries

-- its magazines are as they are kept, and no greater than those of its depot
pub record IsShapedIn (spaces : List SpaceState) (o : OwnCacheState) : Type 0 where
  pub shape : IsShaped o.cpu
  pub most : (c : QuantumCacheState) → IsCacheAt spaces o.arena o.cache c
      → o.cpu.size ≤ c.depot.size

-- the CPUs have numbers of their own, each has caches for those of the stock, with magazines that
-- their depots can take, and one is selected
pub record AreCpus (spaces : List SpaceState) (cpus : List NumberedCpu) (selected : ℕ)
    : Type 0 where
  pub each : All (λ c. IsCpu c.number × IsCpuOf spaces c.caches) cpus
  pub shapes : All (λ c. All (IsShapedIn spaces) (caches_of c)) cpus
  pub numbers : AllPairs (λ a b. a.number ≢ b.number) cpus
  pub there : find (is_cpu selected) cpus ≢ None

-- What is so while hands hold these segments: the stock is set up as the tree says; each unit is
-- accounted for; and the free ranges of each arena are the longest runs.
pub record IsHeld (hands : List Tag) (d : Picture) : Type 0 where
  pub tree : IsTree d.tree
  pub plans : plans_of d.spaces ≡ plans_for d.tree
  pub units : IsAccountedFor d.spaces (outside_with hands d)
  pub cpus : AreCpus d.spaces d.cpus d.selected

-- What is so between any two lines: nothing is in a hand, and the book is what is read off what
-- happened to it.
pub record IsPicture (d : Picture) : Type 0 where
  pub held : IsHeld [] d
  pub book : IsBookOf d.tree d.book

-- the spans that an arena owns
abbrev pub owned_spans : SpaceState → List Holding
owned_spans s = s.arena.owned

-- the arenas are those that were set up, with the spans that they own
pub record SameSetup (old new : Picture) : Type 0 where
  pub tree : new.tree ≡ old.tree
  pub owned : map owned_spans new.spaces ≡ map owned_spans old.spaces

-- the spans are those that there were, and maybe more behind them
abbrev pub GoOn : List Holding → List Holding → Type 0
GoOn old new = (more : List Holding) × (new ≡ old ++ more)

-- the arenas are those that were set up, with the spans that they owned, and maybe more behind them
pub record SetupGrows (old new : Picture) : Type 0 where
  pub tree : new.tree ≡ old.tree
  pub count : length new.spaces ≡ length old.spaces
  pub owned : (k : ℕ) (s : SpaceState) → slice_get old.spaces k ≡ Some s → (t : SpaceState)
      × (slice_get new.spaces k ≡ Some t) × GoOn s.arena.owned t.arena.owned

-- at most the book changed
abbrev pub BookAlone : Picture → Picture → Type 0
BookAlone old new = new ≡ record old { book = new.book }

-- the arena of this name stands at the index
pub record Finds (d : Picture) (name : List ℕ) (index : ℕ) (x : TreeArena) : Type 0 where
  pub first : index_in name d.tree ≡ Some index
  pub here : slice_get d.tree index ≡ Some x
