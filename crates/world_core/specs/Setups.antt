-- What a world is set up as.
use Rattle.std.specs.Prelude.{◌≡◌, ℕ, false, zero, suc, ◌+◌, ◌/◌, List, [], ◌∷◌, ◌++◌, length, map}
use Rattle.std.specs.Prelude.{replicate, None}
use Rattle.arena_tree.specs.declared.trees.TreeArena.{TreeArena}
use Rattle.arena_tree.specs.Settings.{SetupState}
use Rattle.stock.specs.OwnCaches.{OwnCacheState}
use Rattle.stock.specs.Setups.{IsSetUpFrom, numbered_deeds}
use Rattle.lease_book.specs.BookState.{IsHistory}
use Rattle.world_core.specs.WorldState.{WorldState}

-- an own cache for the quantum cache at this index of this arena, with two empty magazines for
-- three rounds each
abbrev pub empty_own : ℕ → ℕ → ℕ → OwnCacheState
empty_own arena cache quantum = record {
  arena = arena;
  cache = cache;
  quantum = quantum;
  cpu = record { size = 3; loaded = []; previous = [] };
}

-- one for each of the first so many quantum caches of an arena
abbrev pub own_row : ℕ → ℕ → ℕ → List OwnCacheState
own_row arena quantum zero = []
own_row arena quantum (suc count) =
    own_row arena quantum count ++ empty_own arena count quantum ∷ []

-- for each quantum cache of the arenas, whose numbers begin with k
abbrev pub own_rows : ℕ → List TreeArena → List OwnCacheState
own_rows k [] = []
own_rows k (x ∷ arenas) = own_row k x.quantum (x.qcache_max / x.quantum) ++ own_rows (k + 1) arenas

-- so many CPUs have each one for every quantum cache: the first CPU's come first, and so on
abbrev pub own_caches : ℕ → List TreeArena → List OwnCacheState
own_caches zero arenas = []
own_caches (suc cpus) arenas = own_caches cpus arenas ++ own_rows 0 arenas

-- the CPU of each of these
abbrev pub own_owners : ℕ → List TreeArena → List ℕ
own_owners zero arenas = []
own_owners (suc cpus) arenas =
    own_owners cpus arenas ++ replicate (length (own_rows 0 arenas)) cpus

-- all arenas of the setup, with their names and with its spans, all of them free, each a root of
-- its own, and with magazines of three rounds; so many CPUs, with nothing in hand and nothing to
-- serve, none of them failed, each with own caches for all quantum caches; a book to which nothing
-- happened; and no client and no message
pub record IsNewWorld (setup : SetupState) (cpus : ℕ) (w : WorldState) : Type 0 where
  pub stock : IsSetUpFrom setup (numbered_deeds setup.spans) 3 w.stock
  pub names : w.names ≡ map (λ x. x.name) setup.arenas
  pub hands : w.hands ≡ replicate cpus None
  pub tasks : w.tasks ≡ replicate cpus None
  pub failed : w.failed ≡ replicate cpus false
  pub owners : w.owners ≡ own_owners cpus setup.arenas
  pub caches : w.caches ≡ own_caches cpus setup.arenas
  pub book : IsHistory [] w.book
  pub entries : w.entries ≡ []
  pub clients : w.clients ≡ []
  pub requests : w.requests ≡ []
  pub replies : w.replies ≡ []
