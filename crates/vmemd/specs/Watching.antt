-- What is seen of a running system.
use Rattle.std.specs.Prelude.{◌≡◌, ◌+◌, ◌-◌, ◌^◌, ◌++◌, ℕ, zero, suc, List, [], ◌∷◌, min, Option, Some, None}
use Rattle.std.specs.Prelude.{length, option_map, option_and_then, option_to_list, slice_get, fold, zip, nat_eq}
use Rattle.std.specs.Prelude.{if◌then◌else◌}
use Rattle.std.specs.List.{flat_map}
use Rattle.std.specs.Option.{option_eq}
use Rattle.arena_tree.specs.declared.trees.TreeArena.{TreeArena}
use Rattle.lease_book.specs.Account.{Account}
use Rattle.lease_book.specs.Reports.{lease_reports}
use Rattle.lease_book.specs.declared.reports.LeaseReport.{LeaseReport}
use Rattle.lease_threads.specs.Sums.{AreSumsOf}
use Rattle.shared_book.specs.Sums.{AreBookSums, OfSomeBook}
use Rattle.lease_threads.specs.declared.sums.SystemSums.{SystemSums}
use Rattle.lease_watch.specs.declared.rows.LeaseRow.{LeaseRow}
use Rattle.lease_watch.specs.declared.seen.ArenaSeen.{ArenaSeen}
use Rattle.lease_watch.specs.declared.seen.Seen.{Seen}
use Rattle.lease_watch.specs.declared.seen.UnitsSeen.{UnitsSeen}
use Rattle.vmemd.specs.declared.watching.TheConstants.{NUMBERS}

-- the name of the arena with this number
abbrev pub name_at : List TreeArena → Option ℕ → Option (List ℕ)
name_at arenas number = option_map (λ a. a.name) (option_and_then (slice_get arenas) number)

-- an arena of these, with its units
abbrev pub arena_seen : List TreeArena → TreeArena → UnitsSeen → ArenaSeen
arena_seen arenas a units =
    record {
      name = a.name;
      quantum = a.quantum;
      qmax = a.qcache_max;
      source = name_at arenas a.source;
      units = units;
    }

-- a sum, which stays at the greatest number
abbrev pub total : ℕ → ℕ → ℕ
total a b = min (a + b) (2 ^ 128 - 1)

-- an arena's units by where they are: what is nowhere else is in magazines
abbrev pub units_of : SystemSums → ℕ → UnitsSeen
units_of s exported =
    record {
      span = total s.free s.allocated;
      free = s.free;
      slab = s.slab;
      magazine = s.allocated - total (total s.slab exported) s.leased;
      exported = exported;
      leased = s.leased;
    }

-- the units of an arena's spans, if it imports from this one
abbrev pub imported_from : ℕ → TreeArena → SystemSums → ℕ
imported_from source child s =
    if option_eq nat_eq child.source (Some source) then total s.free s.allocated else 0

-- these added
abbrev pub with_imports : ℕ → ℕ → TreeArena × SystemSums → ℕ
with_imports source units p = total units (imported_from source p.0 p.1)

-- those of all arenas that import from it
abbrev pub exported_by : List TreeArena → List SystemSums → ℕ → ℕ
exported_by arenas sums source = fold (with_imports source) 0 (zip arenas sums)

-- the arena with this number, by the sums of each
abbrev pub arena_at : List TreeArena → List SystemSums → ℕ → Option ArenaSeen
arena_at arenas sums number =
    option_and_then
    (λ a. option_map
    (λ s. arena_seen arenas a (units_of s (exported_by arenas sums number)))
    (slice_get sums number))
    (slice_get arenas number)

-- the sums of the first arenas, so many, each of its own parts and of some book
abbrev pub AreSumsOfEach : List TreeArena → (count : ℕ) → List SystemSums → Type 0
AreSumsOfEach arenas zero sums = sums ≡ []
AreSumsOfEach arenas (suc id) sums = (before : List SystemSums) × (one : SystemSums)
    × AreSumsOfEach arenas id before × AreSumsOf arenas id one × (sums ≡ before ++ one ∷ [])

-- the first arenas, so many, by the sums of each
abbrev pub arenas_by : List TreeArena → List SystemSums → (count : ℕ) → List ArenaSeen
arenas_by arenas sums zero = []
arenas_by arenas sums (suc id) =
    arenas_by arenas sums id ++ option_to_list (arena_at arenas sums id)

-- each arena, with the units that its parts and some book have
abbrev pub AreArenasSeen : List TreeArena → List ArenaSeen → Type 0
AreArenasSeen arenas seen = (sums : List SystemSums) × AreSumsOfEach arenas (length arenas) sums
    × (seen ≡ arenas_by arenas sums (length arenas))

-- what may be seen of a server that has these arenas
pub record MaySee (setup : List TreeArena) (seen : Seen) : Type 0 where
  pub version : seen.version ≡ NUMBERS
  pub book : AreBookSums (record { clients = seen.clients; leases = seen.leases })
  pub arenas : AreArenasSeen setup seen.arenas.items

-- a lease of a client, in an arena of this name
abbrev pub row_in : ℕ → LeaseReport → Option (List ℕ) → List LeaseRow
row_in client lease None = []
row_in client lease (Some name) =
    record {
      arena = name;
      base = lease.base;
      units = lease.units;
      client = client;
      incarnation = lease.incarnation;
      request = lease.number;
    }
    ∷ []

-- a lease of a client, if its arena is one of these
abbrev pub rows_of : List TreeArena → ℕ → LeaseReport → List LeaseRow
rows_of arenas client lease = row_in client lease (name_at arenas (Some lease.arena))

-- the leases of the client that an account is of
abbrev pub account_rows : List TreeArena → Option Account → List LeaseRow
account_rows arenas None = []
account_rows arenas (Some a) =
    flat_map (rows_of arenas a.client) (lease_reports (Some a))

-- so many clients the book may have
abbrev pub MayCount : ℕ → Type 0
MayCount count = OfSomeBook (λ b. count ≡ length b.accounts)

-- the client at a place of the book may have these leases
abbrev pub MayHave : List TreeArena → ℕ → List LeaseRow → Type 0
MayHave arenas place rows = OfSomeBook (λ b. rows ≡ account_rows arenas (slice_get b.accounts place))
