-- What every world is.
use Rattle.std.specs.Prelude.{◌≡◌, ◌⊎◌, ℕ, ◌<◌, ◌≤◌, nat_eq, List, length, map, slice_get}
use Rattle.std.specs.Prelude.{Bool}
use Rattle.std.specs.Prelude.{Option, Some, None}
use Rattle.std.specs.List.{IsDistinct}
use Rattle.deed_core.specs.Tag.{Tag}
use Rattle.arena_tree.specs.declared.limits.TheConstants.{MOST_ARENAS}
use Rattle.stock.specs.Spaces.{SpaceState}
use Rattle.stock_audit.specs.Accounted.{IsAccountedFor}
use Rattle.stock.specs.Steps.{HasQuantum}
use Rattle.stock.specs.OwnCaches.{OwnCacheState}
use Rattle.magazine_layer.specs.Magazines.{IsShaped}
use Rattle.lease_terms.specs.Requests.{RequestId}
use Rattle.lease_proto.specs.declared.lines.LeaseLine.{LeaseLine}
use Rattle.lease_proto.specs.declared.lines.Line.{Line}
use Rattle.lease_proto.specs.declared.lines.Line.TheVariants as lines
use Rattle.lease_proto.specs.declared.lines.Op.TheVariants as ops
use Rattle.lease_proto.specs.Requests.{demand_of}
use Rattle.lease_book.specs.Entry.{Entry, Settled, Hello, Swept, Grant, Return, Refuse}
use Rattle.lease_book.specs.BookState.{IsHistory}
use Rattle.lease_book.specs.declared.receipts.Terms.{Terms}
use Rattle.lease_client.specs.ClientState.{ClientState}
use Rattle.lease_client.specs.Runs.{MayBeSent}
use Rattle.lease_history.specs.Known.{IsKnown}
use Rattle.lease_history.specs.Told.{MayTell}
use Rattle.world_core.specs.declared.tasks.Task.{Task}
use Rattle.world_core.specs.WorldState.{WorldState, arena_name, outside_of, Each, IsAmong}

-- no other index has the name of an arena
abbrev pub AreNames : List (List ℕ) → Type 0
AreNames names = (j k : ℕ) → k < length names → arena_name names j ≡ arena_name names k → j ≡ k

-- what was granted to the request is what a line of this id asked for, by its arena's quantum
pub record IsAsked (stock : List SpaceState) (names : List (List ℕ)) (requests : List Line)
    (id : RequestId) (segment : Tag) (terms : Terms) : Type 0 where
  pub lease : LeaseLine
  pub line : IsAmong (lines.Request id (ops.Lease lease)) requests
  pub within : segment.arena < length names
  pub home : arena_name names segment.arena ≡ lease.arena
  pub quantum : HasQuantum stock segment.arena terms.quantum
  pub request : terms.request ≡ demand_of lease

-- so is each grant among the entries
abbrev pub IsDue : List SpaceState → List (List ℕ) → List Line → Entry → Type 0
IsDue stock names requests (Settled id (Grant segment terms)) =
    IsAsked stock names requests id segment terms
IsDue stock names requests (Settled id (Return arena base)) = Unit {0}
IsDue stock names requests (Settled id (Refuse why)) = Unit {0}
IsDue stock names requests (Hello c i p) = Unit {0}
IsDue stock names requests (Swept c i arena base) = Unit {0}

-- if the line is the client's own, the client sent it
abbrev pub MayBeSaid : ClientState → Line → Type 0
MayBeSaid c (lines.Hello h) = h.client ≡ c.id → h.incarnation ≤ c.incarnation
MayBeSaid c (lines.Request id op) = id.client ≡ c.id → MayBeSent id op c

-- what a CPU serves was sent
abbrev pub IsOfLines : List Line → Option Task → Type 0
IsOfLines requests None = Unit {0}
IsOfLines requests (Some task) = IsAmong (lines.Request task.id task.op) requests

-- the one is for a cache that stands before the other's: of an earlier arena, or of the same with a
-- smaller number
abbrev pub IsBefore : OwnCacheState → OwnCacheState → Type 0
IsBefore o p = (o.arena < p.arena) ⊎ ((o.arena ≡ p.arena) × (o.cache < p.cache))

-- each cache has its CPU, and those of one CPU stand by arena and then by number
pub record AreInOrder (owners : List ℕ) (caches : List OwnCacheState) : Type 0 where
  pub owned : length owners ≡ length caches
  pub order : (i j cpu : ℕ) (o p : OwnCacheState) → i < j
      → slice_get owners i ≡ Some cpu → slice_get caches i ≡ Some o
      → slice_get owners j ≡ Some cpu → slice_get caches j ≡ Some p → IsBefore o p

-- so many CPUs: each serves a request or none, each is marked as failed or not, and each cache is
-- owned by one
pub record AreSoManyCpus (count : ℕ) (tasks : List (Option Task)) (failed : List Bool)
    (owners : List ℕ) : Type 0 where
  pub served : length tasks ≡ count
  pub marked : length failed ≡ count
  pub owned : Each (λ cpu. cpu < count) owners

-- What the parts have given is in hands, in CPUs' caches or leased; loaded magazines have at most
-- their size, and previous ones none or as many; the book is what is read off the entries, of which
-- each grant was asked for; the clients, each with an id of its own, are known to the book; lines
-- were said by their clients, and the book may tell what was replied. CPUs are those that have
-- hands.
pub record IsWorld (w : WorldState) : Type 0 where
  pub parts : IsAccountedFor w.stock (outside_of w)
  pub named : length w.names ≡ length w.stock
  pub few : length w.names ≤ MOST_ARENAS
  pub names : AreNames w.names
  pub book : IsHistory w.entries w.book
  pub due : Each (IsDue w.stock w.names w.requests) w.entries
  pub ids : IsDistinct nat_eq (map (λ c. c.id) w.clients)
  pub known : Each (IsKnown (arena_name w.names) w.entries) w.clients
  pub said : Each (λ c. Each (MayBeSaid c) w.requests) w.clients
  pub cpus : AreSoManyCpus (length w.hands) w.tasks w.failed w.owners
  pub tasks : Each (IsOfLines w.requests) w.tasks
  pub own : AreInOrder w.owners w.caches
  pub shaped : Each (λ o. IsShaped o.cpu) w.caches
  pub told : Each (MayTell (arena_name w.names) w.entries) w.replies
