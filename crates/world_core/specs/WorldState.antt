-- What contracts see of a world.
use Rattle.std.specs.Prelude.{◌≡◌, ℕ, Bool, List, [], get_or, slice_get, reverse, map, Option, Some}
use Rattle.std.specs.List.{flat_map}
use Rattle.std.specs.Option.{option_to_list}
use Rattle.deed_core.specs.Tag.{Tag}
use Rattle.stock.specs.Spaces.{SpaceState}
use Rattle.stock.specs.OwnCaches.{OwnCacheState}
use Rattle.stock_audit.specs.Outside.{Outside, outside}
use Rattle.lease_proto.specs.declared.lines.Line.{Line}
use Rattle.lease_proto.specs.declared.replies.Reply.{Reply}
use Rattle.lease_book.specs.Entry.{Entry, Settled, Hello, Swept, Grant, Return, Refuse}
use Rattle.lease_book.specs.BookState.{BookState, leased_segments}
use Rattle.lease_client.specs.ClientState.{ClientState}
use Rattle.world_core.specs.declared.tasks.Task.{Task}
use Rattle.world_core.specs.declared.logs.Logged.{Logged}
use Rattle.world_core.specs.declared.logs.Logged.TheVariants as logged

-- the parts, and the name of each arena; of each CPU the segment in its hand, the request that it
-- serves, and whether it has failed; the caches of all CPUs, with the CPU of each; the book, with
-- the list of all its entries, newest first; the clients; and all lines and replies that were ever
-- sent, oldest first
pub record WorldState : Type 0 where
  pub stock : List SpaceState
  pub names : List (List ℕ)
  pub hands : List (Option Tag)
  pub tasks : List (Option Task)
  pub failed : List Bool
  pub owners : List ℕ
  pub caches : List OwnCacheState
  pub book : BookState
  pub entries : List Entry
  pub clients : List ClientState
  pub requests : List Line
  pub replies : List Reply

-- the name of the arena at an index
abbrev pub arena_name : List (List ℕ) → ℕ → List ℕ
arena_name names k = get_or names k []

-- the segments in hands
abbrev pub in_hands : List (Option Tag) → List Tag
in_hands hands = flat_map option_to_list hands

-- the segments that are out of the parts: in hands, leased, and in the caches of CPUs
abbrev pub outside_of : WorldState → Outside
outside_of w = outside (in_hands w.hands) (leased_segments w.book) w.caches

-- it is so of each member of the list
abbrev pub Each : {X : Type 0} → (X → Type 0) → List X → Type 0
Each {X} P xs = (k : ℕ) (x : X) → slice_get xs k ≡ Some x → P x

-- it stands somewhere in the list
abbrev pub IsAmong : {X : Type 0} → X → List X → Type 0
IsAmong x xs = (k : ℕ) × (slice_get xs k ≡ Some x)

-- the entry that is stored so
abbrev pub logged_entry : Logged → Entry
logged_entry (logged.Hello c i p) = Hello c i p
logged_entry (logged.Granted id segment terms) = Settled id (Grant segment terms)
logged_entry (logged.Released id arena base) = Settled id (Return arena base)
logged_entry (logged.Refused id why) = Settled id (Refuse why)
logged_entry (logged.Swept c i arena base) = Swept c i arena base

-- they are stored oldest first
abbrev pub entries_of : List Logged → List Entry
entries_of log = reverse (map logged_entry log)
