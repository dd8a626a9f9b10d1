-- What holds of every world, in the words of whoever relies on it.
use Rattle.std.specs.Prelude.{◌≡◌, ◌+◌, ◌≤◌, ℕ, List, filter, slice_get, Some, sum_by}
use Rattle.deed_core.specs.Covering.{covering_held}
use Rattle.deed_core.specs.Extent.{Covers}
use Rattle.deed_core.specs.Holding.{Holding}
use Rattle.deed_core.specs.Request.{Fits}
use Rattle.deed_core.specs.Selections.{came_direct}
use Rattle.deed_core.specs.Tag.{Tag}
use Rattle.tag_arena.specs.ArenaState.{spans_of, ranges_of}
use Rattle.stock.specs.Spaces.{SpaceState}
use Rattle.stock.specs.Laws.{HasTop}
use Rattle.stock.specs.Sums.{held_of, homes_of, all_homes}
use Rattle.magazine_layer.specs.Magazines.{IsShaped}
use Rattle.stock_audit.specs.Outside.{out_of, segments_out}
use Rattle.stock_audit.specs.Chains.{spans_of_children, spans_of_slabs}
use Rattle.stock_audit.specs.Accounted.{IsAccountedFor}
use Rattle.lease_terms.specs.Requests.{RequestId}
use Rattle.lease_proto.specs.declared.replies.Reply.{Reply}
use Rattle.lease_proto.specs.declared.replies.Reply.TheVariants as replies
use Rattle.lease_book.specs.Entry.{Settled, Grant}
use Rattle.lease_book.specs.History.{leases_of}
use Rattle.lease_book.specs.BookState.{IsHistory}
use Rattle.lease_book.specs.declared.receipts.Terms.{Terms}
use Rattle.lease_client.specs.declared.held.HeldSegment.{HeldSegment}
use Rattle.lease_client.specs.ClientState.{ClientState}
use Rattle.lease_history.specs.Known.{weight_in}
use Rattle.world_core.specs.declared.events.WorldEvent.{WorldEvent}
use Rattle.world_core.specs.declared.events.Outcome.{Outcome}
use Rattle.world_core.specs.WorldState.{WorldState, arena_name, outside_of, IsAmong, Each}
use Rattle.world_core.specs.Moves.{IsNamed}
use Rattle.world_core.specs.IsWorld.{IsWorld, IsAsked}
use Rattle.world_core.specs.Events.{HappensTo}

-- each unit of an arena's spans is in one home, and no other unit in any: free, at home in a slab,
-- in a magazine, a child's span, leased, or in a hand
pub record IsInOneHomeOf (w : WorldState) (s : SpaceState) (unit : ℕ) : Type 0 where
  pub once : covering_held unit (all_homes (homes_of w.stock (out_of (outside_of w)) s))
      ≡ covering_held unit (spans_of s.arena)
  pub one : covering_held unit (spans_of s.arena) ≤ 1

-- however ranges are weighed: what the arena at the index has allocated are its direct segments in
-- hands and leased, the spans of its slabs, and the spans of the arenas that import from it, each
-- once; and the last are what it exported
pub record ExportsSpans (w : WorldState) (k : ℕ) (s : SpaceState) : Type 0 where
  pub allocated : (f : Holding → ℕ) → sum_by f (ranges_of s.arena.allocated)
      ≡ sum_by f (held_of k (filter came_direct (segments_out (outside_of w))))
      + (sum_by f (spans_of_slabs s) + sum_by f (spans_of_children k w.stock))
  pub exported : (f : Holding → ℕ)
      → sum_by f (homes_of w.stock (out_of (outside_of w)) s).exported
      ≡ sum_by f (spans_of_children k w.stock)

-- a grant meets the line that asked for it, by its arena's quantum
pub record IsMet (w : WorldState) (id : RequestId) (segment : Tag) (terms : Terms)
    : Type 0 where
  pub fits : Fits terms.quantum terms.request
      segment.holding.range.base segment.holding.range.len
  pub asked : IsAsked w.stock w.names w.requests id segment terms

-- however segments are weighed, what a client holds weighs at most what is leased to it in its
-- incarnation
abbrev pub HoldsLeases : WorldState → ClientState → Type 0
HoldsLeases w c = (f : HeldSegment → ℕ)
    → sum_by f c.held
    ≤ sum_by (weight_in (arena_name w.names) c.incarnation f) (leases_of c.id w.entries)

-- the segment that a client holds is of an arena with this top, and has the unit
pub record CoversIn (w : WorldState) (top unit : ℕ) (s : HeldSegment) : Type 0 where
  pub index : ℕ
  pub named : IsNamed w index s.arena
  pub under : HasTop w.stock index top
  pub has : Covers (record { base = s.base; len = s.len }) unit

-- no unit is in two segments that clients hold of arenas with one top: the two are one, at one
-- index of one client's list
abbrev pub HeldApart : WorldState → Type 0
HeldApart w = (top unit : ℕ) (c d i j : ℕ) (x y : ClientState) (s t : HeldSegment)
    → slice_get w.clients c ≡ Some x → slice_get x.held i ≡ Some s
    → slice_get w.clients d ≡ Some y → slice_get y.held j ≡ Some t
    → CoversIn w top unit s → CoversIn w top unit t → (c ≡ d) × (i ≡ j)

-- the reply settles the request
abbrev pub SettlesIt : RequestId → Reply → Type 0
SettlesIt id (replies.Granted g) = g.id ≡ id
SettlesIt id (replies.Released of) = of ≡ id
SettlesIt id (replies.Refused r) = r.id ≡ id
SettlesIt id reply = ⊥

-- All units are accounted for, each stands in one home, and what an arena exported are the spans
-- of those that import from it. A CPU's loaded magazine has at most its size, and its previous one
-- none or as many. The book is what is read off its entries. Each grant was asked for and fits.
-- Clients hold what is leased to them, and no unit is in two segments that they hold of arenas with
-- one top. And any two replies that settle one request are equal.
pub record Safe (w : WorldState) : Type 0 where
  pub parts : IsAccountedFor w.stock (outside_of w)
  pub homes : (k : ℕ) (s : SpaceState) → slice_get w.stock k ≡ Some s → (unit : ℕ)
      → IsInOneHomeOf w s unit
  pub exports : (k : ℕ) (s : SpaceState) → slice_get w.stock k ≡ Some s → ExportsSpans w k s
  pub magazines : Each (λ o. IsShaped o.cpu) w.caches
  pub book : IsHistory w.entries w.book
  pub grants : (id : RequestId) (segment : Tag) (terms : Terms)
      → IsAmong (Settled id (Grant segment terms)) w.entries → IsMet w id segment terms
  pub held : Each (HoldsLeases w) w.clients
  pub apart : HeldApart w
  pub replies : (id : RequestId) (a b : Reply) → IsAmong a w.replies → IsAmong b w.replies
      → SettlesIt id a → SettlesIt id b → a ≡ b

-- whatever happens to a world, it is safe
abbrev pub AlwaysSafe : Type 0
AlwaysSafe = (events : List WorldEvent) (outcomes : List Outcome) (start end : WorldState)
    → IsWorld start → HappensTo events outcomes start end → IsWorld end × Safe end
