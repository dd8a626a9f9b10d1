-- What the entries of a book and a client know of each other.
use Rattle.std.specs.Prelude.{◌≡◌, ◌⊎◌, ℕ, ◌+◌, ◌<◌, ◌≤◌, ◌==◌, ◌&&◌, true, List, Option, Some}
use Rattle.std.specs.Prelude.{None, is_none, if◌then◌else◌, sum_by}
use Rattle.std.specs.Str.{bytes_eq}
use Rattle.deed_core.specs.Tag.{Tag}
use Rattle.lease_terms.specs.Requests.{RequestId}
use Rattle.lease_proto.specs.declared.lines.Line.{Line}
use Rattle.lease_proto.specs.declared.lines.Line.TheVariants as lines
use Rattle.lease_proto.specs.declared.lines.Op.{Op}
use Rattle.lease_proto.specs.declared.lines.Op.TheVariants as ops
use Rattle.lease_book.specs.declared.receipts.KeptReply.{KeptReply}
use Rattle.lease_book.specs.declared.receipts.KeptReply.TheVariants as kept
use Rattle.lease_book.specs.Receipts.{Kept}
use Rattle.lease_book.specs.Entry.{Entry, Settlement, Grant, Return, Refuse}
use Rattle.lease_book.specs.Replies.{kept_at}
use Rattle.lease_book.specs.Account.{Lease, Account}
use Rattle.lease_book.specs.Answers.{IsNew, IsStale, IsGap}
use Rattle.lease_book.specs.History.{incarnation, last_in, first_protocol, outcome_of, leases_of}
use Rattle.lease_client.specs.declared.held.HeldSegment.{HeldSegment}
use Rattle.lease_client.specs.ClientState.{ClientState, IsSoundClient, is_at, line_at}

-- a segment as a client is told of it, where arenas have these names
abbrev pub told_segment : (ℕ → List ℕ) → Tag → HeldSegment
told_segment names t = record {
  arena = names t.arena;
  base = t.holding.range.base;
  len = t.holding.range.len;
}

-- what a lease weighs, where it is of the incarnation
abbrev pub weight_in : (ℕ → List ℕ) → ℕ → (HeldSegment → ℕ) → Lease → ℕ
weight_in names i f l = if i == l.incarnation then f (told_segment names l.segment) else 0

abbrev pub weight_told : (ℕ → List ℕ) → (HeldSegment → ℕ) → KeptReply → ℕ
weight_told names f (kept.Granted arena base len) =
    f (record { arena = names arena; base = base; len = len })
weight_told names f (kept.Released arena base) = 0
weight_told names f (kept.Refused why) = 0

abbrev pub weight_kept : (ℕ → List ℕ) → (HeldSegment → ℕ) → Option Kept → ℕ
weight_kept names f None = 0
weight_kept names f (Some k) = weight_told names f k.reply

-- what a segment weighs that is granted, while its client still waits for the reply
abbrev pub weight_due : (ℕ → List ℕ) → (HeldSegment → ℕ) → List Entry → Line → ℕ
weight_due names f entries (lines.Hello h) = 0
weight_due names f entries (lines.Request id (ops.Lease l)) =
    weight_kept names f (outcome_of id entries)
weight_due names f entries (lines.Request id (ops.Release r)) = 0

-- 1 where the segment is the one of this arena and base
abbrev pub one_at : List ℕ → ℕ → HeldSegment → ℕ
one_at arena base s = if is_at arena base s then 1 else 0

-- how many leases of the incarnation stand at this base of an arena with this name
abbrev pub leased_at : (ℕ → List ℕ) → ℕ → List ℕ → ℕ → List Lease → ℕ
leased_at names i arena base leases = sum_by (weight_in names i (one_at arena base)) leases

-- 1 where the line is a release of this arena and base that isn't settled
abbrev pub one_ending : List Entry → List ℕ → ℕ → Line → ℕ
one_ending entries arena base (lines.Hello h) = 0
one_ending entries arena base (lines.Request id (ops.Lease l)) = 0
one_ending entries arena base (lines.Request id (ops.Release r)) =
    if is_none (outcome_of id entries) && (bytes_eq r.arena arena && (r.base == base)) then 1 else 0

-- how many such releases wait
abbrev pub ending_at : List Entry → List ℕ → ℕ → List Line → ℕ
ending_at entries arena base waiting = sum_by (one_ending entries arena base) waiting

-- what a lease weighs, where it is of the incarnation and no such release of it waits
abbrev pub weight_left : (ℕ → List ℕ) → ℕ → List Entry → List Line → (HeldSegment → ℕ) → Lease → ℕ
weight_left names i entries waiting f l =
    if ending_at entries (names l.segment.arena) l.segment.holding.range.base waiting == 0
    then weight_in names i f l else 0

-- The client is ahead of the book, by its own incarnation or by the numbers that it waits for: each
-- number that it used and that isn't settled waits. While it is open, its protocol is that of the
-- first hello of its incarnation. No two leases of its incarnation stand at one base of one arena;
-- each release that waits and isn't settled has such a lease of its own; and however segments are
-- weighed, what the client holds and is due weighs at most what the others of these leases weigh.
pub record IsKnown (names : ℕ → List ℕ) (entries : List Entry) (c : ClientState) : Type 0 where
  pub sound : IsSoundClient c
  pub behind : incarnation c.id entries ≤ c.incarnation
  pub before : last_in c.id c.incarnation entries < c.next
  pub protocol : c.is_open ≡ true
      → first_protocol c.id c.incarnation entries ≡ Some c.protocol
  pub waits : (id : RequestId) → id.client ≡ c.id → id.incarnation ≡ c.incarnation
      → 1 ≤ id.number → id.number < c.next → outcome_of id entries ≡ None
      → (op : Op) × (line_at id.number c.outstanding ≡ Some (lines.Request id op))
  pub once : (arena : List ℕ) (base : ℕ)
      → leased_at names c.incarnation arena base (leases_of c.id entries) ≤ 1
  pub ending : (arena : List ℕ) (base : ℕ)
      → ending_at entries arena base c.outstanding
      ≤ leased_at names c.incarnation arena base (leases_of c.id entries)
  pub held : (f : HeldSegment → ℕ)
      → sum_by f c.held + sum_by (weight_due names f entries) c.outstanding
      ≤ sum_by (weight_left names c.incarnation entries c.outstanding f) (leases_of c.id entries)

-- The request's number is new to its client's book, or its reply is kept, and so the answer to it
-- isn't `old`, `stale` or `gap`.
pub record IsAnswerable (a : Account) (id : RequestId) : Type 0 where
  pub current : id.incarnation ≡ a.incarnation
  pub answered : IsNew a id ⊎ ((k : Kept) × (kept_at id.number a.kept ≡ Some k))
  pub stale : (greatest : ℕ) → IsStale a id greatest → ⊥
  pub gap : (low : ℕ) → IsGap a id low → ⊥

-- a request is settled for what it asks for
abbrev pub IsFor : (ℕ → List ℕ) → Op → Settlement → Type 0
IsFor names (ops.Lease l) (Grant t terms) = names t.arena ≡ l.arena
IsFor names (ops.Release r) (Return arena base) = (names arena ≡ r.arena) × (base ≡ r.base)
IsFor names op (Refuse why) = Unit {0}
IsFor names op settlement = ⊥

-- a grant isn't at a base of an arena where a lease of the same incarnation stands
abbrev pub IsApart : (ℕ → List ℕ) → RequestId → List Lease → Settlement → Type 0
IsApart names id leases (Grant t terms) =
    leased_at names id.incarnation (names t.arena) t.holding.range.base leases ≡ 0
IsApart names id leases (Return arena base) = Unit {0}
IsApart names id leases (Refuse why) = Unit {0}
