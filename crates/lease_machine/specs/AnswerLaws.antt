-- What follows for the answers to requests.
use Rattle.std.specs.Prelude.{◌≡◌, ◌≢◌, ◌⊎◌, ℕ, ◌+◌, ◌<◌, List, [], All, Option, Some, None}
use Rattle.std.specs.Prelude.{Ok, Err, slice_get, true}
use Rattle.std.specs.List.{find, AllByRecursion}
use Rattle.deed_core.specs.Extent.{Covers}
use Rattle.deed_core.specs.Tag.{Tag}
use Rattle.deed_core.specs.Request.{Fits}
use Rattle.arena_tree.specs.declared.trees.TreeArena.{TreeArena}
use Rattle.stock.specs.Spaces.{SpaceState}
use Rattle.stock.specs.OwnCaches.{OwnCacheState}
use Rattle.stock_audit.specs.Outside.{Outside, outside}
use Rattle.stock_audit.specs.Chains.{IsReachable}
use Rattle.lease_terms.specs.Names.{is_name}
use Rattle.lease_terms.specs.Requests.{RequestId}
use Rattle.lease_proto.specs.declared.lines.Line.{Line}
use Rattle.lease_proto.specs.declared.lines.Line.TheVariants as lines
use Rattle.lease_proto.specs.declared.lines.HelloLine.{HelloLine}
use Rattle.lease_proto.specs.declared.lines.LeaseLine.{LeaseLine}
use Rattle.lease_proto.specs.declared.lines.Op.{Op}
use Rattle.lease_proto.specs.declared.lines.Op.TheVariants as ops
use Rattle.lease_proto.specs.declared.operators.ServedLine.TheVariants as served
use Rattle.lease_proto.specs.declared.replies.Reply.{Reply}
use Rattle.lease_proto.specs.declared.replies.Reply.TheVariants as reply
use Rattle.lease_proto.specs.Frames.{Frame, with_line_feed}
use Rattle.lease_proto.specs.Operators.{served_of}
use Rattle.lease_proto.specs.Replies.{reply_of, reply_text}
use Rattle.lease_proto.specs.Requests.{client_of, request_named, demand_of}
use Rattle.lease_book.specs.Receipts.{Kept}
use Rattle.lease_book.specs.Replies.{kept_at}
use Rattle.lease_book.specs.BookState.{account_in}
use Rattle.lease_book.specs.Account.{last_number, window_in}
use Rattle.lease_book.specs.Answers.{IsNew}
use Rattle.lease_book.specs.declared.receipts.Terms.{Terms}
use Rattle.lease_book.specs.declared.receipts.KeptReply.TheVariants as kept
use Rattle.lease_machine.specs.Picture.{NumberedCpu, Picture, IsPicture, Finds, is_cpu, caches_of}
use Rattle.lease_machine.specs.Machine.{LeaseStep, Grants}
use Rattle.lease_machine.specs.Laws.{Runs}

-- the bytes of a reply, as they are written
abbrev pub reply_bytes : Reply → List ℕ
reply_bytes r = with_line_feed (reply_text r)

-- the reply is kept: its number is settled
abbrev pub IsKept : Reply → Type 0
IsKept (reply.Granted g) = Unit {0}
IsKept (reply.Released id) = Unit {0}
IsKept (reply.Refused x) = Unit {0}
IsKept r = ⊥

-- the bytes are of a reply that isn't
abbrev pub IsUnkept : List ℕ → Type 0
IsUnkept text = (r : Reply) × (text ≡ reply_bytes r) × (¬ IsKept r)

-- the bytes are this request
abbrev pub IsRequestLine : List ℕ → RequestId → Op → Type 0
IsRequestLine line id op = served_of line ≡ Ok (served.Client (lines.Request id op))

-- no line of this client is among them: they are lines of others, of operators, or none
abbrev pub IsOfOthers : ℕ → Frame → Type 0
IsOfOthers c (Ok line) = (l : Line) → served_of line ≡ Ok (served.Client l) → client_of l ≢ c
IsOfOthers c (Err fault) = Unit {0}

abbrev pub AreOfOthers : ℕ → List Frame → Type 0
AreOfOthers c frames = AllByRecursion (IsOfOthers c) frames

-- A request that comes again, with whatever else in its line, also after any lines of other clients
-- and of operators: it is answered by the same bytes, and nothing changes; but where its answer
-- wasn't kept.
abbrev pub LinesRepeat : Type 0
LinesRepeat = (old mid late new : Picture) (id : RequestId) (op again : Op)
    (line text between repeat bytes : List ℕ) (frames : List Frame) → IsPicture old
    → IsRequestLine line id op → LeaseStep old line text mid
    → AreOfOthers id.client frames → Runs mid frames between late
    → IsRequestLine repeat id again → LeaseStep late repeat bytes new
    → ((bytes ≡ text) × (new ≡ late)) ⊎ IsUnkept text

-- Any two answers to one request that settle it are the same bytes, whatever lines come between,
-- the client's own among them.
abbrev pub AnswersAgree : Type 0
AnswersAgree = (old mid late new : Picture) (id : RequestId) (op again : Op)
    (line text between repeat bytes : List ℕ) (frames : List Frame) → IsPicture old
    → IsRequestLine line id op → LeaseStep old line text mid → Runs mid frames between late
    → IsRequestLine repeat id again → LeaseStep late repeat bytes new
    → (bytes ≡ text) ⊎ (IsUnkept text ⊎ IsUnkept bytes)

-- the request is of its client's incarnation, and its number is within the window of the greatest
-- one that was settled
pub record IsRecent (d : Picture) (id : RequestId) : Type 0 where
  pub current : id.incarnation ≡ (account_in id.client d.book).incarnation
  pub near : last_number (account_in id.client d.book)
      < id.number + window_in (account_in id.client d.book)

-- So long a request that comes again after any lines, its client's own among them, is answered by
-- the same bytes, and nothing changes; but where its answer wasn't kept.
abbrev pub RecentRepeat : Type 0
RecentRepeat = (old mid late new : Picture) (id : RequestId) (op again : Op)
    (line text between repeat bytes : List ℕ) (frames : List Frame) → IsPicture old
    → IsRequestLine line id op → LeaseStep old line text mid → Runs mid frames between late
    → IsRecent late id → IsRequestLine repeat id again → LeaseStep late repeat bytes new
    → ((bytes ≡ text) × (new ≡ late)) ⊎ IsUnkept text

-- the reply is to this request, and says so; `old` names its client alone
abbrev pub NamesRequest : RequestId → Reply → Type 0
NamesRequest id (reply.Old o) = o.client ≡ id.client
NamesRequest id r = request_named r ≡ Some id

-- the reply is to this hello, and says so; `old` names its client alone
abbrev pub NamesHello : HelloLine → Reply → Type 0
NamesHello h (reply.Welcome w) = (w.client ≡ h.client) × (w.incarnation ≡ h.incarnation)
NamesHello h (reply.Old o) = o.client ≡ h.client
NamesHello h (reply.Again a) =
    a ≡ record { client = h.client; incarnation = h.incarnation; number = 0 }
NamesHello h r = ⊥

-- the reply is to this line of a client
abbrev pub RepliesTo : Line → Reply → Type 0
RepliesTo (lines.Hello h) r = NamesHello h r
RepliesTo (lines.Request id op) r = NamesRequest id r

-- the text is one line, and is read as this reply
abbrev pub IsReadAs : List ℕ → Reply → Type 0
IsReadAs text r = (bytes : List ℕ) × (text ≡ with_line_feed bytes) × (reply_of bytes ≡ Ok r)

-- the arenas have names
abbrev pub AreNamed : List TreeArena → Type 0
AreNamed tree = All (λ x. is_name x.name ≡ true) tree

-- and then each line of a client is answered by one line, which is read as a reply to it
abbrev pub ClientsGetReplies : Type 0
ClientsGetReplies = (old new : Picture) (l : Line) (line text : List ℕ) → IsPicture old
    → AreNamed old.tree → served_of line ≡ Ok (served.Client l) → LeaseStep old line text new
    → (r : Reply) × IsReadAs text r × RepliesTo l r

-- what is granted is of the arena that the line names, and fits what it asks
abbrev pub FitsLine : Picture → LeaseLine → Reply → Type 0
FitsLine d l (reply.Granted g) = (g.arena ≡ l.arena) × ((index : ℕ) × (x : TreeArena)
    × Finds d l.arena index x × Fits x.quantum (demand_of l) g.base g.len)
FitsLine d l r = Unit {0}

-- a new lease is answered by a reply to it that fits its line; so are its repeats, by the same
-- bytes
abbrev pub GrantsFit : Type 0
GrantsFit = (old new : Picture) (id : RequestId) (l : LeaseLine) (line text : List ℕ)
    → IsPicture old → IsRequestLine line id (ops.Lease l) → IsNew (account_in id.client old.book) id
    → LeaseStep old line text new
    → (r : Reply) × (text ≡ reply_bytes r) × NamesRequest id r × FitsLine old l r

-- Whatever lines come between, each answer to the same number that settles it is a reply to it that
-- fits the line by which it was asked first.
abbrev pub RepeatsFit : Type 0
RepeatsFit = (old mid late new : Picture) (id : RequestId) (l : LeaseLine) (again : Op)
    (line text between repeat bytes : List ℕ) (frames : List Frame) → IsPicture old
    → IsRequestLine line id (ops.Lease l) → IsNew (account_in id.client old.book) id
    → LeaseStep old line text mid → Runs mid frames between late
    → IsRequestLine repeat id again → LeaseStep late repeat bytes new
    → ((r : Reply) × (bytes ≡ reply_bytes r) × NamesRequest id r × FitsLine old l r)
    ⊎ (IsUnkept text ⊎ IsUnkept bytes)

-- the kept reply is no grant, or one of an arena whose units fit the request that it was made for
abbrev pub IsFitting : Picture → Kept → Type 0
IsFitting d k = (arena base len : ℕ) → k.reply ≡ kept.Granted arena base len
    → (x : TreeArena) × (terms : Terms) × (slice_get d.tree arena ≡ Some x)
    × (k.terms ≡ Some terms) × (terms.quantum ≡ x.quantum)
    × Fits x.quantum terms.request base len

-- so is each kept reply, however long ago its number was settled
abbrev pub KeptGrantsFit : Type 0
KeptGrantsFit = (d : Picture) (c n : ℕ) (k : Kept) → IsPicture d
    → kept_at n (account_in c d.book).kept ≡ Some k → IsFitting d k

abbrev pub caches_or_none : Option NumberedCpu → List OwnCacheState
caches_or_none None = []
caches_or_none (Some c) = caches_of c

-- what the selected CPU has out of the parts
abbrev pub selected_outside : Picture → Outside
selected_outside d = outside [] [] (caches_or_none (find (is_cpu d.selected) d.cpus))

-- each unit of the segment was free in the arena or, outside its spans, in a source, or it was in a
-- slab, a depot or a magazine of the selected CPU
abbrev pub WasReachable : Picture → ℕ → Tag → Type 0
WasReachable d index t = (s : SpaceState) → slice_get d.spaces index ≡ Some s → (u : ℕ)
    → Covers t.holding.range u → IsReachable d.spaces (selected_outside d) index s u

-- what is granted was in reach
abbrev pub GrantsWereReachable : Type 0
GrantsWereReachable = (old new : Picture) (id : RequestId) (l : LeaseLine) (r : Reply)
    → IsPicture old → (g : Grants id l old new r) → WasReachable old g.index g.segment
