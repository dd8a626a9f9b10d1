-- What may become of a world at one event, each case by its condition and its move. The parts' own
-- relations say what a call of them does; all that a move doesn't name stays.
use Rattle.std.specs.Prelude.{◌≡◌, ℕ, true, ◌+◌, ◌<◌, ◌≤◌, List, [], ◌∷◌, ◌++◌, length, set}
use Rattle.std.specs.Prelude.{slice_get, sum_by, Option, Some, None, Ok}
use Rattle.std.specs.List.{find}
use Rattle.std.specs.Option.{option_to_list}
use Rattle.deed_core.specs.Tag.{Tag}
use Rattle.stock.specs.Spaces.{SpaceState}
use Rattle.magazine_layer.specs.Magazines.{CpuCacheState, IsShaped, BothEmpty}
use Rattle.magazine_layer.specs.Calls.{PopOf, PushOf}
use Rattle.stock.specs.OwnCaches.{OwnCacheState, IsOwnCache, IsAtIndexesOf, own_rounds}
use Rattle.stock.specs.Steps.{HasQuantum}
use Rattle.stock.specs.Stocks.{IsRoundOf}
use Rattle.stock_audit.specs.Keeping.{IsStep}
use Rattle.lease_terms.specs.Requests.{RequestId}
use Rattle.lease_terms.specs.declared.refusals.Refusal.{Refusal}
use Rattle.lease_proto.specs.declared.lines.HelloLine.{HelloLine}
use Rattle.lease_proto.specs.declared.lines.LeaseLine.{LeaseLine}
use Rattle.lease_proto.specs.declared.lines.ReleaseLine.{ReleaseLine}
use Rattle.lease_proto.specs.declared.lines.Line.{Line}
use Rattle.lease_proto.specs.declared.lines.Line.TheVariants as lines
use Rattle.lease_proto.specs.declared.lines.Op.{Op}
use Rattle.lease_proto.specs.declared.lines.Op.TheVariants as ops
use Rattle.lease_proto.specs.declared.replies.Reply.{Reply}
use Rattle.lease_proto.specs.declared.replies.Reply.TheVariants as replies
use Rattle.lease_proto.specs.Requests.{demand_of, again_of}
use Rattle.lease_book.specs.Receipts.{ReceiptState}
use Rattle.lease_book.specs.Entry.{Grant, Return, Refuse, Settled, Hello, Swept}
use Rattle.lease_book.specs.BookState.{BookState, Enters, account_in, leased_segments}
use Rattle.lease_book.specs.Answers.{IsNew}
use Rattle.lease_book.specs.Account.{is_lease}
use Rattle.lease_book.specs.declared.books.TheConstants.{MOST_LEASES}
use Rattle.lease_book.specs.Calls.{IsGranted, IsRefused, IsReleased, IsSwept}
use Rattle.lease_book.specs.declared.receipts.Terms.{Terms}
use Rattle.lease_client.specs.ClientState.{ClientState, line_at}
use Rattle.lease_client.specs.Calls.{first_of}
use Rattle.lease_client.specs.Replies.{after_reply}
use Rattle.lease_history.specs.Told.{IsKnownReply, reply_of_settled}
use Rattle.world_core.specs.WorldState.{WorldState, arena_name}

-- the line that a client sends again: the request with this number, or, where none is named, the
-- first that waits
abbrev pub sent_again : Option ℕ → ClientState → Option Line
sent_again None c = first_of c.outstanding
sent_again (Some number) c = line_at number c.outstanding

-- the client at the index says the line, and goes on so
pub record ClientSays (index : ℕ) (May : ClientState → ClientState → Line → Type 0)
    (old new : WorldState) : Type 0 where
  pub client : ClientState
  pub next : ClientState
  pub line : Line
  pub at : slice_get old.clients index ≡ Some client
  pub may : May client next line
  pub after : new ≡ record old {
    clients = set old.clients index next;
    requests = old.requests ++ line ∷ [];
  }

-- the client gets a reply that was sent, its own or another's
pub record ClientHears (index which : ℕ) (old new : WorldState) : Type 0 where
  pub client : ClientState
  pub reply : Reply
  pub at : slice_get old.clients index ≡ Some client
  pub sent : slice_get old.replies which ≡ Some reply
  pub after : new ≡ record old { clients = set old.clients index (after_reply reply client) }

-- a hello that was sent comes, and is taken; it is told the protocol that stands
pub record HelloTaken (which : ℕ) (old new : WorldState) : Type 0 where
  pub hello : HelloLine
  pub book : BookState
  pub sent : slice_get old.requests which ≡ Some (lines.Hello hello)
  pub current : (account_in hello.client old.book).incarnation ≤ hello.incarnation
  pub enters : Enters (Hello hello.client hello.incarnation hello.protocol) old.book book
  pub leases : leased_segments book ≡ leased_segments old.book
  pub after : new ≡ record old {
    book = book;
    entries = Hello hello.client hello.incarnation hello.protocol ∷ old.entries;
    replies = old.replies ++ replies.Welcome (record {
      client = hello.client;
      incarnation = hello.incarnation;
      protocol = (account_in hello.client book).protocol;
    }) ∷ [];
  }

-- a hello that was sent comes, and is of an incarnation that has passed
pub record HelloRefused (which : ℕ) (old new : WorldState) : Type 0 where
  pub hello : HelloLine
  pub sent : slice_get old.requests which ≡ Some (lines.Hello hello)
  pub passed : hello.incarnation < (account_in hello.client old.book).incarnation
  pub after : new ≡ record old {
    replies = old.replies ++ replies.Old (record {
      client = hello.client;
      current = (account_in hello.client old.book).incarnation;
    }) ∷ [];
  }

-- a request that was sent comes, and its number isn't new
pub record AnsweredAtOnce (which : ℕ) (old new : WorldState) : Type 0 where
  pub id : RequestId
  pub op : Op
  pub reply : Reply
  pub sent : slice_get old.requests which ≡ Some (lines.Request id op)
  pub answered : IsKnownReply (arena_name old.names) old.book id reply
  pub after : new ≡ record old { replies = old.replies ++ reply ∷ [] }

-- a request with a new number comes to an idle CPU, which serves it from now on
pub record TaskTaken (cpu which : ℕ) (old new : WorldState) : Type 0 where
  pub id : RequestId
  pub op : Op
  pub sent : slice_get old.requests which ≡ Some (lines.Request id op)
  pub fresh : IsNew (account_in id.client old.book) id
  pub after : new ≡ record old {
    tasks = set old.tasks cpu (Some (record { id = id; op = op }));
  }

-- the arena at the index has this name
pub record IsNamed (w : WorldState) (index : ℕ) (name : List ℕ) : Type 0 where
  pub within : index < length w.names
  pub is : arena_name w.names index ≡ name

-- the CPU serves this request
abbrev pub HasTask : WorldState → ℕ → RequestId → Op → Type 0
HasTask w cpu id op = slice_get w.tasks cpu ≡ Some (Some (record { id = id; op = op }))

-- the hand's segment, which is of the arena that the lease names and fits it, is leased
pub record TaskGranted (cpu : ℕ) (old new : WorldState) : Type 0 where
  pub id : RequestId
  pub lease : LeaseLine
  pub segment : Tag
  pub terms : Terms
  pub book : BookState
  pub receipt : ReceiptState
  pub serves : HasTask old cpu id (ops.Lease lease)
  pub holds : slice_get old.hands cpu ≡ Some (Some segment)
  pub home : IsNamed old segment.arena lease.arena
  pub quantum : HasQuantum old.stock segment.arena terms.quantum
  pub request : terms.request ≡ demand_of lease
  pub granted : IsGranted old.book book id segment terms receipt
  pub after : new ≡ record old {
    hands = set old.hands cpu None;
    tasks = set old.tasks cpu None;
    book = book;
    entries = Settled id (Grant segment terms) ∷ old.entries;
    replies = old.replies ++ reply_of_settled (arena_name old.names) id (Grant segment terms) ∷ [];
  }

-- the request is settled by a refusal, and hands stay as they are
pub record TaskRefused (cpu : ℕ) (why : Refusal) (old new : WorldState) : Type 0 where
  pub id : RequestId
  pub op : Op
  pub book : BookState
  pub receipt : ReceiptState
  pub serves : HasTask old cpu id op
  pub refused : IsRefused old.book book id why receipt
  pub after : new ≡ record old {
    tasks = set old.tasks cpu None;
    book = book;
    entries = Settled id (Refuse why) ∷ old.entries;
    replies = old.replies ++ reply_of_settled (arena_name old.names) id (Refuse why) ∷ [];
  }

-- the client of the request that the CPU serves has as many leases as one may have
abbrev pub HasAllLeases : WorldState → ℕ → Type 0
HasAllLeases w cpu = (id : RequestId) (op : Op) → HasTask w cpu id op
    → MOST_LEASES ≤ length (account_in id.client w.book).leases

-- the CPU serves a release of what is no lease of the request's incarnation
abbrev pub HasNoSuchLease : WorldState → ℕ → Type 0
HasNoSuchLease w cpu = (id : RequestId) (release : ReleaseLine) (arena : ℕ)
    → HasTask w cpu id (ops.Release release) → IsNamed w arena release.arena
    → find (is_lease id.incarnation arena release.base) (account_in id.client w.book).leases ≡ None

-- the lease that a release names comes into the CPU's empty hand
pub record TaskReleased (cpu : ℕ) (old new : WorldState) : Type 0 where
  pub id : RequestId
  pub release : ReleaseLine
  pub arena : ℕ
  pub segment : Tag
  pub book : BookState
  pub receipt : ReceiptState
  pub serves : HasTask old cpu id (ops.Release release)
  pub empty : slice_get old.hands cpu ≡ Some None
  pub home : IsNamed old arena release.arena
  pub released : IsReleased old.book book id arena release.base receipt segment
  pub after : new ≡ record old {
    hands = set old.hands cpu (Some segment);
    tasks = set old.tasks cpu None;
    book = book;
    entries = Settled id (Return arena release.base) ∷ old.entries;
    replies = old.replies
        ++ reply_of_settled (arena_name old.names) id (Return arena release.base) ∷ [];
  }

-- the request ends unsettled, with a reply that may come
pub record TaskEnded (cpu : ℕ) (May : RequestId → Reply → Type 0) (old new : WorldState)
    : Type 0 where
  pub id : RequestId
  pub op : Op
  pub reply : Reply
  pub serves : HasTask old cpu id op
  pub may : May id reply
  pub after : new ≡ record old {
    tasks = set old.tasks cpu None;
    replies = old.replies ++ reply ∷ [];
  }

-- its number isn't new any more
abbrev pub TaskAnswered : ℕ → (old new : WorldState) → Type 0
TaskAnswered cpu old new =
    TaskEnded cpu (IsKnownReply (arena_name old.names) old.book) old new

-- out of memory
abbrev pub TaskGivenUp : ℕ → (old new : WorldState) → Type 0
TaskGivenUp cpu old new = TaskEnded cpu (λ id reply. reply ≡ again_of id) old new

-- a part is given what the CPU's hand has, and the hand has what it answers
pub record HandMoves (cpu : ℕ) (given answered : Option Tag)
    (Does : (old new : List SpaceState) → Type 0) (old new : WorldState) : Type 0 where
  pub stock : List SpaceState
  pub holds : slice_get old.hands cpu ≡ Some given
  pub does : Does old.stock stock
  pub step : IsStep old.stock (option_to_list given) stock (option_to_list answered)
  pub after : new ≡ record old { stock = stock; hands = set old.hands cpu answered }

-- a part does so with no hand
pub record PartMoves (Does : (old new : List SpaceState) → Type 0) (old new : WorldState)
    : Type 0 where
  pub stock : List SpaceState
  pub does : Does old.stock stock
  pub step : IsStep old.stock [] stock []
  pub after : new ≡ record old { stock = stock }

-- a lease of an incarnation of the client that has passed comes into the CPU's empty hand
pub record LeaseSwept (cpu client : ℕ) (old new : WorldState) : Type 0 where
  pub id : RequestId
  pub segment : Tag
  pub book : BookState
  pub empty : slice_get old.hands cpu ≡ Some None
  pub swept : IsSwept old.book book client id segment
  pub after : new ≡ record old {
    hands = set old.hands cpu (Some segment);
    book = book;
    entries = Swept id.client id.incarnation segment.arena segment.holding.range.base
        ∷ old.entries;
  }

-- the cache at this index of the list is the CPU's
pub record IsOwnOf (w : WorldState) (cpu index : ℕ) (own : OwnCacheState) : Type 0 where
  pub owner : slice_get w.owners index ≡ Some cpu
  pub at : slice_get w.caches index ≡ Some own

-- and is its cache for this quantum cache
pub record IsOwnFor (w : WorldState) (cpu arena cache index : ℕ) (own : OwnCacheState)
    : Type 0 where
  pub mine : IsOwnOf w cpu index own
  pub home : own.arena ≡ arena
  pub number : own.cache ≡ cache

-- it is for what the CPU's hand has
pub record TakesHand (w : WorldState) (cpu index : ℕ) (own : OwnCacheState) (chunk : Tag)
    : Type 0 where
  pub holds : slice_get w.hands cpu ≡ Some (Some chunk)
  pub mine : IsOwnOf w cpu index own
  pub takes : IsRoundOf own.arena (own.cache + 1) own.quantum chunk

-- it becomes another for the same, which is well formed too
pub record OwnGoesOn (own next : OwnCacheState) : Type 0 where
  pub same : IsAtIndexesOf own next
  pub sound : IsOwnCache next
  pub shaped : IsShaped next.cpu

-- a cache of the CPU at this index of the list is given what the CPU's hand has, and the hand has
-- what it answers
pub record RoundMoves (cpu index : ℕ) (own next : OwnCacheState) (given answered : Option Tag)
    (old new : WorldState) : Type 0 where
  pub holds : slice_get old.hands cpu ≡ Some given
  pub goes : OwnGoesOn own next
  pub even : (f : Tag → ℕ) → sum_by f (own_rounds own) + sum_by f (option_to_list given)
      ≡ sum_by f (own_rounds next) + sum_by f (option_to_list answered)
  pub after : new ≡ record old {
    hands = set old.hands cpu answered;
    caches = set old.caches index next;
  }

-- the CPU's own cache for this quantum cache gives a round into its empty hand
pub record RoundPopped (cpu arena cache : ℕ) (old new : WorldState) : Type 0 where
  pub index : ℕ
  pub own : OwnCacheState
  pub next : OwnCacheState
  pub round : Tag
  pub here : IsOwnFor old cpu arena cache index own
  pub pops : PopOf own.cpu (Some round) next.cpu
  pub moves : RoundMoves cpu index own next None (Some round) old new

-- the hand's chunk becomes a round of the CPU's own cache for it
pub record RoundPushed (cpu : ℕ) (old new : WorldState) : Type 0 where
  pub index : ℕ
  pub own : OwnCacheState
  pub next : OwnCacheState
  pub chunk : Tag
  pub takes : TakesHand old cpu index own chunk
  pub pushes : PushOf own.cpu chunk (Ok tt) next.cpu
  pub moves : RoundMoves cpu index own next (Some chunk) None old new

-- the CPU's own cache for this quantum cache does so with the stock, and no hand
pub record OwnMoves (cpu arena cache : ℕ)
    (Does : (old new : CpuCacheState) → (before after : List SpaceState) → Type 0)
    (old new : WorldState) : Type 0 where
  pub index : ℕ
  pub own : OwnCacheState
  pub next : OwnCacheState
  pub stock : List SpaceState
  pub here : IsOwnFor old cpu arena cache index own
  pub does : Does own.cpu next.cpu old.stock stock
  pub goes : OwnGoesOn own next
  pub step : IsStep old.stock (own_rounds own) stock (own_rounds next)
  pub after : new ≡ record old { stock = stock; caches = set old.caches index next }

-- the CPU has failed, and what it served is forgotten
abbrev pub after_failure : ℕ → WorldState → WorldState
after_failure cpu w = record w { tasks = set w.tasks cpu None; failed = set w.failed cpu true }

-- the segment in another CPU's hand comes into the CPU's empty hand; the other has failed
pub record HandAdopted (cpu other : ℕ) (old new : WorldState) : Type 0 where
  pub segment : Tag
  pub empty : slice_get old.hands cpu ≡ Some None
  pub holds : slice_get old.hands other ≡ Some (Some segment)
  pub after : new ≡ after_failure other
      (record old { hands = set (set old.hands other None) cpu (Some segment) })

-- the CPU's own cache at this index of the list has a round
pub record HasRoundAt (w : WorldState) (cpu index : ℕ) (own : OwnCacheState) : Type 0 where
  pub mine : IsOwnOf w cpu index own
  pub some : ¬ BothEmpty own.cpu

-- and none of its caches before has one
pub record IsFirstWithRound (w : WorldState) (cpu index : ℕ) (own : OwnCacheState) : Type 0 where
  pub has : HasRoundAt w cpu index own
  pub first : (k : ℕ) (o : OwnCacheState) → k < index → ¬ HasRoundAt w cpu k o

-- where another CPU's hand has nothing, the round that the first of its own caches with any gives
-- comes into the CPU's empty hand; the other has failed
pub record RoundAdopted (cpu other : ℕ) (old new : WorldState) : Type 0 where
  pub index : ℕ
  pub own : OwnCacheState
  pub next : OwnCacheState
  pub round : Tag
  pub between : WorldState
  pub none : (t : Tag) → ¬ (slice_get old.hands other ≡ Some (Some t))
  pub first : IsFirstWithRound old other index own
  pub pops : PopOf own.cpu (Some round) next.cpu
  pub moves : RoundMoves cpu index own next None (Some round) old between
  pub after : new ≡ after_failure other between
