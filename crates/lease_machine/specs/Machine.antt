-- The lease machine: what a line may be answered, and what may change with it.
use Rattle.std.specs.Prelude.{◌≡◌, ◌⊎◌, ℕ, ◌<◌, ◌≤◌, List, [], ◌∷◌, All, length, Some, None}
use Rattle.std.specs.Prelude.{Result, Ok, Err}
use Rattle.std.specs.List.{find}
use Rattle.deed_core.specs.Tag.{Tag}
use Rattle.deed_core.specs.Request.{IsGood}
use Rattle.arena_tree.specs.declared.trees.TreeArena.{TreeArena}
use Rattle.arena_tree.specs.Trees.{index_in}
use Rattle.lease_terms.specs.Requests.{RequestId}
use Rattle.lease_terms.specs.declared.protocols.Protocol.TheVariants.{Two}
use Rattle.lease_terms.specs.declared.refusals.Refusal.{Refusal}
use Rattle.lease_terms.specs.declared.refusals.Refusal.TheVariants.{NoFit, BadRequest, NoArena}
use Rattle.lease_terms.specs.declared.refusals.Refusal.TheVariants.{NotYours, Leases}
use Rattle.lease_proto.specs.declared.faults.LineFault.{LineFault}
use Rattle.lease_proto.specs.declared.lines.Line.{Line}
use Rattle.lease_proto.specs.declared.lines.Line.TheVariants as lines
use Rattle.lease_proto.specs.declared.lines.Op.{Op}
use Rattle.lease_proto.specs.declared.lines.Op.TheVariants as ops
use Rattle.lease_proto.specs.declared.lines.HelloLine.{HelloLine}
use Rattle.lease_proto.specs.declared.lines.LeaseLine.{LeaseLine}
use Rattle.lease_proto.specs.declared.lines.ReleaseLine.{ReleaseLine}
use Rattle.lease_proto.specs.declared.operators.GrowLine.{GrowLine}
use Rattle.lease_proto.specs.declared.operators.OperatorLine.TheVariants as operator
use Rattle.lease_proto.specs.declared.operators.ServedLine.{ServedLine}
use Rattle.lease_proto.specs.declared.operators.ServedLine.TheVariants as served
use Rattle.lease_proto.specs.declared.replies.Reply.{Reply}
use Rattle.lease_proto.specs.declared.replies.Welcome.{Welcome}
use Rattle.lease_proto.specs.declared.replies.Reply.TheVariants as reply
use Rattle.lease_proto.specs.Faults.{error_line}
use Rattle.lease_proto.specs.Frames.{with_line_feed}
use Rattle.lease_proto.specs.Operators.{served_of}
use Rattle.lease_proto.specs.Replies.{reply_text}
use Rattle.lease_proto.specs.Requests.{demand_of, again_of}
use Rattle.lease_book.specs.Account.{Account, is_lease}
use Rattle.lease_book.specs.Receipts.{ReceiptState}
use Rattle.lease_book.specs.Entry.{Hello, Grant, Refuse}
use Rattle.lease_book.specs.BookState.{BookState, Enters, account_in, leased_segments}
use Rattle.lease_book.specs.Answers.{IsNew}
use Rattle.lease_book.specs.Calls.{IsGranted, IsRefused, IsReleased, IsSwept}
use Rattle.lease_book.specs.declared.books.TheConstants.{MOST_LEASES}
use Rattle.lease_history.specs.Told.{IsKnownReply, reply_of_settled}
use Rattle.lease_machine.specs.Picture.{Picture, IsPicture, SameSetup, SetupGrows, BookAlone}
use Rattle.lease_machine.specs.Picture.{Finds}
use Rattle.arena_tree.specs.Trees.{arena_named}
use Rattle.lease_machine.specs.Moves.{SameNames}
use Rattle.lease_machine.specs.Chunks.{GoesBack}
use Rattle.lease_machine.specs.Serving.{CanServe, ServesWith, ServesNone, ServesInVain, FallsBack}
use Rattle.lease_machine.specs.Operators.{OperatorStep}

-- the arena that the line names takes its request
pub record TakesDemand (d : Picture) (l : LeaseLine) (index : ℕ) (x : TreeArena) : Type 0 where
  pub finds : Finds d l.arena index x
  pub good : IsGood x.quantum (demand_of l)

-- the arena serves the request, and what serves it is leased
pub record Grants (id : RequestId) (l : LeaseLine) (old new : Picture) (r : Reply) : Type 0 where
  pub index : ℕ
  pub arena : TreeArena
  pub takes : TakesDemand old l index arena
  pub segment : Tag
  pub serves : ServesWith index arena (demand_of l) segment old new
  pub receipt : ReceiptState
  pub granted : IsGranted old.book new.book id segment
      (record { quantum = arena.quantum; request = demand_of l }) receipt
  pub reply : r ≡ reply_of_settled (arena_named old.tree) id
      (Grant segment (record { quantum = arena.quantum; request = demand_of l }))

-- why a new lease is refused: the first of these that is so
abbrev pub RefusesLease : RequestId → LeaseLine → Picture → Picture → Refusal → Type 0
RefusesLease id l old new NoArena = (index_in l.arena old.tree ≡ None) × BookAlone old new
RefusesLease id l old new BadRequest = (index : ℕ) × (x : TreeArena) × Finds old l.arena index x
    × (¬ IsGood x.quantum (demand_of l)) × BookAlone old new
RefusesLease id l old new NoFit = (index : ℕ) × (x : TreeArena) × TakesDemand old l index x
    × ServesNone index x (demand_of l) old new
RefusesLease id l old new Leases = (index : ℕ) × (x : TreeArena) × TakesDemand old l index x
    × CanServe old index x (demand_of l) × ServesInVain index x (demand_of l) old new
    × (MOST_LEASES ≤ length (account_in id.client old.book).leases)
RefusesLease id l old new NotYours = ⊥

-- out of memory: something serves the request, and nothing is settled
pub record MissesLease (id : RequestId) (l : LeaseLine) (old new : Picture) : Type 0 where
  pub index : ℕ
  pub arena : TreeArena
  pub takes : TakesDemand old l index arena
  pub can : CanServe old index arena (demand_of l)
  pub back : FallsBack index arena (demand_of l) old new
  pub names : SameNames old new
  pub book : new.book ≡ old.book

-- the new request is settled by a refusal
pub record SettlesRefusal (id : RequestId) (why : Refusal) (old new : Picture) (r : Reply)
    : Type 0 where
  pub receipt : ReceiptState
  pub refused : IsRefused old.book new.book id why receipt
  pub reply : r ≡ reply_of_settled (arena_named old.tree) id (Refuse why)

-- the answer to a new lease
abbrev pub NewLease : RequestId → LeaseLine → Picture → Picture → Reply → Type 0
NewLease id l old new (reply.Granted g) = Grants id l old new (reply.Granted g)
NewLease id l old new (reply.Refused r) =
    (why : Refusal) × SettlesRefusal id why old new (reply.Refused r)
    × RefusesLease id l old new why
NewLease id l old new (reply.Again a) =
    (reply.Again a ≡ again_of id) × MissesLease id l old new
NewLease id l old new r = ⊥

-- the lease ends, and its segment goes back
pub record Releases (id : RequestId) (l : ReleaseLine) (old new : Picture) : Type 0 where
  pub index : ℕ
  pub arena : TreeArena
  pub finds : Finds old l.arena index arena
  pub segment : Tag
  pub receipt : ReceiptState
  pub released : IsReleased old.book new.book id index l.base receipt segment
  pub back : GoesBack segment old new

-- why a new release is refused
abbrev pub RefusesRelease : RequestId → ReleaseLine → Picture → Refusal → Type 0
RefusesRelease id l old NoArena = index_in l.arena old.tree ≡ None
RefusesRelease id l old NotYours = (index : ℕ) × (index_in l.arena old.tree ≡ Some index)
    × (find (is_lease id.incarnation index l.base) (account_in id.client old.book).leases ≡ None)
RefusesRelease id l old why = ⊥

-- the answer to a new release
abbrev pub NewRelease : RequestId → ReleaseLine → Picture → Picture → Reply → Type 0
NewRelease id l old new (reply.Released p) = (p ≡ id) × Releases id l old new
NewRelease id l old new (reply.Refused r) = (why : Refusal)
    × SettlesRefusal id why old new (reply.Refused r) × RefusesRelease id l old why
    × BookAlone old new
NewRelease id l old new r = ⊥

abbrev pub NewRequest : RequestId → Op → Picture → Picture → Reply → Type 0
NewRequest id (ops.Lease l) old new r = NewLease id l old new r
NewRequest id (ops.Release l) old new r = NewRelease id l old new r

-- the answer to a request: by its number, with nothing changed, or, where that is new, what the
-- request comes to
abbrev pub RequestStep : RequestId → Op → Picture → Picture → Reply → Type 0
RequestStep id op old new r = (IsKnownReply (arena_named old.tree) old.book id r × (new ≡ old))
    ⊎ (IsNew (account_in id.client old.book) id × NewRequest id op old new r)

-- these leases of older incarnations of the client ended one after another, and went back
abbrev pub Sweeps : ℕ → List Tag → Picture → Picture → Type 0
Sweeps c [] old new = new ≡ old
Sweeps c (t ∷ ts) old new = (id : RequestId) × (mid : Picture)
    × IsSwept old.book mid.book c id t × GoesBack t old mid × Sweeps c ts mid new

-- the hello is taken, and then all leases of the client's older incarnations end
pub record Welcomes (h : HelloLine) (old new : Picture) : Type 0 where
  pub current : (account_in h.client old.book).incarnation ≤ h.incarnation
  pub greeted : BookState
  pub hello : Enters (Hello h.client h.incarnation h.protocol) old.book greeted
  pub leases : leased_segments greeted ≡ leased_segments old.book
  pub swept : List Tag
  pub sweeps : Sweeps h.client swept (record old { book = greeted }) new
  pub left : All (λ l. h.incarnation ≤ l.incarnation) (account_in h.client new.book).leases

-- the welcome to a hello, with the protocol that stands for its incarnation
abbrev pub welcome_by : Picture → HelloLine → Welcome
welcome_by d h = record {
  client = h.client;
  incarnation = h.incarnation;
  protocol = (account_in h.client d.book).protocol;
}

-- the hello begins an incarnation of its client, its first one or one by the second protocol: only
-- then memory is taken
abbrev pub TakesMemory : HelloLine → Account → Type 0
TakesMemory h a = (a.incarnation < h.incarnation) × (0 < a.incarnation → h.protocol ≡ Two)

-- the answer to a hello
abbrev pub HelloStep : HelloLine → Picture → Picture → Reply → Type 0
HelloStep h old new (reply.Welcome w) = (w ≡ welcome_by new h) × Welcomes h old new
HelloStep h old new (reply.Old o) =
    (o ≡ record { client = h.client; current = (account_in h.client old.book).incarnation })
    × (h.incarnation < (account_in h.client old.book).incarnation) × (new ≡ old)
HelloStep h old new (reply.Again a) =
    (a ≡ record { client = h.client; incarnation = h.incarnation; number = 0 })
    × TakesMemory h (account_in h.client old.book) × (new ≡ old)
HelloStep h old new r = ⊥

-- the answer to a client's line
abbrev pub ClientStep : Line → Picture → Picture → Reply → Type 0
ClientStep (lines.Hello h) old new r = HelloStep h old new r
ClientStep (lines.Request id op) old new r = RequestStep id op old new r

-- the bytes that answer a line
abbrev pub ServedStep : ServedLine → Picture → List ℕ → Picture → Type 0
ServedStep (served.Client l) old text new =
    (r : Reply) × (text ≡ with_line_feed (reply_text r)) × ClientStep l old new r
ServedStep (served.Operator o) old text new = OperatorStep o old text new

-- the bytes that answer the bytes of a line, by what line they are
abbrev pub AnswersLine : Picture → Result ServedLine LineFault → List ℕ → Picture → Type 0
AnswersLine old (Ok line) text new = ServedStep line old text new
AnswersLine old (Err fault) text new = (text ≡ error_line fault) × (new ≡ old)

-- the bytes are a grow
abbrev pub IsGrow : Result ServedLine LineFault → Type 0
IsGrow line = (g : GrowLine) × (line ≡ Ok (served.Operator (operator.Grow g)))

-- one line, and what holds after it: each arena owns the spans that it owned, and only a grow adds
-- one
pub record LeaseStep (old : Picture) (line text : List ℕ) (new : Picture) : Type 0 where
  pub answer : AnswersLine old (served_of line) text new
  pub setup : SetupGrows old new
  pub stays : ¬ IsGrow (served_of line) → SameSetup old new
  pub picture : IsPicture new
