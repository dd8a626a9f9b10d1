-- Which entries a book comes to by lines.
use Rattle.std.proofs.Common.{◌≡◌, ℕ, ◌<◌, ◌≤◌, sym, subst, ap, inl, inr, List, [], ◌∷◌, Ok, Err, Result}
use Rattle.deed_core.specs.Tag.{Tag}
use Rattle.lease_terms.specs.Requests.{RequestId}
use Rattle.lease_terms.specs.declared.protocols.Protocol.{Protocol}
use Rattle.lease_proto.specs.declared.faults.LineFault.{LineFault}
use Rattle.lease_proto.specs.declared.lines.Line.{Line}
use Rattle.lease_proto.specs.declared.lines.Line.TheVariants as lines
use Rattle.lease_proto.specs.declared.lines.HelloLine.{HelloLine}
use Rattle.lease_proto.specs.declared.lines.Op.{Op}
use Rattle.lease_proto.specs.declared.lines.Op.TheVariants as ops
use Rattle.lease_proto.specs.declared.operators.ServedLine.{ServedLine}
use Rattle.lease_proto.specs.declared.operators.ServedLine.TheVariants as served
use Rattle.lease_proto.specs.declared.replies.Reply.{Reply}
use Rattle.lease_proto.specs.declared.replies.Reply.TheVariants as reply
use Rattle.lease_proto.specs.Requests.{demand_of}
use Rattle.lease_book.specs.Entry.{Entry, Settlement, Settled, Hello, Swept, Grant, Refuse, Return}
use Rattle.lease_book.specs.Answers.{IsNew}
use Rattle.lease_book.specs.BookState.{BookState, Enters, account_in}
use Rattle.lease_machine.specs.Picture.{Picture}
use Rattle.lease_machine.specs.Machine.{NewRequest, Sweeps, HelloStep, ClientStep, AnswersLine}
use Rattle.lease_machine.proofs.Repeats.{operator_keeps}

-- an entry that lines make: a hello of no older incarnation, what a new request is settled by, or the
-- end of a lease of an older incarnation
pub data Makes : Entry → BookState → Type 0 where
  greets : (c i : ℕ) (p : Protocol) (old : BookState) → (account_in c old).incarnation ≤ i → Makes (Hello c i p) old
  settles : (id : RequestId) (s : Settlement) (old : BookState) → IsNew (account_in id.client old) id → Makes (Settled id s) old
  sweeps : (c i arena base : ℕ) (old : BookState) → i < (account_in c old).incarnation → Makes (Swept c i arena base) old

-- the book came to be the other by some of these
pub data Comes : BookState → BookState → Type 0 where
  still : (old new : BookState) → new ≡ old → Comes old new
  further : (e : Entry) (old mid new : BookState) → Makes e old → Enters e old mid → Comes mid new → Comes old new

one : (e : Entry) (old new : BookState) → Makes e old → Enters e old new → Comes old new
one e old new makes entry = further e old new new makes entry (still new new (λ i. new))

abbrev pub BookComes : Picture → Picture → Type 0
BookComes old new = Comes old.book new.book

same_book : (old new : Picture) → new ≡ old → BookComes old new
same_book old new e = still old.book new.book (ap (λ (d : Picture). d.book) e)

sweeps_come : (c : ℕ) (ts : List Tag) (old new : Picture) → Sweeps c ts old new → BookComes old new
sweeps_come c [] old new e = same_book old new e
sweeps_come c (t ∷ ts) old new (id, mid, swept, back, rest) =
    let older = subst (λ (k : ℕ). id.incarnation < (account_in k old.book).incarnation) (sym swept.client) swept.older in
    further (Swept id.client id.incarnation t.arena t.holding.range.base) old.book mid.book new.book
    (sweeps id.client id.incarnation t.arena t.holding.range.base old.book older) swept.ended.entry (sweeps_come c ts mid new rest)

hello_comes : (h : HelloLine) (old new : Picture) (r : Reply) → HelloStep h old new r → BookComes old new
hello_comes h old new (reply.Welcome w) does =
    let greeted = does.1 in
    further (Hello h.client h.incarnation h.protocol) old.book greeted.greeted new.book (greets h.client h.incarnation h.protocol old.book greeted.current) greeted.hello
    (sweeps_come h.client greeted.swept (record old { book = greeted.greeted }) new greeted.sweeps)
hello_comes h old new (reply.Old o) does = same_book old new does.2
hello_comes h old new (reply.Again a) does = same_book old new does.2
hello_comes h old new (reply.Granted x) does = absurd does
hello_comes h old new (reply.Released x) does = absurd does
hello_comes h old new (reply.Refused x) does = absurd does
hello_comes h old new (reply.Stale x) does = absurd does
hello_comes h old new (reply.Gap x) does = absurd does
hello_comes h old new (reply.Error x) does = absurd does

settles_one : (id : RequestId) (s : Settlement) (old new : Picture) → IsNew (account_in id.client old.book) id → Enters (Settled id s) old.book new.book → BookComes old new
settles_one id s old new fresh entry = one (Settled id s) old.book new.book (settles id s old.book fresh) entry

lease_comes : (id : RequestId) (l : _) (old new : Picture) (r : Reply) → NewRequest id (ops.Lease l) old new r → BookComes old new
lease_comes id l old new (reply.Granted g) does = settles_one id (Grant does.segment (record { quantum = does.arena.quantum; request = demand_of l })) old new does.granted.new does.granted.entry
lease_comes id l old new (reply.Refused x) does = settles_one id (Refuse does.0) old new does.1.refused.new does.1.refused.entry
lease_comes id l old new (reply.Again x) does = still old.book new.book does.1.book
lease_comes id l old new (reply.Released x) does = absurd does
lease_comes id l old new (reply.Old x) does = absurd does
lease_comes id l old new (reply.Stale x) does = absurd does
lease_comes id l old new (reply.Gap x) does = absurd does
lease_comes id l old new (reply.Welcome x) does = absurd does
lease_comes id l old new (reply.Error x) does = absurd does

release_comes : (id : RequestId) (l : _) (old new : Picture) (r : Reply) → NewRequest id (ops.Release l) old new r → BookComes old new
release_comes id l old new (reply.Released p) does = settles_one id (Return does.1.index l.base) old new does.1.released.new does.1.released.entry
release_comes id l old new (reply.Refused x) does = settles_one id (Refuse does.0) old new does.1.refused.new does.1.refused.entry
release_comes id l old new (reply.Granted x) does = absurd does
release_comes id l old new (reply.Again x) does = absurd does
release_comes id l old new (reply.Old x) does = absurd does
release_comes id l old new (reply.Stale x) does = absurd does
release_comes id l old new (reply.Gap x) does = absurd does
release_comes id l old new (reply.Welcome x) does = absurd does
release_comes id l old new (reply.Error x) does = absurd does

new_comes : (id : RequestId) (op : Op) (old new : Picture) (r : Reply) → NewRequest id op old new r → BookComes old new
new_comes id (ops.Lease l) old new r does = lease_comes id l old new r does
new_comes id (ops.Release l) old new r does = release_comes id l old new r does

client_comes : (line : Line) (old new : Picture) (r : Reply) → ClientStep line old new r → BookComes old new
client_comes (lines.Hello h) old new r does = hello_comes h old new r does
client_comes (lines.Request id op) old new r does = elim does [
  | inl known ↦ same_book old new known.1
  | inr fresh ↦ new_comes id op old new r fresh.1
]

pub answer_comes : (x : Result ServedLine LineFault) (old new : Picture) (text : List ℕ) → AnswersLine old x text new → BookComes old new
answer_comes (Ok (served.Client l)) old new text does = client_comes l old new does.0 does.2
answer_comes (Ok (served.Operator o)) old new text does = still old.book new.book (operator_keeps o old new text does)
answer_comes (Err fault) old new text does = same_book old new does.1
