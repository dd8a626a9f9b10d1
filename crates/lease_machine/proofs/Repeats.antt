-- A request that comes again.
use Rattle.std.proofs.Common.{◌≡◌, ◌≢◌, ◌⊎◌, ℕ, refl, sym, subst, ap, ◌∙◌, inl, inr, List, [], ◌∷◌, Some, Ok, Err, Result, arith}
use Rattle.deed_core.specs.Tag.{Tag}
use Rattle.lease_terms.specs.Requests.{RequestId}
use Rattle.lease_proto.specs.declared.faults.LineFault.{LineFault}
use Rattle.lease_proto.specs.declared.lines.Line.{Line}
use Rattle.lease_proto.specs.declared.lines.Line.TheVariants as lines
use Rattle.lease_proto.specs.declared.lines.HelloLine.{HelloLine}
use Rattle.lease_proto.specs.declared.lines.Op.{Op}
use Rattle.lease_proto.specs.declared.lines.Op.TheVariants as ops
use Rattle.lease_proto.specs.declared.operators.OperatorLine.{OperatorLine}
use Rattle.lease_proto.specs.declared.operators.OperatorLine.TheVariants as operator
use Rattle.lease_proto.specs.declared.operators.ServedLine.{ServedLine}
use Rattle.lease_proto.specs.declared.operators.ServedLine.TheVariants as served
use Rattle.lease_proto.specs.declared.replies.Reply.{Reply}
use Rattle.lease_proto.specs.declared.replies.Reply.TheVariants as reply
use Rattle.lease_proto.specs.Frames.{Frame}
use Rattle.lease_proto.specs.Operators.{served_of}
use Rattle.lease_proto.specs.Requests.{client_of, demand_of}
use Rattle.lease_book.specs.Entry.{Entry, Settlement, Settled, Hello, Swept, Grant, Refuse, Return, kept_settlement, subject_of}
use Rattle.lease_book.specs.Receipts.{Kept}
use Rattle.lease_book.specs.Replies.{kept_at}
use Rattle.lease_book.specs.Account.{Account, window_in}
use Rattle.lease_book.specs.Shelf.{standing_of}
use Rattle.lease_book.specs.Standings.{settled_with}
use Rattle.lease_book.specs.BookState.{BookState, HasHistory, Enters, account_in}
use Rattle.lease_book.specs.Answers.{IsNew}
use Rattle.lease_book.proofs.LawProofs.{entered_changes}
use Rattle.lease_history.specs.Told.{reply_to, IsKnownReply, IsKeptReply}
use Rattle.arena_tree.specs.declared.trees.TreeArena.{TreeArena}
use Rattle.lease_machine.specs.Picture.{Picture, IsPicture}
use Rattle.arena_tree.specs.Trees.{arena_named}
use Rattle.lease_machine.specs.Operators.{Performs, LeavesOff, OperatorStep}
use Rattle.lease_machine.specs.Machine.{RequestStep, NewRequest, Sweeps, HelloStep, ClientStep, AnswersLine, LeaseStep}
use Rattle.lease_machine.specs.Laws.{Runs}
use Rattle.lease_machine.specs.AnswerLaws.{reply_bytes, IsKept, IsRequestLine, AreOfOthers, LinesRepeat}
use Rattle.lease_machine.proofs.Homes.{pictures_stay, setup_only_grows}
use Rattle.lease_machine.proofs.Numbers.{not_gap, not_stale, settled_found, some_window}

-- this is kept of the number
pub record IsKeptOf (book : BookState) (id : RequestId) (k : Kept) : Type 0 where
  pub current : id.incarnation ≡ (account_in id.client book).incarnation
  pub there : kept_at id.number (account_in id.client book).kept ≡ Some k

pub history_of : (d : Picture) → IsPicture d → HasHistory d.book
history_of d is = (is.book.entries, is.book.history)

-- so it is after its entry
pub settled_now : (old new : BookState) (id : RequestId) (s : Settlement) → HasHistory old → IsNew (account_in id.client old) id → Enters (Settled id s) old new → IsKeptOf new id (kept_settlement id.number s)
settled_now old new id s history fresh entry =
    let after = entered_changes.settled old new id s history entry in
    let was : Account = account_in id.client old in
    record {
      current = fresh.current ∙ sym (ap (λ (a : Account). a.incarnation) after);
      there = ap (λ (a : Account). kept_at id.number a.kept) after ∙ settled_found (window_in was) (kept_settlement id.number s) was.kept fresh.above (some_window was.protocol);
    }

-- and then it isn't new
pub not_new : (book : BookState) (id : RequestId) (k : Kept) → IsKeptOf book id k → IsNew (account_in id.client book) id → ⊥
not_new book id k is fresh = cc (sym fresh.unsettled ∙ is.there)

-- the reply to it
by_kept : (d : Picture) (id : RequestId) (k : Kept) (r : Reply) → IsKeptOf d.book id k → IsKeptReply (arena_named d.tree) d.book id r → r ≡ reply_to (arena_named d.tree) id k.reply
by_kept d id k r is known =
    let e : Some k ≡ Some (record { number = id.number; reply = known.0.reply; terms = known.0.terms }) = sym is.there ∙ known.1.kept in
    let same : k ≡ record { number = id.number; reply = known.0.reply; terms = known.0.terms } = cc in
    known.2 ∙ sym (ap (λ (x : Kept). reply_to (arena_named d.tree) id x.reply) same)

kept_again : (d : Picture) → HasHistory d.book → (id : RequestId) (k : Kept) (r : Reply) → IsKeptOf d.book id k → IsKnownReply (arena_named d.tree) d.book id r → r ≡ reply_to (arena_named d.tree) id k.reply
kept_again d history id k (reply.Old o) is known = absurd (known.1.other is.current)
kept_again d history id k (reply.Stale o) is known = absurd (omega (arith, known.1.last, known.1.below, not_stale history.0 d.book id history.1 is.current k is.there))
kept_again d history id k (reply.Gap o) is known = absurd (omega (arith, known.1.reached, known.1.above, not_gap history.0 d.book id history.1 is.current k is.there))
kept_again d history id k (reply.Granted g) is known = by_kept d id k (reply.Granted g) is known
kept_again d history id k (reply.Released g) is known = by_kept d id k (reply.Released g) is known
kept_again d history id k (reply.Refused g) is known = by_kept d id k (reply.Refused g) is known
kept_again d history id k (reply.Welcome g) is known = by_kept d id k (reply.Welcome g) is known
kept_again d history id k (reply.Again g) is known = by_kept d id k (reply.Again g) is known
kept_again d history id k (reply.Error g) is known = by_kept d id k (reply.Error g) is known

pub request_again : (d new : Picture) → HasHistory d.book → (id : RequestId) (op : Op) (k : Kept) (r : Reply) → IsKeptOf d.book id k → RequestStep id op d new r → (r ≡ reply_to (arena_named d.tree) id k.reply) × (new ≡ d)
request_again d new history id op k r is step = elim step [
  | inl known ↦ (kept_again d history id k r is known.0, known.1)
  | inr fresh ↦ absurd (not_new d.book id k is fresh.0)
]

-- a reply that is kept is of a number of which it is kept
pub known_kept : (d : Picture) (id : RequestId) (r : Reply) → IsKept r → IsKnownReply (arena_named d.tree) d.book id r → (k : Kept) × IsKeptOf d.book id k × (r ≡ reply_to (arena_named d.tree) id k.reply)
known_kept d id r is known = by r is known
  where
    at : (x : Reply) → IsKeptReply (arena_named d.tree) d.book id x → (k : Kept) × IsKeptOf d.book id k × (x ≡ reply_to (arena_named d.tree) id k.reply)
    at x known = (record { number = id.number; reply = known.0.reply; terms = known.0.terms }, record { current = known.1.current; there = known.1.kept }, known.2)

    by : (x : Reply) → IsKept x → IsKnownReply (arena_named d.tree) d.book id x → (k : Kept) × IsKeptOf d.book id k × (x ≡ reply_to (arena_named d.tree) id k.reply)
    by (reply.Granted g) is known = at (reply.Granted g) known
    by (reply.Released g) is known = at (reply.Released g) known
    by (reply.Refused g) is known = at (reply.Refused g) known
    by (reply.Old o) is known = absurd is
    by (reply.Stale o) is known = absurd is
    by (reply.Gap o) is known = absurd is
    by (reply.Welcome o) is known = absurd is
    by (reply.Again o) is known = absurd is
    by (reply.Error o) is known = absurd is

module _ (old mid : Picture) (id : RequestId) (history : HasHistory old.book) where
  abbrev WasAnswered : Reply → Type 0
  WasAnswered r = (k : Kept) × IsKeptOf mid.book id k × (r ≡ reply_to (arena_named old.tree) id k.reply)

  -- and the client's other kept replies, its low number and its protocol become what they do by that
  abbrev pub Becomes : Reply → Type 0
  Becomes r = (k : Kept) × IsKeptOf mid.book id k × (r ≡ reply_to (arena_named old.tree) id k.reply)
      × (standing_of (account_in id.client mid.book) ≡ settled_with k (standing_of (account_in id.client old.book)))

  becomes_by : (s : Settlement) → Enters (Settled id s) old.book mid.book
      → standing_of (account_in id.client mid.book) ≡ settled_with (kept_settlement id.number s) (standing_of (account_in id.client old.book))
  becomes_by s entry = ap standing_of (entered_changes.settled old.book mid.book id s history entry)

  new_lease_kept : (l : _) (r : Reply) → IsKept r → NewRequest id (ops.Lease l) old mid r → Becomes r
  new_lease_kept l (reply.Granted g) is does =
      let s : Settlement = Grant does.segment (record { quantum = does.arena.quantum; request = demand_of l }) in
      (kept_settlement id.number s, settled_now old.book mid.book id s history does.granted.new does.granted.entry, does.reply, becomes_by s does.granted.entry)
  new_lease_kept l (reply.Refused x) is does = (
    kept_settlement id.number (Refuse does.0),
    settled_now old.book mid.book id (Refuse does.0) history does.1.refused.new does.1.refused.entry,
    does.1.reply,
    becomes_by (Refuse does.0) does.1.refused.entry,
  )
  new_lease_kept l (reply.Again x) is does = absurd is
  new_lease_kept l (reply.Released x) is does = absurd does
  new_lease_kept l (reply.Old x) is does = absurd is
  new_lease_kept l (reply.Stale x) is does = absurd is
  new_lease_kept l (reply.Gap x) is does = absurd is
  new_lease_kept l (reply.Welcome x) is does = absurd is
  new_lease_kept l (reply.Error x) is does = absurd is

  new_release_kept : (l : _) (r : Reply) → IsKept r → NewRequest id (ops.Release l) old mid r → Becomes r
  new_release_kept l (reply.Released p) is does =
      let s : Settlement = Return does.1.index l.base in
      (kept_settlement id.number s, settled_now old.book mid.book id s history does.1.released.new does.1.released.entry, ap (λ (x : RequestId). reply.Released x) does.0, becomes_by s does.1.released.entry)
  new_release_kept l (reply.Refused x) is does = (
    kept_settlement id.number (Refuse does.0),
    settled_now old.book mid.book id (Refuse does.0) history does.1.refused.new does.1.refused.entry,
    does.1.reply,
    becomes_by (Refuse does.0) does.1.refused.entry,
  )
  new_release_kept l (reply.Granted x) is does = absurd does
  new_release_kept l (reply.Again x) is does = absurd is
  new_release_kept l (reply.Old x) is does = absurd is
  new_release_kept l (reply.Stale x) is does = absurd is
  new_release_kept l (reply.Gap x) is does = absurd is
  new_release_kept l (reply.Welcome x) is does = absurd is
  new_release_kept l (reply.Error x) is does = absurd is

  pub new_kept : (op : Op) (r : Reply) → IsKept r → NewRequest id op old mid r → Becomes r
  new_kept (ops.Lease l) r is does = new_lease_kept l r is does
  new_kept (ops.Release l) r is does = new_release_kept l r is does

  pub request_kept : (op : Op) (r : Reply) → RequestStep id op old mid r → IsKept r → WasAnswered r
  request_kept op r step is = elim step [
    | inl known ↦
        let was = known_kept old id r is known.0 in
        (was.0, subst (λ (d : Picture). IsKeptOf d.book id was.0) (sym known.1) was.1, was.2)
    | inr fresh ↦
        let was = new_kept op r is fresh.1 in
        (was.0, was.1, was.2)
  ]

-- What other clients and operators ask leaves a client's account as it was.

-- an entry about another client
pub kept_by : (c : ℕ) (e : Entry) (old new : BookState) → HasHistory old → Enters e old new → c ≢ subject_of e → (account_in c new ≡ account_in c old) × HasHistory new
kept_by c e old new history entry other = (entered_changes.others old new e c history entry other, (e ∷ history.0, entry.history history.0 history.1))

sweeps_keep : (c d : ℕ) → c ≢ d → (ts : List Tag) (old new : Picture) → HasHistory old.book → Sweeps d ts old new → account_in c new.book ≡ account_in c old.book
sweeps_keep c d other [] old new history same = ap (λ (x : Picture). account_in c x.book) same
sweeps_keep c d other (t ∷ ts) old new history swept =
    let id : RequestId = swept.0 in
    let far : c ≢ id.client = (λ e. other (e ∙ swept.2.client)) in
    let first = kept_by c (Swept id.client id.incarnation t.arena t.holding.range.base) old.book swept.1.book history swept.2.ended.entry far in
    sweeps_keep c d other ts swept.1 new first.1 swept.4 ∙ first.0

module _ (c : ℕ) where
  abbrev SameAccount : Picture → Picture → Type 0
  SameAccount old new = account_in c new.book ≡ account_in c old.book

  same_picture : (old new : Picture) → new ≡ old → SameAccount old new
  same_picture old new same = ap (λ (x : Picture). account_in c x.book) same

  hello_keeps : (h : HelloLine) → h.client ≢ c → (old new : Picture) → HasHistory old.book → (r : Reply) → HelloStep h old new r → SameAccount old new
  hello_keeps h other old new history (reply.Welcome w) does =
      let welcomes = does.1 in
      let far : c ≢ h.client = (λ e. other (sym e)) in
      let first = kept_by c (Hello h.client h.incarnation h.protocol) old.book welcomes.greeted history welcomes.hello far in
      sweeps_keep c h.client far welcomes.swept (record old { book = welcomes.greeted }) new first.1 welcomes.sweeps ∙ first.0
  hello_keeps h other old new history (reply.Old o) does = same_picture old new does.2
  hello_keeps h other old new history (reply.Again a) does = same_picture old new does.2
  hello_keeps h other old new history (reply.Granted x) does = absurd does
  hello_keeps h other old new history (reply.Released x) does = absurd does
  hello_keeps h other old new history (reply.Refused x) does = absurd does
  hello_keeps h other old new history (reply.Stale x) does = absurd does
  hello_keeps h other old new history (reply.Gap x) does = absurd does
  hello_keeps h other old new history (reply.Error x) does = absurd does

  module _ (id : RequestId) (other : id.client ≢ c) (old new : Picture) (history : HasHistory old.book) where
    settled_keeps : (s : Settlement) → Enters (Settled id s) old.book new.book → SameAccount old new
    settled_keeps s entry = (kept_by c (Settled id s) old.book new.book history entry (λ e. other (sym e))).0

    lease_keeps : (l : _) (r : Reply) → NewRequest id (ops.Lease l) old new r → SameAccount old new
    lease_keeps l (reply.Granted g) does = settled_keeps (Grant does.segment (record { quantum = does.arena.quantum; request = demand_of l })) does.granted.entry
    lease_keeps l (reply.Refused x) does = settled_keeps (Refuse does.0) does.1.refused.entry
    lease_keeps l (reply.Again x) does = ap (account_in c) does.1.book
    lease_keeps l (reply.Released x) does = absurd does
    lease_keeps l (reply.Old x) does = absurd does
    lease_keeps l (reply.Stale x) does = absurd does
    lease_keeps l (reply.Gap x) does = absurd does
    lease_keeps l (reply.Welcome x) does = absurd does
    lease_keeps l (reply.Error x) does = absurd does

    release_keeps : (l : _) (r : Reply) → NewRequest id (ops.Release l) old new r → SameAccount old new
    release_keeps l (reply.Released p) does = settled_keeps (Return does.1.index l.base) does.1.released.entry
    release_keeps l (reply.Refused x) does = settled_keeps (Refuse does.0) does.1.refused.entry
    release_keeps l (reply.Granted x) does = absurd does
    release_keeps l (reply.Again x) does = absurd does
    release_keeps l (reply.Old x) does = absurd does
    release_keeps l (reply.Stale x) does = absurd does
    release_keeps l (reply.Gap x) does = absurd does
    release_keeps l (reply.Welcome x) does = absurd does
    release_keeps l (reply.Error x) does = absurd does

    new_keeps : (op : Op) (r : Reply) → NewRequest id op old new r → SameAccount old new
    new_keeps (ops.Lease l) r does = lease_keeps l r does
    new_keeps (ops.Release l) r does = release_keeps l r does

    request_keeps : (op : Op) (r : Reply) → RequestStep id op old new r → SameAccount old new
    request_keeps op r does = elim does [
      | inl known ↦ same_picture old new known.1
      | inr fresh ↦ new_keeps op r fresh.1
    ]

  client_keeps : (line : Line) → client_of line ≢ c → (old new : Picture) → HasHistory old.book → (r : Reply) → ClientStep line old new r → SameAccount old new
  client_keeps (lines.Hello h) other old new history r does = hello_keeps h other old new history r does
  client_keeps (lines.Request id op) other old new history r does = request_keeps id other old new history op r does

-- an operator's line changes nothing of the book
does_keep : (o : OperatorLine) (old new : Picture) (text : List ℕ) → Performs o old text new → new.book ≡ old.book
does_keep (operator.Cpu n) old new text does = ap (λ (d : Picture). d.book) does.1
does_keep (operator.Offline n) old new text does = ap (λ (d : Picture). d.book) does.1.rest
does_keep operator.Tick old new text does = ap (λ (d : Picture). d.book) does.1
does_keep (operator.Resize m) old new text does = elim does [
  | inl none ↦ ap (λ (d : Picture). d.book) none.2
  | inr (inl size) ↦ ap (λ (d : Picture). d.book) size.6
  | inr (inr rose) ↦ ap (λ (d : Picture). d.book) rose.6
]
does_keep (operator.Grow g) old new text does = elim does.2 [
  | inl none ↦ ap (λ (d : Picture). d.book) none.3
  | inr some ↦ ap (λ (d : Picture). d.book) some.2.3
]
does_keep operator.Reap old new text does = ap (λ (d : Picture). d.book) does.2.parts
does_keep operator.Audit old new text does = ap (λ (d : Picture). d.book) does.1
does_keep operator.Clients old new text does = ap (λ (d : Picture). d.book) does.1

leaves_keep : (o : OperatorLine) (old new : Picture) → LeavesOff o old new → new.book ≡ old.book
leaves_keep (operator.Cpu n) old new left = ap (λ (d : Picture). d.book) left.1
leaves_keep (operator.Offline n) old new left = ap (λ (d : Picture). d.book) left.1
leaves_keep operator.Tick old new left = absurd left
leaves_keep (operator.Resize m) old new left = absurd left
leaves_keep (operator.Grow g) old new left = absurd left
leaves_keep operator.Reap old new left = ap (λ (d : Picture). d.book) left.1.parts
leaves_keep operator.Audit old new left = ap (λ (d : Picture). d.book) left
leaves_keep operator.Clients old new left = ap (λ (d : Picture). d.book) left

pub operator_keeps : (o : OperatorLine) (old new : Picture) (text : List ℕ) → OperatorStep o old text new → new.book ≡ old.book
operator_keeps o old new text step = elim step [
  | inl does ↦ does_keep o old new text does
  | inr left ↦ leaves_keep o old new left.1
]

pub answer_keeps : (c : ℕ) (x : Result ServedLine LineFault) → ((l : Line) → x ≡ Ok (served.Client l) → client_of l ≢ c) → (old new : Picture) (text : List ℕ) → HasHistory old.book
    → AnswersLine old x text new → account_in c new.book ≡ account_in c old.book
answer_keeps c (Ok (served.Client l)) others old new text history does = client_keeps c l (others l refl) old new history does.0 does.2
answer_keeps c (Ok (served.Operator o)) others old new text history does = ap (account_in c) (operator_keeps o old new text does)
answer_keeps c (Err fault) others old new text history does = ap (λ (x : Picture). account_in c x.book) does.1

pub run_keeps : (c : ℕ) (frames : List Frame) (old new : Picture) (text : List ℕ) → IsPicture old → AreOfOthers c frames → Runs old frames text new → account_in c new.book ≡ account_in c old.book
run_keeps c [] old new text is others run = ap (λ (x : Picture). account_in c x.book) run.1
run_keeps c (Ok line ∷ frames) old new text is others run =
    run_keeps c frames run.2 new run.1 (run.3).picture others.1 run.5 ∙ answer_keeps c (served_of line) others.0 old run.2 run.0 (history_of old is) (run.3).answer
run_keeps c (Err fault ∷ frames) old new text is others run = run_keeps c frames old new run.0 is others.1 run.2

still_kept : (id : RequestId) (k : Kept) (old new : BookState) → account_in id.client new ≡ account_in id.client old → IsKeptOf old id k → IsKeptOf new id k
still_kept id k old new same is = record {
  current = is.current ∙ sym (ap (λ (a : Account). a.incarnation) same);
  there = ap (λ (a : Account). kept_at id.number a.kept) same ∙ is.there;
}

pub kept_or : (r : Reply) → IsKept r ⊎ (¬ IsKept r)
kept_or (reply.Granted x) = inl tt
kept_or (reply.Released x) = inl tt
kept_or (reply.Refused x) = inl tt
kept_or (reply.Welcome x) = inr (λ is. is)
kept_or (reply.Old x) = inr (λ is. is)
kept_or (reply.Stale x) = inr (λ is. is)
kept_or (reply.Gap x) = inr (λ is. is)
kept_or (reply.Again x) = inr (λ is. is)
kept_or (reply.Error x) = inr (λ is. is)

-- what bytes that are a request are answered
pub request_answer : (old new : Picture) (id : RequestId) (op : Op) (line text : List ℕ) → IsRequestLine line id op → LeaseStep old line text new → (r : Reply) × (text ≡ reply_bytes r) × RequestStep id op old new r
request_answer old new id op line text read step = subst (λ (x : Result ServedLine LineFault). AnswersLine old x text new) read step.answer

pub lines_repeat : LinesRepeat
lines_repeat old mid late new id op again line text between repeat bytes frames is read first others run read_again second =
    let a = request_answer old mid id op line text read first in
    let b = request_answer late new id again repeat bytes read_again second in
    elim (kept_or a.0) [
      | inr not ↦ inr (a.0, a.1, not)
      | inl is_kept ↦
          let was = request_kept old mid id (history_of old is) op a.0 a.2 is_kept in
          let still = still_kept id was.0 mid.book late.book (run_keeps id.client frames mid late between first.picture others run) was.1 in
          let late_is = pictures_stay mid late frames between first.picture run in
          let two = request_again late new (history_of late late_is) id again was.0 b.0 still b.2 in
          let tree : late.tree ≡ old.tree = (setup_only_grows mid late frames between run).tree ∙ first.setup.tree in
          let same : b.0 ≡ a.0 = two.0 ∙ ap (λ (xs : List TreeArena). reply_to (arena_named xs) id was.0.reply) tree ∙ sym was.2 in
          inl (b.1 ∙ ap reply_bytes same ∙ sym a.1, two.1)
    ]
