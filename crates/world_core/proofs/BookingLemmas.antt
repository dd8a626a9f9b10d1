-- What CPUs do with the book keeps a world.
use Rattle.std.proofs.Common.{◌≡◌, ℕ, List, [], ◌∷◌, ◌++◌, length, set, Option, Some, None, refl, sym, subst, ap, arith}
use Rattle.std.proofs.lemmas.List.{length-set}
use Rattle.std.proofs.lemmas.List.Sums.{sum_by-cons}
use Rattle.deed_core.specs.Tag.{Tag}
use Rattle.stock_audit.specs.Outside.{outside}
use Rattle.stock_audit.specs.Accounted.{IsAccountedFor}
use Rattle.lease_terms.specs.Requests.{RequestId}
use Rattle.lease_terms.specs.declared.refusals.Refusal.{Refusal}
use Rattle.lease_proto.specs.declared.lines.Line.TheVariants as lines
use Rattle.lease_proto.specs.declared.lines.Op.{Op}
use Rattle.lease_proto.specs.declared.lines.Op.TheVariants as ops
use Rattle.lease_proto.specs.declared.replies.Reply.{Reply}
use Rattle.lease_proto.specs.declared.replies.Reply.TheVariants as replies
use Rattle.lease_book.specs.declared.receipts.KeptReply.{KeptReply}
use Rattle.lease_book.specs.declared.receipts.KeptReply.TheVariants as kept_replies
use Rattle.lease_book.specs.Receipts.{Kept, ReceiptState}
use Rattle.lease_book.specs.Entry.{Entry, Settlement, Settled, Hello, Swept, Grant, Return, Refuse, kept_settlement, kept_reply_of}
use Rattle.lease_book.specs.Account.{Account}
use Rattle.lease_book.specs.History.{incarnation, reach_in, outcome_of, leases_of}
use Rattle.lease_book.specs.BookState.{BookState, IsHistory, Enters, account_in, leased_segments}
use Rattle.lease_book.specs.Answers.{IsRepeated}
use Rattle.lease_book.proofs.LawProofs.{account_is, kept_outcomes, outcomes_stay}
use Rattle.lease_history.specs.Known.{IsFor, IsApart}
use Rattle.lease_history.specs.Told.{reply_to, MayTell, reply_of_settled, IsKnownReply}
use Rattle.lease_history.proofs.LawProofs.{told_stays_told, welcomes_may_be_told, hellos_keep_known, sweeps_keep_known, settlements_keep_known}
use Rattle.world_core.specs.WorldState.{WorldState, arena_name, in_hands}
use Rattle.world_core.specs.Moves.{HelloTaken, HelloRefused, AnsweredAtOnce, TaskTaken, HasTask, TaskGranted, TaskRefused, TaskReleased, TaskEnded, TaskAnswered, TaskGivenUp, LeaseSwept}
use Rattle.world_core.specs.IsWorld.{IsWorld, IsDue, IsOfLines, AreSoManyCpus}
use Rattle.world_core.proofs.CpuLemmas.{hand_changed, task_changed}
use Rattle.world_core.proofs.Members.{each_written, each_pushed, each_cons}
use Rattle.world_core.proofs.HandLemmas.{hand_leased}
use Rattle.world_core.proofs.HeldLemmas.{hand_is_apart}

-- Answers by number.

-- a request that was settled may be told so
outcome_told : (names : ℕ → List ℕ) (es : List Entry) (id : RequestId) (r : KeptReply) (k : Kept) → outcome_of id es ≡ Some k → r ≡ k.reply
    → MayTell names es (reply_to names id r)
outcome_told names es id (kept_replies.Granted a b l) k out is = (k, out, ap (reply_to names id) is)
outcome_told names es id (kept_replies.Released a b) k out is = (k, out, ap (reply_to names id) is)
outcome_told names es id (kept_replies.Refused why) k out is = (k, out, ap (reply_to names id) is)

repeat_told : (w : WorldState) (id : RequestId) (reply : Reply) → IsWorld w
    → ((r : ReceiptState) × IsRepeated w.book (account_in id.client w.book) id r × (reply ≡ reply_to (arena_name w.names) id r.reply))
    → MayTell (arena_name w.names) w.entries reply
repeat_told w id reply is answer =
    let r = answer.0 in
    let here : IsRepeated w.book _ id r = subst (λ a. IsRepeated w.book a id r) (account_is w.entries w.book id.client is.book) answer.1 in
    let k : Kept = record { number = id.number; reply = r.reply; terms = r.terms } in
    let own : RequestId = record { client = id.client; incarnation = incarnation id.client w.entries; number = id.number } in
    let out = kept_outcomes.kept w.entries own (reach_in id.client own.incarnation w.entries) k here.kept in
    let mine : outcome_of id w.entries ≡ Some k = subst (λ (i : ℕ). outcome_of (record { client = id.client; incarnation = i; number = id.number }) w.entries ≡ Some k) (sym here.current) out in
    subst (MayTell (arena_name w.names) w.entries) (sym answer.2) (outcome_told (arena_name w.names) w.entries id r.reply k mine refl)

present : (w : WorldState) (c : ℕ) → IsWorld w → (account_in c w.book).incarnation ≡ incarnation c w.entries
present w c is = ap (λ (a : Account). a.incarnation) (account_is w.entries w.book c is.book)

answer_told : (w : WorldState) (id : RequestId) (reply : Reply) → IsWorld w → IsKnownReply (arena_name w.names) w.book id reply → MayTell (arena_name w.names) w.entries reply
answer_told w id (replies.Old o) is a =
    let now = a.1.named in
    let there = present w id.client is in
    let same : incarnation id.client w.entries ≡ incarnation o.client w.entries = ap (λ (c : ℕ). incarnation c w.entries) (sym a.0) in
    omega arith
answer_told w id (replies.Stale o) is a = tt
answer_told w id (replies.Gap o) is a = tt
answer_told w id (replies.Granted g) is a = repeat_told w id (replies.Granted g) is a
answer_told w id (replies.Released of) is a = repeat_told w id (replies.Released of) is a
answer_told w id (replies.Refused r) is a = repeat_told w id (replies.Refused r) is a
answer_told w id (replies.Welcome r) is a = repeat_told w id (replies.Welcome r) is a
answer_told w id (replies.Again r) is a = tt
answer_told w id (replies.Error r) is a = tt

pub hello_refused_keeps : (which : ℕ) (w v : WorldState) → IsWorld w → HelloRefused which w v → IsWorld v
hello_refused_keeps which w v is m = subst IsWorld (sym m.after) (record {
  parts = is.parts;
  named = is.named;
  few = is.few;
  names = is.names;
  book = is.book;
  due = is.due;
  ids = is.ids;
  known = is.known;
  said = is.said;
  cpus = is.cpus;
  tasks = is.tasks;
  own = is.own;
  shaped = is.shaped;
  told = each_pushed (MayTell (arena_name w.names) w.entries) w.replies _ is.told (let there = present w m.hello.client is in omega arith);
})

pub answered_keeps : (which : ℕ) (w v : WorldState) → IsWorld w → AnsweredAtOnce which w v → IsWorld v
answered_keeps which w v is m = subst IsWorld (sym m.after) (record {
  parts = is.parts;
  named = is.named;
  few = is.few;
  names = is.names;
  book = is.book;
  due = is.due;
  ids = is.ids;
  known = is.known;
  said = is.said;
  cpus = is.cpus;
  tasks = is.tasks;
  own = is.own;
  shaped = is.shaped;
  told = each_pushed (MayTell (arena_name w.names) w.entries) w.replies m.reply is.told (answer_told w m.id m.reply is m.answered);
})

ended_keeps : (cpu : ℕ) (May : RequestId → Reply → Type 0) (w v : WorldState) → IsWorld w → ((id : RequestId) (reply : Reply) → May id reply → MayTell (arena_name w.names) w.entries reply)
    → TaskEnded cpu May w v → IsWorld v
ended_keeps cpu May w v is tells m = subst IsWorld (sym m.after) (record {
  parts = is.parts;
  named = is.named;
  few = is.few;
  names = is.names;
  book = is.book;
  due = is.due;
  ids = is.ids;
  known = is.known;
  said = is.said;
  cpus = task_changed w.hands w.tasks w.failed w.owners is.cpus cpu None;
  tasks = each_written (IsOfLines w.requests) w.tasks cpu None is.tasks tt;
  own = is.own;
  shaped = is.shaped;
  told = each_pushed (MayTell (arena_name w.names) w.entries) w.replies m.reply is.told (tells m.id m.reply m.may);
})

pub answer_keeps : (cpu : ℕ) (w v : WorldState) → IsWorld w → TaskAnswered cpu w v → IsWorld v
answer_keeps cpu w v is m = ended_keeps cpu _ w v is (λ id reply may. answer_told w id reply is may) m

pub given_up_keeps : (cpu : ℕ) (w v : WorldState) → IsWorld w → TaskGivenUp cpu w v → IsWorld v
given_up_keeps cpu w v is m = ended_keeps cpu _ w v is (λ id reply may. subst (MayTell (arena_name w.names) w.entries) (sym may) tt) m

pub taken_keeps : (cpu which : ℕ) (w v : WorldState) → IsWorld w → TaskTaken cpu which w v → IsWorld v
taken_keeps cpu which w v is m = subst IsWorld (sym m.after) (record {
  parts = is.parts;
  named = is.named;
  few = is.few;
  names = is.names;
  book = is.book;
  due = is.due;
  ids = is.ids;
  known = is.known;
  said = is.said;
  cpus = task_changed w.hands w.tasks w.failed w.owners is.cpus cpu (Some (record { id = m.id; op = m.op }));
  tasks = each_written (IsOfLines w.requests) w.tasks cpu (Some (record { id = m.id; op = m.op })) is.tasks (which, m.sent);
  own = is.own;
  shaped = is.shaped;
  told = is.told;
})

-- Entries.

pub hello_taken_keeps : (which : ℕ) (w v : WorldState) → IsWorld w → HelloTaken which w v → IsWorld v
hello_taken_keeps which w v is m =
    let names = arena_name w.names in
    let entry : Entry = Hello m.hello.client m.hello.incarnation m.hello.protocol in
    let now : IsHistory (entry ∷ w.entries) m.book = m.enters.history w.entries is.book in
    let told = subst (λ (a : Account). MayTell names (entry ∷ w.entries) (replies.Welcome (record { client = m.hello.client; incarnation = m.hello.incarnation; protocol = a.protocol })))
    (sym (account_is (entry ∷ w.entries) m.book m.hello.client now)) (welcomes_may_be_told names w.entries m.hello.client m.hello.incarnation m.hello.protocol) in
    subst IsWorld (sym m.after) (record {
      parts = subst (λ (leases : List Tag). IsAccountedFor w.stock (outside (in_hands w.hands) leases w.caches)) (sym m.leases) is.parts;
      named = is.named;
      few = is.few;
      names = is.names;
      book = now;
      due = each_cons (IsDue w.stock w.names w.requests) entry w.entries tt is.due;
      ids = is.ids;
      known = λ k c at. hellos_keep_known names w.entries c m.hello.client m.hello.incarnation m.hello.protocol (is.known k c at) (is.said k c at which (lines.Hello m.hello) m.sent);
      said = is.said;
      cpus = is.cpus;
      tasks = is.tasks;
      own = is.own;
      shaped = is.shaped;
      told = each_pushed (MayTell names (entry ∷ w.entries)) w.replies _ (λ k r at. told_stays_told names entry w.entries r now.orderly (is.told k r at)) told;
    })

pub swept_keeps : (cpu c : ℕ) (w v : WorldState) → IsWorld w → LeaseSwept cpu c w v → IsWorld v
swept_keeps cpu c w v is m =
    let names = arena_name w.names in
    let entry : Entry = Swept m.id.client m.id.incarnation m.segment.arena m.segment.holding.range.base in
    let now : IsHistory (entry ∷ w.entries) m.book = m.swept.ended.entry.history w.entries is.book in
    let there = present w c is in
    let mine : incarnation m.id.client w.entries ≡ incarnation c w.entries = ap (λ (d : ℕ). incarnation d w.entries) m.swept.client in
    let older = m.swept.older in
    subst IsWorld (sym m.after) (record {
      parts = hand_leased w.stock w.hands (leased_segments w.book) w.caches cpu None (Some m.segment) m.empty (leased_segments m.book)
          (λ f. (let l = m.swept.ended.leases f in let e = sum_by-cons f m.segment [] in omega arith)) is.parts;
      named = is.named;
      few = is.few;
      names = is.names;
      book = now;
      due = each_cons (IsDue w.stock w.names w.requests) entry w.entries tt is.due;
      ids = is.ids;
      known = λ k x at. sweeps_keep_known names w.entries x m.id.client m.id.incarnation m.segment.arena m.segment.holding.range.base (is.known k x at) (omega arith);
      said = is.said;
      cpus = hand_changed w.hands w.tasks w.failed w.owners is.cpus cpu (Some m.segment);
      tasks = is.tasks;
      own = is.own;
      shaped = is.shaped;
      told = λ k r at. told_stays_told names entry w.entries r now.orderly (is.told k r at);
    })

settled_told : (names : ℕ → List ℕ) (es : List Entry) (id : RequestId) (s : Settlement) → MayTell names (Settled id s ∷ es) (reply_to names id (kept_reply_of s))
settled_told names es id s = outcome_told names (Settled id s ∷ es) id (kept_reply_of s) (kept_settlement id.number s) (outcomes_stay.own es id s) refl

-- a request is settled
settles : (w : WorldState) (cpu : ℕ) (hands : List (Option Tag)) (book : BookState) (id : RequestId) (op : Op) (s : Settlement) → IsWorld w
    → HasTask w cpu id op → Enters (Settled id s) w.book book → IsFor (arena_name w.names) op s → IsApart (arena_name w.names) id (leases_of id.client w.entries) s → IsDue w.stock w.names w.requests (Settled id s)
    → length hands ≡ length w.hands → IsAccountedFor w.stock (outside (in_hands hands) (leased_segments book) w.caches)
    → IsWorld (record w { hands = hands; tasks = set w.tasks cpu None; book = book; entries = Settled id s ∷ w.entries; replies = w.replies ++ reply_of_settled (arena_name w.names) id s ∷ [] })
settles w cpu hands book id op s is task enters for apart due even accounts =
    let names = arena_name w.names in
    let now : IsHistory (Settled id s ∷ w.entries) book = enters.history w.entries is.book in
    let line = is.tasks cpu (Some (record { id = id; op = op })) task in
    record {
      parts = accounts;
      named = is.named;
      few = is.few;
      names = is.names;
      book = now;
      due = each_cons (IsDue w.stock w.names w.requests) (Settled id s) w.entries due is.due;
      ids = is.ids;
      known = λ k c at. settlements_keep_known names w.entries c id op s (is.known k c at) now.orderly for (is.said k c at line.0 (lines.Request id op) line.1) (λ own. apart);
      said = is.said;
      cpus = subst (λ (count : ℕ). AreSoManyCpus count (set w.tasks cpu None) w.failed w.owners) (sym even) (task_changed w.hands w.tasks w.failed w.owners is.cpus cpu None);
      tasks = each_written (IsOfLines w.requests) w.tasks cpu None is.tasks tt;
      own = is.own;
      shaped = is.shaped;
      told = each_pushed (MayTell names (Settled id s ∷ w.entries)) w.replies _ (λ k r at. told_stays_told names (Settled id s) w.entries r now.orderly (is.told k r at)) (settled_told names w.entries id s);
    }

pub granted_keeps : (cpu : ℕ) (w v : WorldState) → IsWorld w → TaskGranted cpu w v → IsWorld v
granted_keeps cpu w v is m = subst IsWorld (sym m.after)
    (settles w cpu (set w.hands cpu None) m.book m.id (ops.Lease m.lease) (Grant m.segment m.terms) is m.serves m.granted.entry m.home.is
    (hand_is_apart w cpu m.id m.segment is m.holds m.home.within (m.granted.entry.history w.entries is.book).orderly.0.1.0.some)
    (record {
      lease = m.lease;
      line = is.tasks cpu (Some (record { id = m.id; op = ops.Lease m.lease })) m.serves;
      within = m.home.within;
      home = m.home.is;
      quantum = m.quantum;
      request = m.request;
    })
    (length-set w.hands cpu None)
    (hand_leased w.stock w.hands (leased_segments w.book) w.caches cpu (Some m.segment) None m.holds (leased_segments m.book)
    (λ f. (let l = m.granted.leases f in let e = sum_by-cons f m.segment [] in omega arith)) is.parts))

refuse_for : (names : ℕ → List ℕ) (op : Op) (why : Refusal) → IsFor names op (Refuse why)
refuse_for names (ops.Lease l) why = tt
refuse_for names (ops.Release r) why = tt

pub refused_keeps : (cpu : ℕ) (why : Refusal) (w v : WorldState) → IsWorld w → TaskRefused cpu why w v → IsWorld v
refused_keeps cpu why w v is m = subst IsWorld (sym m.after)
    (settles w cpu w.hands m.book m.id m.op (Refuse why) is m.serves m.refused.entry (refuse_for (arena_name w.names) m.op why) tt tt refl
    (subst (λ (leases : List Tag). IsAccountedFor w.stock (outside (in_hands w.hands) leases w.caches)) (sym m.refused.leases) is.parts))

pub released_keeps : (cpu : ℕ) (w v : WorldState) → IsWorld w → TaskReleased cpu w v → IsWorld v
released_keeps cpu w v is m = subst IsWorld (sym m.after)
    (settles w cpu (set w.hands cpu (Some m.segment)) m.book m.id (ops.Release m.release) (Return m.arena m.release.base) is m.serves m.released.entry (m.home.is, refl) tt tt (length-set w.hands cpu (Some m.segment))
    (hand_leased w.stock w.hands (leased_segments w.book) w.caches cpu None (Some m.segment) m.empty (leased_segments m.book)
    (λ f. (let l = m.released.leases f in let e = sum_by-cons f m.segment [] in omega arith)) is.parts))
