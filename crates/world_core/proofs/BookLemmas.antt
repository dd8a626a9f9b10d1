-- What calls of the book make of a world.
use Rattle.std.proofs.Common.{◌≡◌, ℕ, zero, suc, ◌<◌, ◌≤◌, List, [], ◌∷◌, ◌++◌, length, set, Option, Some, None, sym, subst, ap, ◌∙◌, arith}
use Rattle.std.specs.Prelude.{slice_get}
use Rattle.std.specs.List.{find}
use Rattle.deed_core.specs.Tag.{Tag}
use Rattle.deed_core.specs.Request.{Fits}
use Rattle.deed_core.specs.declared.requests.Request.{Request}
use Rattle.deed_core.proofs.LawProofs.{slice_get_some}
use Rattle.stock.specs.Steps.{HasQuantum}
use Rattle.lease_terms.specs.Requests.{RequestId}
use Rattle.lease_terms.specs.declared.refusals.Refusal.{Refusal}
use Rattle.lease_proto.specs.declared.lines.LeaseLine.{LeaseLine}
use Rattle.lease_proto.specs.declared.lines.ReleaseLine.{ReleaseLine}
use Rattle.lease_proto.specs.declared.lines.Op.{Op}
use Rattle.lease_proto.specs.declared.lines.Op.TheVariants as ops
use Rattle.lease_proto.specs.declared.replies.Reply.{Reply}
use Rattle.lease_proto.specs.declared.replies.Reply.TheVariants as replies
use Rattle.lease_proto.specs.Requests.{demand_of}
use Rattle.lease_book.specs.declared.receipts.KeptReply.{KeptReply}
use Rattle.lease_book.specs.declared.receipts.Terms.{Terms}
use Rattle.lease_book.specs.Receipts.{Kept, ReceiptState}
use Rattle.lease_book.specs.Entry.{Entry, Settlement, Settled, Grant, Return, Refuse, kept_reply_of}
use Rattle.lease_book.specs.History.{incarnation, reach_in}
use Rattle.lease_book.specs.BookState.{BookState, account_in}
use Rattle.lease_book.specs.Answers.{IsRepeated, IsNew}
use Rattle.lease_book.specs.Calls.{IsGranted, IsRefused, IsReleased}
use Rattle.lease_book.specs.Account.{Account, is_lease}
use Rattle.lease_book.proofs.LawProofs.{account_is, kept_outcomes, outcomes_stay}
use Rattle.lease_book.specs.declared.books.TheConstants.{MOST_LEASES}
use Rattle.lease_history.specs.Told.{reply_to, reply_of_settled, IsTellable, IsKnownReply}
use Rattle.world_core.specs.declared.tasks.Task.{Task}
use Rattle.world_core.specs.WorldState.{WorldState, arena_name}
use Rattle.world_core.specs.IsWorld.{IsWorld}
use Rattle.world_core.specs.Moves.{HasTask, HasAllLeases, HasNoSuchLease, TaskGranted, TaskRefused, TaskReleased}
use Rattle.world_core.specs.Events.{CanGrant, CanRelease, IsEnabled}
use Rattle.world_core.specs.declared.events.WorldEvent.TheVariants as events

-- what is settled names an arena of the world
settled_tellable : (w : WorldState) (id : RequestId) (s : Settlement) (j : ℕ) → IsWorld w → slice_get w.entries j ≡ Some (Settled id s) → IsTellable (length w.names) (kept_reply_of s)
settled_tellable w id (Grant t terms) j is at = (is.due j (Settled id (Grant t terms)) at).within
settled_tellable w id (Return a b) j is at = tt
settled_tellable w id (Refuse why) j is at = tt

-- what is answered by its number isn't new
not_both : (book : BookState) (a : Account) (id : RequestId) (r : ReceiptState) → IsRepeated book a id r → IsNew a id → ⊥
not_both book a id r again fresh = (let k : Kept = record { number = id.number; reply = r.reply; terms = r.terms } in let e : None ≡ Some k = sym fresh.unsettled ∙ again.kept in cc)

pub answered_is_old : (w : WorldState) (id : RequestId) (reply : Reply) → IsKnownReply (arena_name w.names) w.book id reply → ¬ IsNew (account_in id.client w.book) id
answered_is_old w id (replies.Old o) told fresh = told.1.other fresh.current
answered_is_old w id (replies.Stale o) told fresh = omega (arith, told.1.last, told.1.below, fresh.above)
answered_is_old w id (replies.Gap o) told fresh = omega (arith, told.1.reached, told.1.above, fresh.within)
answered_is_old w id reply told fresh = not_both w.book (account_in id.client w.book) id told.0 told.1 fresh

pub repeat_tellable : (w : WorldState) (id : RequestId) (r : ReceiptState) → IsWorld w → IsRepeated w.book (account_in id.client w.book) id r → IsTellable (length w.names) r.reply
repeat_tellable w id r is again =
    let here : IsRepeated w.book _ id r = subst (λ a. IsRepeated w.book a id r) (account_is w.entries w.book id.client is.book) again in
    let k : Kept = record { number = id.number; reply = r.reply; terms = r.terms } in
    let own : RequestId = record { client = id.client; incarnation = incarnation id.client w.entries; number = id.number } in
    let out = kept_outcomes.kept w.entries own (reach_in id.client own.incarnation w.entries) k here.kept in
    let entry = outcomes_stay.entry w.entries own k out in
    subst (IsTellable (length w.names)) (sym (ap (λ (x : Kept). x.reply) entry.3)) (settled_tellable w _ entry.0 entry.1 is entry.2)

-- the segment of a hand is leased
pub grants : (w : WorldState) (cpu : ℕ) (id : RequestId) (lease : LeaseLine) (t u : Tag) (quantum : ℕ) (request : Request) (book : BookState) (receipt : ReceiptState) (told : KeptReply) (reply : Reply)
    (hands : List (Option Tag)) (tasks : List (Option Task)) (entries : List Entry) (replies : List Reply) → CanGrant w cpu id lease t quantum → u ≡ t → request ≡ demand_of lease
    → IsGranted w.book book id u (record { quantum = quantum; request = request }) receipt → told ≡ receipt.reply → reply ≡ reply_to (arena_name w.names) id told
    → hands ≡ set w.hands cpu None → tasks ≡ set w.tasks cpu None
    → entries ≡ Settled id (Grant t (record { quantum = quantum; request = request })) ∷ w.entries → replies ≡ w.replies ++ reply ∷ []
    → TaskGranted cpu w (record w { hands = hands; tasks = tasks; book = book; entries = entries; replies = replies })
grants w cpu id lease t u quantum request book receipt told reply hands tasks entries replies can same asks granted is_kept is_told emptied ended more sent =
    let here : CanGrant w cpu id lease u quantum = subst (λ (x : Tag). CanGrant w cpu id lease x quantum) (sym same) can in
    let terms : Terms = record { quantum = quantum; request = request } in
    let logged : entries ≡ Settled id (Grant u terms) ∷ w.entries = more ∙ ap (λ (x : Tag). Settled id (Grant x terms) ∷ w.entries) (sym same) in
    let answers : replies ≡ w.replies ++ reply_of_settled (arena_name w.names) id (Grant u terms) ∷ [] =
    sent ∙ ap (λ (x : Reply). w.replies ++ x ∷ []) (is_told ∙ ap (reply_to (arena_name w.names) id) (is_kept ∙ ap (λ (r : ReceiptState). r.reply) granted.receipt)) in
    record {
      id = id;
      lease = lease;
      segment = u;
      terms = terms;
      book = book;
      receipt = receipt;
      serves = here.serves;
      holds = here.holds;
      home = here.home;
      quantum = here.grid;
      request = asks;
      granted = granted;
      after = λ j. record w { hands = emptied j; tasks = ended j; book = book; entries = logged j; replies = answers j };
    }

-- a hand that got back what was taken out of it
pub put_back : (hands : List (Option Tag)) (cpu : ℕ) (t u : Tag) (taken put : List (Option Tag)) → slice_get hands cpu ≡ Some (Some t) → taken ≡ set hands cpu None
    → put ≡ set taken cpu (Some u) → u ≡ t → put ≡ hands
put_back hands cpu t u taken put held out back same =
    back ∙ (λ j. set (out j) cpu (Some (same j))) ∙ twice hands cpu held
  where
    twice : (xs : List (Option Tag)) (k : ℕ) → slice_get xs k ≡ Some (Some t) → set (set xs k None) k (Some t) ≡ xs
    twice [] k at = absurd (let e : None ≡ Some (Some t) = at in cc)
    twice (x ∷ xs) zero at = (let e : Some t ≡ x = cc in ap (λ (y : Option Tag). y ∷ xs) e)
    twice (x ∷ xs) (suc k) at = ap (λ (ys : List (Option Tag)). x ∷ ys) (twice xs k at)

pub all_leases : (w : WorldState) (cpu : ℕ) (id : RequestId) (op : Op) → HasTask w cpu id op → MOST_LEASES ≤ length (account_in id.client w.book).leases → HasAllLeases w cpu
all_leases w cpu id op serves full = λ other what also.
    let tasks : Some (Some (record { id = id; op = op })) ≡ Some (Some (record { id = other; op = what })) = sym serves ∙ also in
    let task : ◌≡◌ {A = Task} (record { id = id; op = op }) (record { id = other; op = what }) = cc in
    let same : id ≡ other = ap (λ (x : Task). x.id) task in
    subst (λ (x : RequestId). MOST_LEASES ≤ length (account_in x.client w.book).leases) same full

-- a request is refused
pub refuses : (w : WorldState) (cpu : ℕ) (id : RequestId) (op : Op) (why : Refusal) (book : BookState) (receipt : ReceiptState)
    (hands : List (Option Tag)) (tasks : List (Option Task)) (entries : List Entry) (replies : List Reply) → HasTask w cpu id op → IsRefused w.book book id why receipt
    → hands ≡ w.hands → tasks ≡ set w.tasks cpu None → entries ≡ Settled id (Refuse why) ∷ w.entries → replies ≡ w.replies ++ reply_of_settled (arena_name w.names) id (Refuse why) ∷ []
    → TaskRefused cpu why w (record w { hands = hands; tasks = tasks; book = book; entries = entries; replies = replies })
refuses w cpu id op why book receipt hands tasks entries replies serves refused back ended more told = record {
  id = id;
  op = op;
  book = book;
  receipt = receipt;
  serves = serves;
  refused = refused;
  after = λ j. record w { hands = back j; tasks = ended j; book = book; entries = more j; replies = told j };
}

-- a CPU that serves a lease can't grant a segment that doesn't fit it
pub not_grantable : (w : WorldState) (cpu : ℕ) (id : RequestId) (lease : LeaseLine) (t : Tag) (quantum : ℕ) → IsWorld w → HasTask w cpu id (ops.Lease lease)
    → slice_get w.hands cpu ≡ Some (Some t) → t.arena < length w.names → HasQuantum w.stock t.arena quantum
    → ¬ Fits quantum (demand_of lease) t.holding.range.base t.holding.range.len → ¬ IsEnabled (events.Settles cpu) w
not_grantable w cpu id lease t quantum is serves holds within grid misfits (other, line, u, q, can) =
    let tasks : Some (Some (record { id = other; op = ops.Lease line })) ≡ Some (Some (record { id = id; op = ops.Lease lease })) = sym can.serves ∙ serves in
    let hands : Some (Some u) ≡ Some (Some t) = sym can.holds ∙ holds in
    let task : ◌≡◌ {A = Task} (record { id = other; op = ops.Lease line }) (record { id = id; op = ops.Lease lease }) = cc in
    let op : ops.Lease line ≡ ops.Lease lease = ap (λ (x : Task). x.op) task in
    let lines : line ≡ lease = cc in
    let tags : u ≡ t = cc in
    let space = slice_get_some w.stock t.arena (let e = is.named in omega arith) in
    let there : slice_get w.stock u.arena ≡ Some space.0 = ap (λ (x : Tag). slice_get w.stock x.arena) tags ∙ space.1 in
    let quanta : q ≡ quantum = sym (can.grid space.0 there) ∙ grid space.0 space.1 in
    let a : Fits quantum (demand_of line) u.holding.range.base u.holding.range.len = subst (λ (n : ℕ). Fits n (demand_of line) u.holding.range.base u.holding.range.len) quanta can.fits in
    let b : Fits quantum (demand_of lease) u.holding.range.base u.holding.range.len = subst (λ (l : LeaseLine). Fits quantum (demand_of l) u.holding.range.base u.holding.range.len) lines a in
    misfits (subst (λ (x : Tag). Fits quantum (demand_of lease) x.holding.range.base x.holding.range.len) tags b)

-- a lease comes back into a hand
pub releases : (w : WorldState) (cpu : ℕ) (id : RequestId) (line : ReleaseLine) (arena : ℕ) (t : Tag) (book : BookState) (receipt : ReceiptState)
    (hands : List (Option Tag)) (tasks : List (Option Task)) (entries : List Entry) (replies : List Reply) → CanRelease w cpu id line arena
    → IsReleased w.book book id arena line.base receipt t → hands ≡ set w.hands cpu (Some t) → tasks ≡ set w.tasks cpu None → entries ≡ Settled id (Return arena line.base) ∷ w.entries
    → replies ≡ w.replies ++ reply_of_settled (arena_name w.names) id (Return arena line.base) ∷ []
    → TaskReleased cpu w (record w { hands = hands; tasks = tasks; book = book; entries = entries; replies = replies })
releases w cpu id line arena t book receipt hands tasks entries replies can released held ended more told = record {
  id = id;
  release = line;
  arena = arena;
  segment = t;
  book = book;
  receipt = receipt;
  serves = can.serves;
  empty = can.empty;
  home = can.home;
  released = released;
  after = λ j. record w { hands = held j; tasks = ended j; book = book; entries = more j; replies = told j };
}

pub no_such_lease : (w : WorldState) (cpu : ℕ) (id : RequestId) (line : ReleaseLine) (arena : ℕ) → IsWorld w → CanRelease w cpu id line arena
    → find (is_lease id.incarnation arena line.base) (account_in id.client w.book).leases ≡ None → HasNoSuchLease w cpu
no_such_lease w cpu id line arena is can none = λ other what index also home.
    let tasks : Some (Some (record { id = id; op = ops.Release line })) ≡ Some (Some (record { id = other; op = ops.Release what })) = sym can.serves ∙ also in
    let task : ◌≡◌ {A = Task} (record { id = id; op = ops.Release line }) (record { id = other; op = ops.Release what }) = cc in
    let same : id ≡ other = ap (λ (x : Task). x.id) task in
    let op : ops.Release line ≡ ops.Release what = ap (λ (x : Task). x.op) task in
    let lines : line ≡ what = cc in
    let named : arena_name w.names arena ≡ arena_name w.names index = can.home.is ∙ ap (λ (l : ReleaseLine). l.arena) lines ∙ sym home.is in
    let indexes : arena ≡ index = is.names arena index home.within named in
    let a : find (is_lease other.incarnation arena line.base) (account_in other.client w.book).leases ≡ None =
    subst (λ (x : RequestId). find (is_lease x.incarnation arena line.base) (account_in x.client w.book).leases ≡ None) same none in
    let b : find (is_lease other.incarnation index line.base) (account_in other.client w.book).leases ≡ None =
    subst (λ (k : ℕ). find (is_lease other.incarnation k line.base) (account_in other.client w.book).leases ≡ None) indexes a in
    subst (λ (l : ReleaseLine). find (is_lease other.incarnation index l.base) (account_in other.client w.book).leases ≡ None) lines b
