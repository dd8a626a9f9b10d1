-- A request that is answered with a grant has its lease, until a line ends it.
use Rattle.std.proofs.Common.{◌≡◌, ◌⊎◌, ℕ, suc, zero, ◌<◌, refl, sym, subst, ap, ◌∙◌, inl, inr, Bool, true, false, cond, nat_eq, ◌&&◌, ◌==◌, List, [], ◌∷◌, ◌++◌, filter, Contains, get_or, Some, None, Ok, Err, Result, arith}
use Rattle.std.specs.Prelude.{slice_get}
use Rattle.std.specs.List.{find}
use Rattle.std.proofs.lemmas.Bool.{cases_lt, cases_eq, ne_eqb, eqb-true, and_parts}
use Rattle.std.proofs.lemmas.List.{append_cancel_right}
use Rattle.std.proofs.lemmas.List.Elements.{All-contains, Contains-append_left, Contains-push}
use Rattle.deed_core.specs.Tag.{Tag}
use Rattle.arena_tree.specs.declared.trees.TreeArena.{TreeArena}
use Rattle.arena_tree.specs.Trees.{index_in}
use Rattle.lease_terms.specs.Protocols.{window_of}
use Rattle.lease_terms.specs.Requests.{RequestId}
use Rattle.lease_terms.specs.declared.protocols.Protocol.TheVariants.{One}
use Rattle.lease_proto.specs.declared.faults.LineFault.{LineFault}
use Rattle.lease_proto.specs.declared.lines.Line.TheVariants as lines
use Rattle.lease_proto.specs.declared.lines.HelloLine.{HelloLine}
use Rattle.lease_proto.specs.declared.lines.LeaseLine.{LeaseLine}
use Rattle.lease_proto.specs.declared.lines.ReleaseLine.{ReleaseLine}
use Rattle.lease_proto.specs.declared.lines.Op.{Op}
use Rattle.lease_proto.specs.declared.lines.Op.TheVariants as ops
use Rattle.lease_proto.specs.declared.operators.ServedLine.{ServedLine}
use Rattle.lease_proto.specs.declared.operators.ServedLine.TheVariants as served
use Rattle.lease_proto.specs.declared.replies.Reply.{Reply}
use Rattle.lease_proto.specs.declared.replies.Reply.TheVariants as reply
use Rattle.lease_proto.specs.declared.replies.Granted.{Granted}
use Rattle.lease_proto.specs.Frames.{Frame, with_line_feed}
use Rattle.lease_proto.specs.Operators.{served_of}
use Rattle.lease_proto.specs.Requests.{demand_of}
use Rattle.lease_proto.specs.Replies.{reply_of, reply_text, IsReply}
use Rattle.lease_proto.proofs.LawProofs.{replies_are_texts}
use Rattle.lease_book.specs.declared.receipts.KeptReply.{KeptReply}
use Rattle.lease_book.specs.declared.receipts.KeptReply.TheVariants as kept
use Rattle.lease_book.specs.Entry.{Entry, Settlement, Settled, Hello, Swept, Grant, Refuse, Return, kept_settlement}
use Rattle.lease_book.specs.Receipts.{Kept}
use Rattle.lease_book.specs.Replies.{kept_at, recent}
use Rattle.lease_book.specs.Shelf.{with_leases, with_settled}
use Rattle.lease_book.specs.Account.{Account, Lease, granted_request, is_lease, without_first, lease_of, leases_after, window_in}
use Rattle.lease_book.specs.Answers.{IsNew}
use Rattle.lease_book.specs.BookState.{BookState, HasHistory, Enters, account_in, account_or_nobody}
use Rattle.lease_book.specs.History.{leases_of, outcome_of}
use Rattle.lease_book.specs.declared.receipts.Terms.{Terms}
use Rattle.lease_book.proofs.LawProofs.{account_is, entered_changes, found_number, leases_granted}
use Rattle.lease_history.specs.Told.{reply_to, IsKnownReply}
use Rattle.lease_machine.specs.Picture.{Picture, IsPicture}
use Rattle.arena_tree.specs.Trees.{arena_named, name_or_none}
use Rattle.lease_machine.specs.Machine.{LeaseStep, NewRequest, RequestStep}
use Rattle.lease_machine.specs.Laws.{Runs}
use Rattle.lease_machine.specs.AnswerLaws.{reply_bytes, IsReadAs, AreNamed}
use Rattle.lease_machine.specs.LeaseLaws.{leases_in, LeasesStay, LeasesBecome, LeaseMoves, ReleaseMoves, HelloMoves, grant_told}
use Rattle.lease_machine.specs.GrantLaws.{AnswersGranted, LeaseStands, EndsLease, RunKeeps}
use Rattle.lease_machine.proofs.Repeats.{history_of, known_kept, request_answer}
use Rattle.lease_machine.proofs.Fitting.{kept_grants_fit, found_named, not_known}
use Rattle.lease_machine.proofs.Leases.{leases_move, settled_becomes, stays, stays_at}
use Rattle.lease_machine.proofs.Numbers.{kept_outcome, settled_alone}
use Rattle.lease_machine.proofs.Naming.{line_is}
use Rattle.lease_machine.proofs.Replied.{request_valid}
use Rattle.lease_machine.proofs.Entering.{Makes, greets, settles, sweeps, Comes, still, further, answer_comes}

-- Members of lists.

pub contains_cases : {X : Type 0} (y : X) (ys : List X) (x : X) → Contains (y ∷ ys) x → (y ≡ x) ⊎ Contains ys x
contains_cases y ys x (zero, lt, e) = inl e
contains_cases y ys x (suc k, lt, e) = inr (k, omega (arith, lt), e)

contains_later : {X : Type 0} (y : X) (ys : List X) (x : X) → Contains ys x → Contains (y ∷ ys) x
contains_later y ys x (k, lt, e) = (suc k, omega (arith, lt), e)

contains_first : {X : Type 0} (y : X) (ys : List X) (x : X) → y ≡ x → Contains (y ∷ ys) x
contains_first y ys x e = (zero, omega arith, e)

-- one that fails the test stays
without_keeps : (test : Lease → Bool) (xs : List Lease) (x : Lease) → test x ≡ false → Contains xs x → Contains (without_first test xs) x
without_keeps test [] x fails has = absurd (let lt = has.1 in omega (arith, lt))
without_keeps test (y ∷ ys) x fails has = by (test y) refl (contains_cases y ys x has) (without_keeps test ys x fails)
  where
    by : (b : Bool) → test y ≡ b → ((y ≡ x) ⊎ Contains ys x) → (Contains ys x → Contains (without_first test ys) x) → Contains (cond b ys (y ∷ without_first test ys)) x
    by true passes (inl is) rest = absurd (let e : true ≡ false = sym passes ∙ ap test is ∙ fails in cc)
    by true passes (inr later) rest = later
    by false not (inl is) rest = contains_first y (without_first test ys) x is
    by false not (inr later) rest = contains_later y (without_first test ys) x (rest later)

-- one that passes it does
filter_keeps : (test : Lease → Bool) (xs : List Lease) (x : Lease) → test x ≡ true → Contains xs x → Contains (filter test xs) x
filter_keeps test [] x passes has = absurd (let lt = has.1 in omega (arith, lt))
filter_keeps test (y ∷ ys) x passes has = by (test y) refl (contains_cases y ys x has) (filter_keeps test ys x passes)
  where
    by : (b : Bool) → test y ≡ b → ((y ≡ x) ⊎ Contains ys x) → (Contains ys x → Contains (filter test ys) x) → Contains (cond b (y ∷ filter test ys) (filter test ys)) x
    by false fails (inl is) rest = absurd (let e : false ≡ true = sym fails ∙ ap test is ∙ passes in cc)
    by false fails (inr later) rest = rest later
    by true is_so (inl is) rest = contains_first y (filter test ys) x is
    by true is_so (inr later) rest = contains_later y (filter test ys) x (rest later)

-- Each kept reply of a client by the first protocol, where it is a grant, is of a lease that stands.

-- the grant is of a lease of the account's incarnation
pub record Stands (a : Account) (k : Kept) (arena base len : ℕ) : Type 0 where
  pub segment : Tag
  pub held : Contains a.leases (record { incarnation = a.incarnation; number = k.number; segment = segment })
  pub of_arena : segment.arena ≡ arena
  pub at_base : segment.holding.range.base ≡ base
  pub as_long : segment.holding.range.len ≡ len

abbrev AccountStands : Account → Type 0
AccountStands a = (k : Kept) (n arena base len : ℕ) → a.protocol ≡ One → kept_at n a.kept ≡ Some k → k.reply ≡ kept.Granted arena base len → Stands a k arena base len

abbrev pub BookStands : BookState → Type 0
BookStands book = (c : ℕ) → AccountStands (account_in c book)

none_stands : (a : Account) → a.kept ≡ [] → AccountStands a
none_stands a none k n arena base len one is granted = absurd (let e : None ≡ Some k = sym (ap (kept_at n) none) ∙ is in cc)

abbrev after_settling : RequestId → Settlement → Account → Account
after_settling id s a = with_settled (kept_settlement id.number s) (with_leases (leases_after id s) a)

-- by the first protocol nothing but the newest reply is kept
newest : (id : RequestId) (s : Settlement) (a : Account) → IsNew a id → (k : Kept) (n : ℕ) → a.protocol ≡ One → kept_at n (after_settling id s a).kept ≡ Some k → kept_settlement id.number s ≡ k
newest id s a fresh k n one is =
    let w : window_in a ≡ 1 = ap window_of one in
    settled_alone (kept_settlement id.number s) a.kept n k (omega (arith, fresh.above, w)) fresh.unsettled (subst (λ (m : ℕ). kept_at n (recent m (kept_settlement id.number s ∷ a.kept)) ≡ Some k) w is)

settled_stands : (id : RequestId) (s : Settlement) (a : Account) → IsNew a id → AccountStands (after_settling id s a)
settled_stands id (Grant t terms) a fresh k n arena base len one is granted =
    let now : kept_settlement id.number (Grant t terms) ≡ k = newest id (Grant t terms) a fresh k n one is in
    let told : kept.Granted t.arena t.holding.range.base t.holding.range.len ≡ kept.Granted arena base len = ap (λ (x : Kept). x.reply) now ∙ granted in
    let at_arena : t.arena ≡ arena = cc in
    let at_base : t.holding.range.base ≡ base = cc in
    let as_long : t.holding.range.len ≡ len = cc in
    let number : id.number ≡ k.number = ap (λ (x : Kept). x.number) now in
    let own : lease_of id t ≡ record { incarnation = a.incarnation; number = k.number; segment = t } = λ j. record { incarnation = fresh.current j; number = number j; segment = t } in
    record {
      segment = t;
      held = subst (λ (l : Lease). Contains (a.leases ++ lease_of id t ∷ []) l) own (Contains-push a.leases (lease_of id t));
      of_arena = at_arena;
      at_base = at_base;
      as_long = as_long;
    }
settled_stands id (Return i b) a fresh k n arena base len one is granted =
    let now : kept_settlement id.number (Return i b) ≡ k = newest id (Return i b) a fresh k n one is in
    absurd (let e : kept.Released i b ≡ kept.Granted arena base len = ap (λ (x : Kept). x.reply) now ∙ granted in cc)
settled_stands id (Refuse why) a fresh k n arena base len one is granted =
    let now : kept_settlement id.number (Refuse why) ≡ k = newest id (Refuse why) a fresh k n one is in
    absurd (let e : kept.Refused why ≡ kept.Granted arena base len = ap (λ (x : Kept). x.reply) now ∙ granted in cc)

-- a lease of a later incarnation is none of the older one's
not_older : (i arena base : ℕ) (l : Lease) → i < l.incarnation → is_lease i arena base l ≡ false
not_older i arena base l below = ap (λ (b : Bool). b && (nat_eq arena l.segment.arena && nat_eq base l.segment.holding.range.base)) (ne_eqb i l.incarnation (λ e. omega (arith, e, below)))

entry_stands : (e : Entry) (old new : BookState) → HasHistory old → Makes e old → Enters e old new → BookStands old → BookStands new
entry_stands _ _ new history (greets d i p old le) entry st c = elim (cases_eq c d) [
  | inr other ↦ subst AccountStands (sym (entered_changes.others old new (Hello d i p) c history entry other)) (st c)
  | inl is ↦ elim (cases_lt (account_in d old).incarnation i) [
    | inl above ↦ subst (λ (x : ℕ). AccountStands (account_in x new)) (sym is) (none_stands (account_in d new) (ap (λ (a : Account). a.kept) (entered_changes.hello old new d i p history entry above)))
    | inr below ↦
        let current : i ≡ (account_in d old).incarnation = omega (arith, le, below) in
        subst (λ (x : ℕ). AccountStands (account_in x new)) (sym is) (subst AccountStands (sym (entered_changes.again old new d i p history entry current)) (st d))
  ]
]
entry_stands _ _ new history (settles id s old fresh) entry st c = elim (cases_eq c id.client) [
  | inr other ↦ subst AccountStands (sym (entered_changes.others old new (Settled id s) c history entry other)) (st c)
  | inl is ↦ subst (λ (x : ℕ). AccountStands (account_in x new)) (sym is)
      (subst AccountStands (sym (entered_changes.settled old new id s history entry)) (settled_stands id s (account_in id.client old) fresh))
]
entry_stands _ _ new history (sweeps d i arena base old older) entry st c = elim (cases_eq c d) [
  | inr other ↦ subst AccountStands (sym (entered_changes.others old new (Swept d i arena base) c history entry other)) (st c)
  | inl is ↦ subst (λ (x : ℕ). AccountStands (account_in x new)) (sym is)
      (subst AccountStands (sym (entered_changes.swept old new d i arena base history entry)) (λ k n a b len one there granted. (
      let so = st d k n a b len one there granted in
      let l : Lease = record { incarnation = (account_in d old).incarnation; number = k.number; segment = so.segment } in
      record {
        segment = so.segment;
        held = without_keeps (is_lease i arena base) (account_in d old).leases l (not_older i arena base l older) so.held;
        of_arena = so.of_arena;
        at_base = so.at_base;
        as_long = so.as_long;
      })))
]

comes_stands : (old new : BookState) → HasHistory old → Comes old new → BookStands old → BookStands new
comes_stands _ _ history (still old new e) st = subst BookStands (sym e) st
comes_stands _ _ history (further e old mid new makes entry rest) st =
    comes_stands mid new (e ∷ history.0, entry.history history.0 history.1) rest (entry_stands e old mid history makes entry st)

pub step_stands : (old new : Picture) (line text : List ℕ) → IsPicture old → LeaseStep old line text new → BookStands old.book → BookStands new.book
step_stands old new line text is step st = comes_stands old.book new.book (history_of old is) (answer_comes (served_of line) old new text step.answer) st

pub run_stands : (frames : List Frame) (old new : Picture) (text : List ℕ) → IsPicture old → Runs old frames text new → BookStands old.book → BookStands new.book
run_stands [] old new text is run st = subst (λ (d : Picture). BookStands d.book) (sym run.1) st
run_stands (Ok line ∷ frames) old new text is run st = run_stands frames run.2 new run.1 (run.3).picture run.5 (step_stands old run.2 line run.0 is run.3 st)
run_stands (Err fault ∷ frames) old new text is run st = run_stands frames old new run.0 is run.2 st

-- so it is in an empty book
pub empty_stands : (book : BookState) → book.accounts ≡ [] → BookStands book
empty_stands book none c = none_stands (account_in c book) (ap (λ (all : List Account). (account_or_nobody c (find (λ a. c == a.client) all)).kept) none)

-- What a grant says.

-- only a grant is written as one
pub is_grant : (r : Reply) (g : Granted) → reply_bytes r ≡ reply_bytes (reply.Granted g) → (h : Granted) × (r ≡ reply.Granted h)
is_grant (reply.Granted h) g same = (h, refl)
is_grant (reply.Welcome x) g same = absurd (let e : 119 ≡ 103 = ap (λ xs. get_or xs 0 0) same in omega (arith, e))
is_grant (reply.Released x) g same = absurd (let e : 114 ≡ 103 = ap (λ xs. get_or xs 0 0) same in omega (arith, e))
is_grant (reply.Refused x) g same = absurd (let e : 114 ≡ 103 = ap (λ xs. get_or xs 0 0) same in omega (arith, e))
is_grant (reply.Old x) g same = absurd (let e : 111 ≡ 103 = ap (λ xs. get_or xs 0 0) same in omega (arith, e))
is_grant (reply.Stale x) g same = absurd (let e : 115 ≡ 103 = ap (λ xs. get_or xs 0 0) same in omega (arith, e))
is_grant (reply.Gap x) g same = absurd (let e : 97 ≡ 114 = ap (λ xs. get_or xs 1 0) same in omega (arith, e))
is_grant (reply.Again x) g same = absurd (let e : 97 ≡ 103 = ap (λ xs. get_or xs 0 0) same in omega (arith, e))
is_grant (reply.Error x) g same = absurd (let e : 101 ≡ 103 = ap (λ xs. get_or xs 0 0) same in omega (arith, e))

-- what was kept of it
kept_granted : (names : ℕ → List ℕ) (id : RequestId) (k : KeptReply) (h : Granted) → reply.Granted h ≡ reply_to names id k
    → (arena : ℕ) × (base : ℕ) × (len : ℕ) × (k ≡ kept.Granted arena base len) × (h ≡ record { id = id; arena = names arena; base = base; len = len })
kept_granted names id (kept.Granted arena base len) h is = (arena, base, len, refl, (let e : reply.Granted h ≡ reply.Granted (record { id = id; arena = names arena; base = base; len = len }) = is in cc))
kept_granted names id (kept.Released arena base) h is = absurd (let e : reply.Granted h ≡ reply.Released id = is in cc)
kept_granted names id (kept.Refused why) h is = absurd (let e : reply.Granted h ≡ reply.Refused (record { id = id; refusal = why }) = is in cc)

-- its bytes
pub grant_bytes : (text : List ℕ) (h : Granted) → IsReadAs text (reply.Granted h) → text ≡ reply_bytes (reply.Granted h)
grant_bytes text h told = told.1 ∙ ap with_line_feed ((replies_are_texts told.0 (reply.Granted h)).0 told.2).1

-- a grant that types keep is read from its bytes alone
read_back : (g h : Granted) (text : List ℕ) → IsReply (reply.Granted h) → text ≡ reply_bytes (reply.Granted h) → IsReadAs text (reply.Granted g) → h ≡ g
read_back g h text valid said (bytes, is, read) =
    let same : reply_text (reply.Granted h) ≡ bytes = append_cancel_right (reply_text (reply.Granted h)) bytes (10 ∷ []) (sym said ∙ is) in
    let again : reply_of (reply_text (reply.Granted h)) ≡ Ok (reply.Granted h) = (replies_are_texts (reply_text (reply.Granted h)) (reply.Granted h)).1 (valid, refl) in
    let e : Ok (reply.Granted h) ≡ Ok (reply.Granted g) = sym again ∙ ap reply_of same ∙ read in
    cc

-- the request that was granted it has a lease of just that
pub record IsLeased (d : Picture) (g : Granted) : Type 0 where
  pub lease : Lease
  pub held : Contains (leases_in d g.id.client) lease
  pub incarnation : lease.incarnation ≡ g.id.incarnation
  pub number : lease.number ≡ g.id.number
  pub at_base : lease.segment.holding.range.base ≡ g.base
  pub as_long : lease.segment.holding.range.len ≡ g.len
  pub arena : TreeArena
  pub here : slice_get d.tree lease.segment.arena ≡ Some arena
  pub named : arena.name ≡ g.arena

-- the request has the lease that is told
record HasLease (d : Picture) (id : RequestId) (h : Granted) : Type 0 where
  segment : Tag
  held : Contains (leases_in d id.client) (lease_of id segment)
  arena : TreeArena
  here : slice_get d.tree segment.arena ≡ Some arena
  told : h ≡ grant_told d id segment

has_leased : (d : Picture) (id : RequestId) (h : Granted) → HasLease d id h → IsLeased d h
has_leased d id h has = subst (IsLeased d) (sym has.told) (record {
  lease = lease_of id has.segment;
  held = has.held;
  incarnation = refl;
  number = refl;
  at_base = refl;
  as_long = refl;
  arena = has.arena;
  here = has.here;
  named = ap name_or_none (sym has.here);
})

-- where it is new
new_has : (old new : Picture) (id : RequestId) (op : Op) (h : Granted) → HasHistory old.book → new.tree ≡ old.tree → NewRequest id op old new (reply.Granted h) → HasLease new id h
new_has old new id (ops.Lease l) h history tree does =
    let t = does.segment in
    let e : reply.Granted h ≡ reply.Granted (grant_told old id t) = does.reply in
    let told : h ≡ grant_told old id t = cc in
    let becomes = settled_becomes old new id (Grant t (record { quantum = does.arena.quantum; request = demand_of l })) history does.granted.entry in
    record {
      segment = t;
      held = subst (λ (ls : List Lease). Contains ls (lease_of id t)) (sym becomes.own) (Contains-push (leases_in old id.client) (lease_of id t));
      arena = does.arena;
      here = ap (λ (xs : List TreeArena). slice_get xs t.arena) tree ∙ ap (slice_get old.tree) does.serves.arena ∙ does.takes.finds.here;
      told = told ∙ ap (λ (xs : List TreeArena). record { id = id; arena = arena_named xs t.arena; base = t.holding.range.base; len = t.holding.range.len }) (sym tree);
    }
new_has old new id (ops.Release l) h history tree does = absurd does

-- where its client asks again by the first protocol
known_has : (d : Picture) (id : RequestId) (h : Granted) → IsPicture d → BookStands d.book → (account_in id.client d.book).protocol ≡ One → IsKnownReply (arena_named d.tree) d.book id (reply.Granted h) → HasLease d id h
known_has d id h is st one known =
    let was = known_kept d id (reply.Granted h) tt known in
    let k = was.0 in
    let (arena, base, len, granted, told) = kept_granted (arena_named d.tree) id k.reply h was.2 in
    let so = st id.client k id.number arena base len one was.1.there granted in
    let home = kept_grants_fit d id.client id.number k is was.1.there arena base len granted in
    let number : id.number ≡ k.number = (found_number (account_in id.client d.book).kept id.number k was.1.there).0 in
    let own : record { incarnation = (account_in id.client d.book).incarnation; number = k.number; segment = so.segment } ≡ lease_of id so.segment =
    λ j. record { incarnation = sym was.1.current j; number = sym number j; segment = so.segment } in
    let tells : grant_told d id so.segment ≡ record { id = id; arena = arena_named d.tree arena; base = base; len = len } =
    λ j. record { id = id; arena = arena_named d.tree (so.of_arena j); base = so.at_base j; len = so.as_long j } in
    record {
      segment = so.segment;
      held = subst (λ (l : Lease). Contains (leases_in d id.client) l) own so.held;
      arena = home.0;
      here = ap (slice_get d.tree) so.of_arena ∙ home.2;
      told = told ∙ sym tells;
    }

-- or while the lease that it was granted stands
stands_has : (d : Picture) (id : RequestId) (h : Granted) → IsPicture d → LeaseStands d id → IsKnownReply (arena_named d.tree) d.book id (reply.Granted h) → HasLease d id h
stands_has d id h is s known =
    let was = known_kept d id (reply.Granted h) tt known in
    let k = was.0 in
    let l = s.lease in
    let (arena, base, len, granted, told) = kept_granted (arena_named d.tree) id k.reply h was.2 in
    let es : List Entry = is.book.entries in
    let outcome : outcome_of id es ≡ Some k = kept_outcome es d.book id is.book.history was.1.current k was.1.there in
    let leases : leases_in d id.client ≡ leases_of id.client es = ap (λ (a : Account). a.leases) (account_is es d.book id.client is.book.history) in
    let held : Contains (leases_of id.client es) l = subst (λ (ls : List Lease). Contains ls l) leases s.held in
    let by = All-contains (λ (x : Lease). (terms : Terms) × (outcome_of (granted_request id.client x) es ≡ Some (kept_settlement x.number (Grant x.segment terms)))) (leases_of id.client es) l (leases_granted es id.client is.book.history.orderly) held in
    let first : outcome_of id es ≡ Some (kept_settlement l.number (Grant l.segment by.0)) = subst (λ (i : RequestId). outcome_of i es ≡ Some (kept_settlement l.number (Grant l.segment by.0))) s.own by.1 in
    let one : k ≡ kept_settlement l.number (Grant l.segment by.0) = (let e : Some k ≡ Some (kept_settlement l.number (Grant l.segment by.0)) = sym outcome ∙ first in cc) in
    let told_so : kept.Granted arena base len ≡ kept.Granted l.segment.arena l.segment.holding.range.base l.segment.holding.range.len = sym granted ∙ ap (λ (x : Kept). x.reply) one in
    let of_arena : l.segment.arena ≡ arena = cc in
    let at_base : l.segment.holding.range.base ≡ base = cc in
    let as_long : l.segment.holding.range.len ≡ len = cc in
    let home = kept_grants_fit d id.client id.number k is was.1.there arena base len granted in
    let own : l ≡ lease_of id l.segment = λ j. record { incarnation = (s.own j).incarnation; number = (s.own j).number; segment = l.segment } in
    let tells : grant_told d id l.segment ≡ record { id = id; arena = arena_named d.tree arena; base = base; len = len } =
    λ j. record { id = id; arena = arena_named d.tree (of_arena j); base = at_base j; len = as_long j } in
    record {
      segment = l.segment;
      held = subst (λ (x : Lease). Contains (leases_in d id.client) x) own s.held;
      arena = home.0;
      here = ap (slice_get d.tree) of_arena ∙ home.2;
      told = told ∙ sym tells;
    }

pub granted_leased : (old new : Picture) (line text : List ℕ) (g : Granted) → IsPicture old → AreNamed old.tree → BookStands old.book → AnswersGranted old line text g new → IsLeased new g
granted_leased old new line text g is names st a =
    let id = a.id in
    let answer = request_answer old new id a.op line text a.read a.step in
    let told = a.told in
    let said : reply_bytes answer.0 ≡ reply_bytes (reply.Granted g) = sym answer.1 ∙ grant_bytes text g told in
    let grant = is_grant answer.0 g said in
    let h = grant.0 in
    let step : RequestStep id a.op old new (reply.Granted h) = subst (RequestStep id a.op old new) grant.1 answer.2 in
    let tree : new.tree ≡ old.tree = a.step.setup.tree in
    let has : HasLease new id h =
    (elim step [
      | inr does ↦ new_has old new id a.op h (history_of old is) tree does.1
      | inl known ↦ elim a.counts [
        | inl fresh ↦ absurd (not_known old id (reply.Granted h) fresh known.0)
        | inr (inl one) ↦ subst (λ (d : Picture). HasLease d id h) (sym known.1) (known_has old id h is st one known.0)
        | inr (inr stands) ↦ subst (λ (d : Picture). HasLease d id h) (sym known.1) (stands_has old id h is stands known.0)
      ]
    ]) in
    let is_id = (line_is line (lines.Request id a.op) a.read).0 in
    let valid : IsReply (reply.Granted h) = subst IsReply grant.1 (request_valid old new is a.step.picture tree names id is_id a.op answer.0 answer.2) in
    let same : h ≡ g = read_back g h text valid (answer.1 ∙ ap reply_bytes grant.1) told in
    subst (IsLeased new) same (has_leased new id h has)

-- What keeps a lease.

module _ (g : Granted) (old new : Picture) (is : IsPicture old) (line text : List ℕ) (step : LeaseStep old line text new) (not : ¬ EndsLease g old line text) (l : IsLeased old g) where
  abbrev Has : Picture → Type 0
  Has d = Contains (leases_in d g.id.client) l.lease

  stay_has : LeasesStay old new → Has new
  stay_has stay = subst (λ (ls : List Lease). Contains ls l.lease) (sym (stay g.id.client)) l.held

  same_has : new ≡ old → Has new
  same_has same = subst Has (sym same) l.held

  become_has : (c : ℕ) (leases : List Lease) → LeasesBecome c leases old new → (g.id.client ≡ c → Contains leases l.lease) → Has new
  become_has c leases become own = elim (cases_eq g.id.client c) [
    | inl is_own ↦ subst (λ (d : ℕ). Contains (leases_in new d) l.lease) (sym is_own) (subst (λ (ls : List Lease). Contains ls l.lease) (sym become.own) (own is_own))
    | inr other ↦ subst (λ (ls : List Lease). Contains ls l.lease) (sym (become.others g.id.client other)) l.held
  ]

  own_held : (c : ℕ) → g.id.client ≡ c → Contains (leases_in old c) l.lease
  own_held c e = subst (λ (d : ℕ). Contains (leases_in old d) l.lease) e l.held

  hello_has : (h : HelloLine) → served_of line ≡ Ok (served.Client (lines.Hello h)) → (r : Reply) → text ≡ reply_bytes r → HelloMoves h old r new → Has new
  hello_has h read (reply.Welcome w) said moves = become_has h.client (filter (stays h.incarnation) (leases_in old h.client)) moves.1 (λ own. elim (cases_lt l.lease.incarnation h.incarnation) [
    | inl older ↦ absurd (not (inr (h, read, sym own, subst (λ (i : ℕ). i < h.incarnation) l.incarnation older, ((account_in h.client new.book).protocol, said ∙ ap (λ x. reply_bytes (reply.Welcome x)) moves.0))))
    | inr current ↦ filter_keeps (stays h.incarnation) (leases_in old h.client) l.lease (stays_at h.incarnation l.lease current) (own_held h.client own)
  ])
  hello_has h read (reply.Granted x) said moves = stay_has moves
  hello_has h read (reply.Released x) said moves = stay_has moves
  hello_has h read (reply.Refused x) said moves = stay_has moves
  hello_has h read (reply.Old x) said moves = stay_has moves
  hello_has h read (reply.Stale x) said moves = stay_has moves
  hello_has h read (reply.Gap x) said moves = stay_has moves
  hello_has h read (reply.Again x) said moves = stay_has moves
  hello_has h read (reply.Error x) said moves = stay_has moves

  lease_has : (id : RequestId) (x : LeaseLine) (r : Reply) → LeaseMoves id x old r new → Has new
  lease_has id x (reply.Granted h) moves = become_has id.client (leases_in old id.client ++ lease_of id moves.0 ∷ []) moves.3 (λ own. Contains-append_left (leases_in old id.client) (lease_of id moves.0 ∷ []) l.lease (own_held id.client own))
  lease_has id x (reply.Welcome y) moves = stay_has moves
  lease_has id x (reply.Released y) moves = stay_has moves
  lease_has id x (reply.Refused y) moves = stay_has moves
  lease_has id x (reply.Old y) moves = stay_has moves
  lease_has id x (reply.Stale y) moves = stay_has moves
  lease_has id x (reply.Gap y) moves = stay_has moves
  lease_has id x (reply.Again y) moves = stay_has moves
  lease_has id x (reply.Error y) moves = stay_has moves

  -- where the lease passes the test of a release, that is one of it
  released_it : (id : RequestId) (x : ReleaseLine) → served_of line ≡ Ok (served.Client (lines.Request id (ops.Release x))) → IsNew (account_in id.client old.book) id → g.id.client ≡ id.client → text ≡ reply_bytes (reply.Released id)
      → (index : ℕ) → index_in x.arena old.tree ≡ Some index → is_lease id.incarnation index x.base l.lease ≡ true → ⊥
  released_it id x read fresh own said index named passes =
      let parts = and_parts (nat_eq id.incarnation l.lease.incarnation) _ passes in
      let rest = and_parts (nat_eq index l.lease.segment.arena) _ parts.1 in
      let i : id.incarnation ≡ l.lease.incarnation = eqb-true id.incarnation l.lease.incarnation parts.0 in
      let at : index ≡ l.lease.segment.arena = eqb-true index l.lease.segment.arena rest.0 in
      let base : x.base ≡ l.lease.segment.holding.range.base = eqb-true x.base l.lease.segment.holding.range.base rest.1 in
      let name : l.arena.name ≡ x.arena = found_named old.tree x.arena index l.arena named (ap (slice_get old.tree) at ∙ l.here) in
      not (inl (id, x, read, fresh, sym own, i ∙ l.incarnation, sym name ∙ l.named, base ∙ l.at_base, said))

  release_has : (id : RequestId) (x : ReleaseLine) → served_of line ≡ Ok (served.Client (lines.Request id (ops.Release x))) → IsNew (account_in id.client old.book) id → (r : Reply) → text ≡ reply_bytes r → ReleaseMoves id x old r new → Has new
  release_has id x read fresh (reply.Released p) said moves =
      let loses = moves.1 in
      let test = is_lease id.incarnation loses.index x.base in
      become_has id.client (without_first test (leases_in old id.client)) loses.less (λ own.
      by (test l.lease) refl own (said ∙ ap (λ y. reply_bytes (reply.Released y)) moves.0))
    where
      by : (b : Bool) → is_lease id.incarnation moves.1.index x.base l.lease ≡ b → g.id.client ≡ id.client → text ≡ reply_bytes (reply.Released id) → Contains (without_first (is_lease id.incarnation moves.1.index x.base) (leases_in old id.client)) l.lease
      by true passes own so = absurd (released_it id x read fresh own so moves.1.index moves.1.named passes)
      by false fails own so = without_keeps (is_lease id.incarnation moves.1.index x.base) (leases_in old id.client) l.lease fails (own_held id.client own)
  release_has id x read fresh (reply.Welcome y) said moves = stay_has moves
  release_has id x read fresh (reply.Granted y) said moves = stay_has moves
  release_has id x read fresh (reply.Refused y) said moves = stay_has moves
  release_has id x read fresh (reply.Old y) said moves = stay_has moves
  release_has id x read fresh (reply.Stale y) said moves = stay_has moves
  release_has id x read fresh (reply.Gap y) said moves = stay_has moves
  release_has id x read fresh (reply.Again y) said moves = stay_has moves
  release_has id x read fresh (reply.Error y) said moves = stay_has moves

  request_has : (id : RequestId) (op : Op) → served_of line ≡ Ok (served.Client (lines.Request id op)) → Has new
  request_has id (ops.Lease x) read = elim ((request_answer old new id (ops.Lease x) line text read step).2) [
    | inl known ↦ same_has known.1
    | inr fresh ↦ (let moves = leases_move.lease old new id x line text is read fresh.0 step in lease_has id x moves.0 moves.2)
  ]
  request_has id (ops.Release x) read = elim ((request_answer old new id (ops.Release x) line text read step).2) [
    | inl known ↦ same_has known.1
    | inr fresh ↦ (let moves = leases_move.release old new id x line text is read fresh.0 step in release_has id x read fresh.0 moves.0 moves.1 moves.2)
  ]

  line_has : (x : Result ServedLine LineFault) → served_of line ≡ x → Has new
  line_has (Ok (served.Client (lines.Hello h))) read = (let moves = leases_move.hello old new h line text is read step in hello_has h read moves.0 moves.1 moves.2)
  line_has (Ok (served.Client (lines.Request id op))) read = request_has id op read
  line_has (Ok (served.Operator o)) read = stay_has (leases_move.operator old new o line text read step)
  line_has (Err fault) read = same_has (leases_move.refused old new fault line text read step)

  pub step_keeps : IsLeased new g
  step_keeps = record {
    lease = l.lease;
    held = line_has (served_of line) refl;
    incarnation = l.incarnation;
    number = l.number;
    at_base = l.at_base;
    as_long = l.as_long;
    arena = l.arena;
    here = ap (λ (xs : List TreeArena). slice_get xs l.lease.segment.arena) step.setup.tree ∙ l.here;
    named = l.named;
  }

-- a line that is answered with a grant ends none
ends_none : (g h : Granted) (old : Picture) (line text : List ℕ) → IsReadAs text (reply.Granted h) → ¬ EndsLease g old line text
ends_none g h old line text told (inl back) = (let e : 114 ≡ 103 = ap (λ xs. get_or xs 0 0) (sym back.8 ∙ grant_bytes text h told) in omega (arith, e))
ends_none g h old line text told (inr swept) = (let e : 119 ≡ 103 = ap (λ xs. get_or xs 0 0) (sym swept.4.1 ∙ grant_bytes text h told) in omega (arith, e))

pub grant_keeps : (g : Granted) (old new : Picture) (line text : List ℕ) (h : Granted) → IsPicture old → AnswersGranted old line text h new → IsLeased old g → IsLeased new g
grant_keeps g old new line text h is a l = step_keeps g old new is line text a.step (ends_none g h old line text a.told) l

-- what lines keep that end no such lease
pub record Kept_on (g : Granted) (old new : Picture) : Type 0 where
  pub picture : IsPicture new
  pub tree : new.tree ≡ old.tree
  pub stands : BookStands new.book
  pub leased : IsLeased new g

pub run_keeps : (g : Granted) (frames : List Frame) (old new : Picture) (text : List ℕ) → IsPicture old → BookStands old.book → RunKeeps g old frames text new → IsLeased old g → Kept_on g old new
run_keeps g [] old new text is st run l = subst (Kept_on g old) (sym run.1) (record { picture = is; tree = refl; stands = st; leased = l })
run_keeps g (Ok line ∷ frames) old new text is st (first, rest, mid, (step, not), same, run) l =
    let on = run_keeps g frames mid new rest step.picture (step_stands old mid line first is step st) run (step_keeps g old mid is line first step not l) in
    record { picture = on.picture; tree = on.tree ∙ step.setup.tree; stands = on.stands; leased = on.leased }
run_keeps g (Err fault ∷ frames) old new text is st run l = run_keeps g frames old new run.0 is st run.2 l
