-- The laws on `nofit`, in bytes.
use Rattle.std.proofs.Common.{◌≡◌, ◌≢◌, ℕ, ◌+◌, refl, sym, subst, ap, ◌∙◌, inl, inr, List, [], ◌∷◌, ◌++◌, length, get_or, Some, None, Ok, Result, arith}
use Rattle.std.specs.Prelude.{slice_get, sum_by, codes, decimal, ◌==◌}
use Rattle.std.specs.List.{find}
use Rattle.std.proofs.lemmas.Bool.{cases_lt, cases_eq}
use Rattle.std.proofs.lemmas.List.{length-append}
use Rattle.deed_core.specs.Holding.{Holding}
use Rattle.deed_core.specs.Tag.{Tag}
use Rattle.tag_arena.specs.ArenaState.{spans_of}
use Rattle.tag_arena.specs.Layout.{IsRun}
use Rattle.tag_arena.specs.Place.{ServesIn}
use Rattle.arena_tree.specs.declared.trees.TreeArena.{TreeArena}
use Rattle.arena_tree.specs.declared.levels.Level.{Level}
use Rattle.arena_tree.specs.Chains.{amount_of}
use Rattle.quantum_cache.specs.Caches.{chain_in}
use Rattle.deed_core.specs.Request.{plain_of}
use Rattle.stock.specs.Spaces.{SpaceState, SpacePlan}
use Rattle.lease_terms.specs.Requests.{RequestId}
use Rattle.lease_terms.specs.declared.refusals.Refusal.{Refusal}
use Rattle.lease_terms.specs.declared.refusals.Refusal.TheVariants.{NoFit, BadRequest, NoArena, NotYours, Leases}
use Rattle.lease_proto.specs.declared.faults.LineFault.{LineFault}
use Rattle.lease_proto.specs.declared.lines.Line.TheVariants as lines
use Rattle.lease_proto.specs.declared.lines.HelloLine.{HelloLine}
use Rattle.lease_proto.specs.declared.lines.LeaseLine.{LeaseLine}
use Rattle.lease_proto.specs.declared.lines.Op.TheVariants as ops
use Rattle.lease_proto.specs.declared.operators.ServedLine.{ServedLine}
use Rattle.lease_proto.specs.declared.operators.ServedLine.TheVariants as served
use Rattle.lease_proto.specs.declared.replies.Reply.{Reply}
use Rattle.lease_proto.specs.declared.replies.Reply.TheVariants as reply
use Rattle.lease_proto.specs.Frames.{with_line_feed}
use Rattle.lease_proto.specs.Requests.{demand_of}
use Rattle.lease_book.specs.Entry.{Hello}
use Rattle.lease_book.specs.Replies.{kept_at}
use Rattle.lease_book.specs.Account.{Account}
use Rattle.lease_book.specs.BookState.{BookState, account_in, account_or_nobody, leased_segments, segments_of_accounts}
use Rattle.lease_book.proofs.LawProofs.{entered_changes}
use Rattle.lease_machine.specs.Picture.{Picture, IsPicture, Finds}
use Rattle.arena_tree.specs.Trees.{arena_named}
use Rattle.local_calls.specs.NoFits.{HasBaseUp}
use Rattle.lease_machine.specs.Serving.{CanServe}
use Rattle.lease_machine.specs.Machine.{NewLease, RefusesLease, HelloStep, Sweeps, AnswersLine}
use Rattle.lease_machine.specs.AnswerLaws.{reply_bytes}
use Rattle.lease_machine.specs.RoomLaws.{NamesArena, NothingIsKept, NoFitMeansTaken, NoFitMeansTakenUp, NeverGrantedAndRefused, RunsNeverGrantAndRefuse, HasRunUp, FreedIsWhole, FirstLeaseIsServed, refusal_to}
use Rattle.lease_machine.proofs.Repeats.{request_answer, history_of}
use Rattle.lease_machine.proofs.CouldServe.{what_serves_can}
use Rattle.lease_machine.proofs.Fitting.{not_known}
use Rattle.lease_machine.proofs.Rooms.{run_serves, base_serves, plan_is}
use Rattle.lease_machine.proofs.Freed.{span_is_run}
use Rattle.lease_machine.proofs.FreshCpus.{fresh_is_picture}
use Rattle.lease_machine.proofs.Homes.{pictures_stay}
use Rattle.lease_history.specs.Told.{IsKnownReply, IsKeptReply}

module _ (id : RequestId) where
  abbrev refusal_with : List ℕ → List ℕ
  refusal_with w = with_line_feed (codes "refused" ++ ((32 ∷ decimal id.client) ++ ((32 ∷ decimal id.incarnation) ++ ((32 ∷ decimal id.number) ++ ((32 ∷ w) ++ [])))))

  -- refusals with words of two lengths differ
  words_differ : (v w : List ℕ) → length v ≢ length w → refusal_with v ≢ refusal_with w
  words_differ v w ne same =
      let e : length (refusal_with v) ≡ length (refusal_with w) = ap length same in
      ne (omega (arith, e, long v, long w))
    where
      long : (x : List ℕ) → length (refusal_with x) ≡ length (decimal id.client) + length (decimal id.incarnation) + length (decimal id.number) + length x + 12
      long x =
          let d : List ℕ = (32 ∷ x) ++ [] in
          let c : List ℕ = (32 ∷ decimal id.number) ++ d in
          let b : List ℕ = (32 ∷ decimal id.incarnation) ++ c in
          let a : List ℕ = (32 ∷ decimal id.client) ++ b in
          omega (
            arith,
            length-append (codes "refused" ++ a) (10 ∷ []),
            length-append (codes "refused") a,
            length-append (32 ∷ decimal id.client) b,
            length-append (32 ∷ decimal id.incarnation) c,
            length-append (32 ∷ decimal id.number) d,
            length-append (32 ∷ x) [],
          )

  word_is : (why : Refusal) → reply_bytes (refusal_to id why) ≡ reply_bytes (refusal_to id NoFit) → why ≡ NoFit
  word_is NoFit same = refl
  word_is BadRequest same = absurd (words_differ (codes "badrequest") (codes "nofit") (λ e. omega (arith, e)) same)
  word_is NoArena same = absurd (words_differ (codes "noarena") (codes "nofit") (λ e. omega (arith, e)) same)
  word_is NotYours same = absurd (words_differ (codes "notyours") (codes "nofit") (λ e. omega (arith, e)) same)
  word_is Leases same = absurd (words_differ (codes "leases") (codes "nofit") (λ e. omega (arith, e)) same)

  -- a new lease that is answered so names no arena that can serve it
  new_no_fit : (old new : Picture) (l : LeaseLine) (r : Reply) → NewLease id l old new r → reply_bytes r ≡ reply_bytes (refusal_to id NoFit)
      → (index : ℕ) (x : TreeArena) → Finds old l.arena index x → CanServe old index x (demand_of l) → ⊥
  new_no_fit old new l (reply.Granted g) does same index x finds can = (let e : 103 ≡ 114 = ap (λ xs. get_or xs 0 0) same in omega (arith, e))
  new_no_fit old new l (reply.Again a) does same index x finds can = (let e : 97 ≡ 114 = ap (λ xs. get_or xs 0 0) same in omega (arith, e))
  new_no_fit old new l (reply.Released a) does same index x finds can = does
  new_no_fit old new l (reply.Old a) does same index x finds can = does
  new_no_fit old new l (reply.Stale a) does same index x finds can = does
  new_no_fit old new l (reply.Gap a) does same index x finds can = does
  new_no_fit old new l (reply.Welcome a) does same index x finds can = does
  new_no_fit old new l (reply.Error a) does same index x finds can = does
  new_no_fit old new l (reply.Refused r) does same index x finds can =
      let is : reply.Refused r ≡ refusal_to id does.0 = does.1.reply in
      let why : does.0 ≡ NoFit = word_is does.0 (sym (ap reply_bytes is) ∙ same) in
      let refused : RefusesLease id l old new NoFit = subst (RefusesLease id l old new) why does.2 in
      let same_index : refused.0 ≡ index = (let e : Some refused.0 ≡ Some index = sym refused.2.finds.first ∙ finds.first in cc) in
      let same_arena : refused.1 ≡ x = (let e : Some refused.1 ≡ Some x = sym refused.2.finds.here ∙ ap (slice_get old.tree) same_index ∙ finds.here in cc) in
      refused.3.none (subst (λ (y : TreeArena). CanServe old refused.0 y (demand_of l)) (sym same_arena) (subst (λ (k : ℕ). CanServe old k x (demand_of l)) (sym same_index) can))

-- an arena with a run of free units that serves can serve
serves_can : (d : Picture) → IsPicture d → (q : _) (k : ℕ) (x : TreeArena) (s : SpaceState) → slice_get d.tree k ≡ Some x → slice_get d.spaces k ≡ Some s
    → (run : Holding) (base : ℕ) → IsRun (spans_of s.arena) s.arena.allocated run → ServesIn x.quantum q run base → ¬ ¬ CanServe d k x q
serves_can d is q k x s here at run base free serves =
    let sound = (is.held.units.parts k s at).sound in
    let same : s.arena.quantum ≡ x.quantum = ap (λ (p : SpacePlan). p.quantum) (plan_is d is k x s here at) in
    let own = subst (λ (n : ℕ). ServesIn n q run base) (sym same) serves in
    base_serves d k x q here (s, at, (base, run_serves s.arena sound q run base free own))

pub no_fit_means_taken : NoFitMeansTaken
no_fit_means_taken old new id l x s is named found run base free serves =
    let a = request_answer old new id (ops.Lease l) found.line found.text found.read found.step in
    serves_can old is (demand_of l) named.index x s named.finds.here named.here run base free serves
    (λ can. elim a.2 [
      | inl known ↦ not_known old id a.0 found.fresh known.0
      | inr does ↦ new_no_fit id old new l a.0 does.1 (sym a.1 ∙ found.said) named.index x named.finds can
    ])

pub never_both : NeverGrantedAndRefused
never_both old new other id l r is g found =
    let can = what_serves_can old new g.index g.arena (demand_of l) g.segment is g.takes.finds.here g.serves in
    let a = request_answer old other id (ops.Lease l) found.line found.text found.read found.step in
    elim a.2 [
      | inl known ↦ not_known old id a.0 found.fresh known.0
      | inr does ↦ new_no_fit id old other l a.0 does.1 (sym a.1 ∙ found.said) g.index g.arena g.takes.finds can
    ]

pub runs_never_both : RunsNeverGrantAndRefuse
runs_never_both start old new other frames text id l r fresh run = never_both old new other id l r (pictures_stay start old frames text (fresh_is_picture start fresh) run)

-- what runs serve, the arenas of the chain do
pub runs_up : (d : Picture) → IsPicture d → (chain : List Level) (n : ℕ) → HasRunUp d.spaces chain n → HasBaseUp d.spaces chain n
runs_up d is [] n has = absurd has
runs_up d is (l ∷ up) n has = elim has [
  | inl run ↦ inl (run.0, run.1, (run.2.1, run_serves run.0.arena (is.held.units.parts l.id run.0 run.1).sound (plain_of n) run.2.0 run.2.1 run.2.2 run.2.3))
  | inr above ↦ inr (runs_up d is up (amount_of l up n) above)
]

pub no_fit_means_taken_up : NoFitMeansTakenUp
no_fit_means_taken_up old new id l x index is finds plain found has =
    let a = request_answer old new id (ops.Lease l) found.line found.text found.read found.step in
    elim a.2 [
      | inl known ↦ not_known old id a.0 found.fresh known.0
      | inr does ↦ new_no_fit id old new l a.0 does.1 (sym a.1 ∙ found.said) index x finds (inr (inl (plain, runs_up old is (chain_in old.tree index) l.size has)))
    ]

pub freed_is_whole : FreedIsWhole
freed_is_whole old new id l x s is kept named span base own serves found =
    no_fit_means_taken old new id l x s is named found span base (span_is_run old is kept named.index s named.here span own) serves

-- The first line of all, and the first lease.

abbrev KeepsNothing : BookState → Type 0
KeepsNothing book = (c : ℕ) → (account_in c book).kept ≡ []

no_kept_reply : (d : Picture) (id : RequestId) (r : Reply) → KeepsNothing d.book → IsKeptReply (arena_named d.tree) d.book id r → ⊥
no_kept_reply d id r none known =
    let empty : kept_at id.number (account_in id.client d.book).kept ≡ None = ap (kept_at id.number) (none id.client) in
    cc (sym empty ∙ known.1.kept)

-- with no reply kept, the answer by a number isn't `nofit`
no_known : (d : Picture) (id : RequestId) (r : Reply) → KeepsNothing d.book → IsKnownReply (arena_named d.tree) d.book id r → reply_bytes r ≢ reply_bytes (refusal_to id NoFit)
no_known d id (reply.Old o) none known same = (let e : 111 ≡ 114 = ap (λ xs. get_or xs 0 0) same in omega (arith, e))
no_known d id (reply.Stale o) none known same = (let e : 115 ≡ 114 = ap (λ xs. get_or xs 0 0) same in omega (arith, e))
no_known d id (reply.Gap o) none known same = (let e : 103 ≡ 114 = ap (λ xs. get_or xs 0 0) same in omega (arith, e))
no_known d id (reply.Granted x) none known same = no_kept_reply d id (reply.Granted x) none known
no_known d id (reply.Released x) none known same = no_kept_reply d id (reply.Released x) none known
no_known d id (reply.Refused x) none known same = no_kept_reply d id (reply.Refused x) none known
no_known d id (reply.Welcome x) none known same = no_kept_reply d id (reply.Welcome x) none known
no_known d id (reply.Again x) none known same = no_kept_reply d id (reply.Again x) none known
no_known d id (reply.Error x) none known same = no_kept_reply d id (reply.Error x) none known

module _ (start : Picture) (is : IsPicture start) (empty : start.book.accounts ≡ []) where
  -- nobody has an account
  none_there : (c : ℕ) → account_in c start.book ≡ account_or_nobody c None
  none_there c = ap (λ (xs : List Account). account_or_nobody c (find (λ a. c == a.client) xs)) empty

  nothing_leased : leased_segments start.book ≡ []
  nothing_leased = ap segments_of_accounts empty

  -- where nothing is leased, nothing is swept
  no_sweeps : (c : ℕ) (ts : List Tag) (old new : Picture) → leased_segments old.book ≡ [] → Sweeps c ts old new → new ≡ old
  no_sweeps c [] old new none same = same
  no_sweeps c (t ∷ ts) old new none swept =
      let f : Tag → ℕ = λ x. 1 in
      absurd (omega (arith, swept.2.ended.leases f, ap (sum_by f) none))

  -- what a hello leaves
  pub record Greeted (mid : Picture) : Type 0 where
    pub book : BookState
    pub after : mid ≡ record start { book = book }
    pub leases : leased_segments book ≡ []
    pub kept : KeepsNothing book

  hello_greets : (h : HelloLine) (mid : Picture) (r : Reply) → HelloStep h start mid r → Greeted mid
  hello_greets h mid (reply.Welcome w) does =
      let greets = does.1 in
      let book : BookState = greets.greeted in
      let leases : leased_segments book ≡ [] = greets.leases ∙ nothing_leased in
      let history = history_of start is in
      let own : (account_in h.client book).kept ≡ [] =
      (elim (cases_lt 0 h.incarnation) [
        | inl above ↦ ap (λ (a : Account). a.kept)
            (entered_changes.hello start.book book h.client h.incarnation h.protocol history greets.hello (omega (arith, above, ap (λ (a : Account). a.incarnation) (none_there h.client))))
        | inr zero_is ↦ ap (λ (a : Account). a.kept)
            (entered_changes.again start.book book h.client h.incarnation h.protocol history greets.hello (omega (arith, zero_is, ap (λ (a : Account). a.incarnation) (none_there h.client))))
            ∙ ap (λ (a : Account). a.kept) (none_there h.client)
      ]) in
      record {
        book = book;
        after = no_sweeps h.client greets.swept (record start { book = book }) mid leases greets.sweeps;
        leases = leases;
        kept = λ c. elim (cases_eq c h.client) [
          | inl same ↦ subst (λ (n : ℕ). (account_in n book).kept ≡ []) (sym same) own
          | inr other ↦ ap (λ (a : Account). a.kept) (entered_changes.others start.book book (Hello h.client h.incarnation h.protocol) c history greets.hello other) ∙ ap (λ (a : Account). a.kept) (none_there c)
        ];
      }
  hello_greets h mid (reply.Old o) does = absurd (omega (arith, does.1, ap (λ (a : Account). a.incarnation) (none_there h.client)))
  hello_greets h mid (reply.Again a) does = record { book = start.book; after = does.2; leases = nothing_leased; kept = λ c. ap (λ (a : Account). a.kept) (none_there c) }
  hello_greets h mid (reply.Granted x) does = absurd does
  hello_greets h mid (reply.Released x) does = absurd does
  hello_greets h mid (reply.Refused x) does = absurd does
  hello_greets h mid (reply.Stale x) does = absurd does
  hello_greets h mid (reply.Gap x) does = absurd does
  hello_greets h mid (reply.Error x) does = absurd does

hello_answer : (old new : Picture) (h : HelloLine) (line text : List ℕ) (x : Result ServedLine LineFault) → x ≡ Ok (served.Client (lines.Hello h)) → AnswersLine old x text new → (r : Reply) × HelloStep h old new r
hello_answer old new h line text x read answer = (let a = subst (λ (y : Result ServedLine LineFault). AnswersLine old y text new) read answer in (a.0, a.2))

pub first_lease_is_served : FirstLeaseIsServed
first_lease_is_served start mid new hello greeting lease text h id l x s is kept empty named read_hello first read_lease second span base own serves said =
    let greeting_of = hello_answer start mid h hello greeting _ read_hello first.answer in
    let greeted : Greeted start is empty mid = hello_greets start is empty h mid greeting_of.0 greeting_of.1 in
    let book : BookState = greeted.book in
    let a = request_answer mid new id (ops.Lease l) lease text read_lease second in
    let after : mid ≡ record start { book = book } = greeted.after in
    let kept_mid : NothingIsKept mid = subst NothingIsKept (sym after) (record { leases = greeted.leases; rounds = kept.rounds; reaped = kept.reaped }) in
    let named_mid : NamesArena mid l x s = subst (λ (d : Picture). NamesArena d l x s) (sym after) (record { index = named.index; finds = record { first = named.finds.first; here = named.finds.here }; here = named.here }) in
    let keeps : KeepsNothing mid.book = subst (λ (d : Picture). KeepsNothing d.book) (sym after) greeted.kept in
    elim a.2 [
      | inl known ↦ no_known mid id a.0 keeps known.0 (sym a.1 ∙ said)
      | inr does ↦ freed_is_whole mid new id l x s first.picture kept_mid named_mid span base own serves
          (record { line = lease; text = text; read = read_lease; fresh = does.0; step = second; said = said })
    ]
