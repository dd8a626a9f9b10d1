-- A hello's list of steps over a picture is a step of the lease machine.
use Rattle.std.proofs.Common.{◌≡◌, ◌<◌, ◌≤◌, ◌∙◌, ℕ, zero, suc, refl, sym, subst, ap, List, [], ◌∷◌, All, Bool, true, false, cond, Option, Some, None, Result, Ok, Err, arith, length}
use Rattle.std.specs.List.{find}
use Rattle.deed_core.specs.Tag.{Tag}
use Rattle.arena_tree.specs.Climbs.{ReturnEnd}
use Rattle.arena_tree.specs.Trees.{nodes_of}
use Rattle.arena_tree.specs.declared.part_faults.Stopped.{Stopped}
use Rattle.lease_terms.specs.Requests.{RequestId}
use Rattle.lease_terms.specs.declared.protocols.Protocol.{Protocol}
use Rattle.lease_proto.specs.declared.lines.HelloLine.{HelloLine}
use Rattle.lease_proto.specs.declared.replies.Old.{Old}
use Rattle.lease_book.specs.Account.{Account, Lease, is_lease, without_first}
use Rattle.lease_book.specs.Answers.{IsHelloFault}
use Rattle.lease_book.specs.BookState.{BookState, HasHistory, account_in}
use Rattle.lease_book.specs.Calls.{IsSwept}
use Rattle.lease_book.specs.Words.{Greeted}
use Rattle.lease_book.specs.Shelf.{standing_of}
use Rattle.lease_book.specs.Standings.{StandingState}
use Rattle.lease_book.specs.declared.answers.HelloFault.{HelloFault}
use Rattle.lease_book.specs.declared.answers.HelloFault.TheVariants as late
use Rattle.lease_book.specs.declared.books.TheConstants.{MOST_LEASES}
use Rattle.lease_book.proofs.LawProofs.{entered_changes, books_in_bounds}
use Rattle.local_calls.specs.Runs.{SoundStep}
use Rattle.local_parts.specs.States.{LocalState}
use Rattle.lease_call.specs.BookEvents.{IsGreeted}
use Rattle.lease_call.specs.Calls.{Hello, Sweep}
use Rattle.lease_call.specs.Greeting.{HelloEnd, hello_refusal, on_hello, on_sweep, sweep_plan}
use Rattle.lease_call.specs.Hands.{on_place, place_first}
use Rattle.lease_call.specs.Placing.{place_plan}
use Rattle.lease_call.specs.declared.call_faults.NotGreeted.{NotGreeted}
use Rattle.lease_call.specs.declared.call_faults.NotGreeted.TheVariants as greeting
use Rattle.lease_call.specs.declared.outcomes.Greeting.TheVariants.{Welcome, Late}
use Rattle.lease_call.proofs.LawProofs.{path_under}
use Rattle.lease_machine.specs.Conversations.{BookDoes, RunsCall, AnswersHello, HelloRuns}
use Rattle.lease_machine.specs.Held.{parts_in, with_parts}
use Rattle.lease_machine.specs.Machine.{HelloStep, Sweeps}
use Rattle.lease_machine.specs.Picture.{Picture, IsPicture, SameSetup}
use Rattle.lease_machine.proofs.BookMoves.{swept_in_hand, swept_book, swept_standing, greeted_is_picture, greeted_incarnation}
use Rattle.lease_machine.proofs.Placing.{PlacedBack, unchanged, parts_written, parts_again, placed_back}
use Rattle.lease_machine.proofs.Rebooking.{goes_back_from}

-- one lease less
shorter : (test : Lease → Bool) (leases : List Lease) (l : Lease) → find test leases ≡ Some l → suc (length (without_first test leases)) ≡ length leases
shorter test [] l found = absurd (let e : None ≡ Some l = found in cc)
shorter test (x ∷ leases) l found = by (test x) found (shorter test leases l)
  where
    by : (b : Bool) → cond b (Some x) (find test leases) ≡ Some l → (find test leases ≡ Some l → suc (length (without_first test leases)) ≡ length leases) → suc (length (cond b leases (x ∷ without_first test leases))) ≡ suc (length leases)
    by true is rest = refl
    by false is rest = ap suc (rest is)

swept_shorter : (old new : BookState) (c : ℕ) (id : RequestId) (t : Tag) → HasHistory old → IsSwept old new c id t → suc (length (account_in c new).leases) ≡ length (account_in c old).leases
swept_shorter old new c id t history swept =
    subst (λ (k : ℕ). suc (length (account_in k new).leases) ≡ length (account_in k old).leases) swept.client
    (ap (λ (a : Account). suc (length a.leases)) (entered_changes.swept old new id.client id.incarnation t.arena t.holding.range.base history swept.ended.entry)
    ∙ shorter (is_lease id.incarnation t.arena t.holding.range.base) (account_in id.client old).leases _ swept.ended.lease)

-- all leases of the client's older incarnations ended, one after another
record SweptAll {D : Type 0} (taken : Greeted) (old new : Picture) (a : HelloEnd D) : Type 0 where
  done : Ok (Welcome taken) ≡ a
  swept : List Tag
  sweeps : Sweeps taken.client swept old new
  standing : standing_of (account_in taken.client new.book) ≡ standing_of (account_in taken.client old.book)
  left : All (λ l. (account_in taken.client new.book).incarnation ≤ l.incarnation) (account_in taken.client new.book).leases
  picture : IsPicture new
  setup : SameSetup old new

module _ (D : Type 0) (taken : Greeted) (b : BookState) (s : LocalState) (a : HelloEnd D) where
  abbrev c : ℕ
  c = taken.client

  abbrev end : Picture → Picture
  end d = with_parts s (record d { book = b })

  abbrev Swept : Picture → Type 0
  Swept d = SweptAll taken d (end d) a

  abbrev SweepsAll : ℕ → Type 0
  SweepsAll turns = (d : Picture) → IsPicture d → length (account_in c d.book).leases < turns → RunsCall {D = D} d.tree (sweep_plan d.tree taken turns) d.book (parts_in d) b s a → Swept d

  clean : (d : Picture) → IsPicture d → All (λ l. (account_in c d.book).incarnation ≤ l.incarnation) (account_in c d.book).leases → d.book ≡ b → parts_in d ≡ s → Ok (Welcome taken) ≡ a → Swept d
  clean d is left books parts done = subst (λ (new : Picture). SweptAll taken d new a) (unchanged d b s is.held.cpus books parts) (record {
    done = done;
    swept = [];
    sweeps = refl;
    standing = refl;
    left = left;
    picture = is;
    setup = record { tree = refl; owned = refl };
  })

  module _ (turns : ℕ) (again : SweepsAll turns) (d : Picture) (is : IsPicture d) (few : length (account_in c d.book).leases < suc turns) where
    -- the segment went back, and so do those of the other sweeps
    went : (n : BookState) (id : RequestId) (t : Tag) → IsSwept d.book n c id t → (m : LocalState) → PlacedBack t (record d { book = n }) (with_parts m (record d { book = n })) → RunsCall {D = D} d.tree (sweep_plan d.tree taken turns) n m b s a → Swept d
    went n id t swept m back path =
        let between : Picture = record d { book = n } in
        let mid : Picture = with_parts m between in
        let less = swept_shorter d.book n c id t (is.book.entries, is.book.history) swept in
        let rest = again mid (record { held = back.held; book = swept_book d n c id t swept is }) (omega (arith, few, less))
        (subst (λ (p : LocalState). RunsCall {D = D} d.tree (sweep_plan d.tree taken turns) n p b s a) (sym (parts_written between m is.held.cpus)) path) in
        subst (λ (new : Picture). SweptAll taken d new a) (parts_again (record d { book = b }) m s) (record {
          done = rest.done;
          swept = t ∷ rest.swept;
          sweeps = (id, mid, swept, goes_back_from between mid d.book t back.back, rest.sweeps);
          standing = rest.standing ∙ swept_standing d n c id t swept is;
          left = rest.left;
          picture = rest.picture;
          setup = record { tree = rest.setup.tree; owned = rest.setup.owned ∙ back.setup.owned };
        })

    one : (n : BookState) (m : LocalState) (x : Result (Option (RequestId × Tag)) Stopped) → BookDoes D d.book (parts_in d) (Sweep c) x n m → RunsCall {D = D} d.tree (on_sweep d.tree taken (sweep_plan d.tree taken turns) x) n m b s a → Swept d
    one n m (Ok None) event path = clean d is event.0.0 (sym event.0.1 ∙ path.0) (sym event.1 ∙ path.1) path.2
    one n m (Ok (Some r)) event path =
        let split = path_under (SoundStep (nodes_of d.tree)) (BookDoes D) (place_plan d.tree r.1) (on_place (sweep_plan d.tree taken turns)) n (parts_in d) b s a
        (subst (λ (p : LocalState). RunsCall {D = D} d.tree (place_first d.tree r.1 (sweep_plan d.tree taken turns)) n p b s a) event.1 path) in
        let back = placed_back (record d { book = n }) r.1 (swept_in_hand d n c r.0 r.1 event.0 is) split.0 split.1 split.2 in
        went n r.0 r.1 event.0 split.0 back.1
        (subst (λ (e : ReturnEnd). RunsCall {D = D} d.tree (on_place (sweep_plan d.tree taken turns) e) n split.0 b s a) back.0 split.3)
    one n m (Err e) event path = absurd event.0

  sweeps_all : (turns : ℕ) → SweepsAll turns
  sweeps_all zero d is few path = absurd (omega (arith, few))
  sweeps_all (suc turns) d is few path = one turns (sweeps_all turns) d is few path.0 path.1 path.2 path.3 path.4

module _ (D : Type 0) (d : Picture) (h : HelloLine) (turns : ℕ) (is : IsPicture d) (enough : MOST_LEASES < turns) (b : BookState) (s : LocalState) (a : HelloEnd D) where
  abbrev new : Picture
  new = with_parts s (record d { book = b })

  abbrev by : Protocol → Greeted
  by stands = record { client = h.client; incarnation = h.incarnation; protocol = stands }

  welcomed : (n : BookState) (w : Greeted) → IsGreeted d.book n h.client h.incarnation h.protocol w → RunsCall {D = D} d.tree (sweep_plan d.tree (by (account_in h.client n).protocol) turns) n (parts_in d) b s a → AnswersHello h d new a
  welcomed n w greeted path =
      let picture = greeted_is_picture d n h.client h.incarnation h.protocol greeted.entry greeted.leases is in
      let few = (books_in_bounds.accounts n h.client (picture.book.entries, picture.book.history)).few in
      let all = sweeps_all D (by (account_in h.client n).protocol) b s a turns (record d { book = n }) picture (omega (arith, few, enough)) path in
      let protocol : (account_in h.client n).protocol ≡ (account_in h.client b).protocol = sym (ap (λ (x : StandingState). x.protocol) all.standing) in
      subst (AnswersHello h d new) all.done (record {
        step = (
          ap (λ (p : Protocol). record { client = h.client; incarnation = h.incarnation; protocol = p }) protocol,
          record {
            current = greeted.current;
            greeted = n;
            hello = greeted.entry;
            leases = greeted.leases;
            swept = all.swept;
            sweeps = all.sweeps;
            left = subst (λ (i : ℕ). All (λ l. i ≤ l.incarnation) (account_in h.client b).leases) (ap (λ (x : StandingState). x.incarnation) all.standing ∙ greeted_incarnation d n h.client h.incarnation h.protocol greeted.entry is) all.left;
          },
        );
        picture = all.picture;
        setup = record { tree = all.setup.tree; owned = all.setup.owned };
      })

  abbrev old_of : ℕ → Old
  old_of current = record { client = h.client; current = current }

  refused : (f : HelloFault D) → IsHelloFault (account_in h.client d.book).incarnation h.incarnation h.protocol f → HelloStep h d d (hello_refusal h f)
  refused (late.Old current) fault = (ap old_of fault.1, fault.0, refl)
  refused late.NoMemory fault = (refl, fault, refl)

  asked : (n : BookState) (m : LocalState) (x : Result Greeted (NotGreeted D)) → BookDoes D d.book (parts_in d) (Hello h.client h.incarnation h.protocol) x n m → RunsCall {D = D} d.tree (on_hello d.tree turns x) n m b s a → AnswersHello h d new a
  asked n m (Ok w) event path = welcomed n w event.0 (subst (λ (p : LocalState). RunsCall {D = D} d.tree (sweep_plan d.tree (by (account_in h.client n).protocol) turns) n p b s a) event.1 (subst (λ (g : Greeted). RunsCall {D = D} d.tree (sweep_plan d.tree g turns) n m b s a) event.0.told path))
  asked n m (Err (greeting.Late f)) event done =
      subst (AnswersHello h d new) done.2
      (subst (λ (p : Picture). AnswersHello h d p (Ok (Late f))) (unchanged d b s is.held.cpus (sym event.0.1 ∙ done.0) (sym event.1 ∙ done.1)) (record {
        step = refused f event.0.0;
        picture = is;
        setup = record { tree = refl; owned = refl };
      }))
  asked n m (Err greeting.Stopped) event done = absurd event.0

pub hello_runs : (D : Type 0) → HelloRuns D
hello_runs D d h turns b s a is enough path = asked D d h turns is enough b s a path.0 path.1 path.2 path.3 path.4
