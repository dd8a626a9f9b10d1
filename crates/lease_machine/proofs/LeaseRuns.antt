-- A lease's list of steps over a picture is a step of the lease machine.
use Rattle.std.proofs.Common.{◌≡◌, ◌≤◌, ◌∙◌, ℕ, refl, sym, subst, ap, inl, inr, List, [], ◌∷◌, Option, Some, None, Result, Ok, Err, length, slice_get}
use Rattle.std.proofs.lemmas.Option.{slice_get_within}
use Rattle.deed_core.specs.Tag.{Tag}
use Rattle.deed_core.specs.declared.requests.Request.{Request}
use Rattle.deed_core.specs.declared.segments.Route.{Route}
use Rattle.deed_core.specs.declared.segments.Route.TheVariants.{Direct}
use Rattle.deed_core.proofs.LawProofs.{slice_get_some}
use Rattle.arena_tree.specs.Chains.{quantum_in}
use Rattle.arena_tree.specs.Climbs.{ClimbEnd}
use Rattle.arena_tree.specs.Trees.{index_in, nodes_of}
use Rattle.arena_tree.proofs.LawProofs.{arena_read}
use Rattle.arena_tree.specs.declared.levels.Level.{Level}
use Rattle.arena_tree.specs.declared.part_faults.ClimbFault.TheVariants as climbing
use Rattle.tag_arena.specs.declared.faults.ArenaFault.TheVariants as carving
use Rattle.arena_tree.specs.declared.part_faults.Stopped.{Stopped}
use Rattle.arena_tree.specs.declared.trees.TreeArena.{TreeArena}
use Rattle.quantum_cache.specs.Caches.{chain_in}
use Rattle.lease_terms.specs.Requests.{RequestId}
use Rattle.lease_terms.specs.declared.refusals.Refusal.TheVariants as why
use Rattle.lease_proto.specs.declared.lines.Op.TheVariants as ops
use Rattle.lease_proto.specs.declared.lines.LeaseLine.{LeaseLine}
use Rattle.lease_proto.specs.Requests.{demand_of}
use Rattle.lease_book.specs.Answers.{IsNew, IsAnswer}
use Rattle.lease_book.specs.BookState.{BookState, account_in}
use Rattle.lease_book.specs.Calls.{IsGranted, IsRefused}
use Rattle.lease_book.specs.Entry.{Settled, Refuse}
use Rattle.lease_book.specs.Receipts.{ReceiptState}
use Rattle.lease_book.specs.declared.answers.Answer.{Answer}
use Rattle.lease_book.specs.declared.books.TheConstants.{MOST_LEASES}
use Rattle.lease_book.specs.declared.receipts.Terms.{Terms}
use Rattle.local_parts.specs.States.{LocalState}
use Rattle.local_calls.specs.Runs.{SoundStep}
use Rattle.lease_call.specs.Calls.{Look, Settle}
use Rattle.lease_call.specs.Leasing.{take_plan, on_take, on_settle, lease_at, lease_plan, on_look}
use Rattle.lease_call.specs.CallPlans.{Done}
use Rattle.lease_call.specs.Hands.{place_first}
use Rattle.lease_call.specs.Releasing.{CallEnd}
use Rattle.lease_call.specs.declared.call_faults.NotSettled.{NotSettled}
use Rattle.lease_call.specs.declared.call_faults.NotSettled.TheVariants as settling
use Rattle.lease_call.specs.declared.outcomes.Outcome.TheVariants as outcomes
use Rattle.lease_call.proofs.LawProofs.{path_under}
use Rattle.lease_history.specs.Told.{IsTellable, reply_to, reply_to_answer}
use Rattle.lease_machine.specs.CallLaws.{IsFromCaches}
use Rattle.lease_machine.specs.Chunks.{GoesBack, GoesBackBy}
use Rattle.lease_machine.specs.Conversations.{BookDoes, RunsCall, AnswersRequest}
use Rattle.lease_machine.specs.Held.{parts_in, with_parts}
use Rattle.lease_machine.specs.Machine.{NewLease}
use Rattle.lease_machine.specs.Moves.{Climbs, ClimbsInVain, Returns}
use Rattle.lease_machine.specs.Picture.{Picture, IsPicture, IsBookOf, Finds, SameSetup, IsHeld}
use Rattle.arena_tree.specs.Trees.{arena_named}
use Rattle.lease_machine.specs.Serving.{ServesWith, FallsBack}
use Rattle.lease_machine.proofs.BookMoves.{same_leases, book_enters, granted_is_picture}
use Rattle.lease_machine.proofs.Ending.{Ends, ended, alone, known_ends, refused_ends, answered_ends, refusal_ends}
use Rattle.lease_machine.proofs.KnownAnswers.{looked_up}
use Rattle.lease_machine.proofs.LeaseTaken.{index_within, taken_so}
use Rattle.lease_machine.proofs.Outcomes.{Outcome, answer_named, answer_told}
use Rattle.lease_machine.proofs.Placing.{PlacedBack, parts_written, parts_again, placed_told}
use Rattle.lease_machine.proofs.Rebooking.{serves_then, none_then, goes_back_from}
use Rattle.stock.specs.Spaces.{SpaceState}

-- what was climbed for came from no cache
climb_direct : (chain : List Level) (n : ℕ) (t : Tag) (old new : List SpaceState) → Climbs chain n t old new → t.route ≡ Direct
climb_direct [] n t old new c = absurd c
climb_direct (l ∷ up) n t old new c = elim c [
  | inl here ↦ ap (λ (x : Tag). x.route) here.does.segment
  | inr above ↦ ap (λ (x : Tag). x.route) above.1.3.does.segment
]

climbed_back : (chain : List Level) (n : ℕ) (t : Tag) (old mid new : List SpaceState) → Climbs chain n t old mid → Returns new t mid → ClimbsInVain chain n old new
climbed_back [] n t old mid new c back = absurd c
climbed_back (l ∷ up) n t old mid new c back = inr (inl (t, mid, c, back))

module _ (index : ℕ) (x : TreeArena) (q : Request) (t : Tag) (old mid new : Picture) where
  by_direct : t.route ≡ Direct → GoesBack t mid new → Returns new.spaces t mid.spaces × (new.cpus ≡ mid.cpus)
  by_direct route back = subst (λ (r : Route). GoesBackBy r t mid new) route back.1

  -- what served it went back
  falls_back : mid.book ≡ old.book → IsHeld (t ∷ []) mid → ServesWith index x q t old mid → GoesBack t mid new → FallsBack index x q old new
  falls_back book hand serves back = elim serves.from [
    | inl carved ↦
        let home = by_direct (ap (λ (y : Tag). y.route) carved.1.does.segment) back in
        inl (carved.0, inr (t, mid.spaces, carved.1, home.0), home.1 ∙ carved.2)
    | inr other ↦ inr (elim other [
      | inl climbed ↦
          let home = by_direct (climb_direct (chain_in old.tree index) q.size t old.spaces mid.spaces climbed.2) back in
          inl (climbed.0, climbed.1, climbed_back (chain_in old.tree index) q.size t old.spaces mid.spaces new.spaces climbed.2 home.0, home.1 ∙ climbed.3)
      | inr cached ↦ inr (cached.0, inr (inr (t, mid, book, hand, serves, back)))
    ])
  ]

abbrev terms_by : Request → ℕ → Terms
terms_by q quantum = record { quantum = quantum; request = q }

module _ (D : Type 0) (d : Picture) (id : RequestId) (l : LeaseLine) (is : IsPicture d) where
  abbrev Gone : BookState → LocalState → CallEnd D → Type 0
  Gone b s a = Ends D d id (ops.Lease l) is b s a

  module _ (fresh : IsNew (account_in id.client d.book) id) (index : ℕ) (x : TreeArena) (finds : Finds d l.arena index x) (m : LocalState) where
    -- the picture with the parts as they are by now
    abbrev mid : Picture
    mid = with_parts m d

    module _ (t : Tag) (served : IsFromCaches index x (demand_of l) d (Ok t) mid) where
      here_at : slice_get d.tree t.arena ≡ Some x
      here_at = ap (slice_get d.tree) served.2.arena ∙ finds.here

      granted : (b : BookState) (r : ReceiptState) → IsGranted d.book b id t (terms_by (demand_of l) x.quantum) r → Gone b m (Ok (outcomes.Settled r))
      granted b r given = (let new = with_parts m (record d { book = b }) in record {
        named = subst (λ (v : ReceiptState). IsTellable (length d.tree) v.reply) (sym given.receipt) (slice_get_within d.tree t.arena x here_at);
        step = inr (
          fresh,
          subst (λ (v : ReceiptState). NewLease id l d new (reply_to (arena_named d.tree) id v.reply)) (sym given.receipt) (record {
            index = index;
            arena = x;
            takes = record { finds = finds; good = served.0 };
            segment = t;
            serves = serves_then d mid b index x (demand_of l) t served.2;
            receipt = r;
            granted = given;
            reply = refl;
          }),
        );
        picture = granted_is_picture mid b id t (terms_by (demand_of l) x.quantum) r given served.3 is.book x here_at refl;
        setup = record { tree = served.4.tree; owned = served.4.owned };
      })

      -- the book took no lease
      abbrev Full : Type 0
      Full = MOST_LEASES ≤ length (account_in id.client d.book).leases

      module _ (b : BookState) (A : Type 0) (y : Answer D) (event : IsAnswer d.book b id (λ v. IsRefused d.book b id why.Leases v × Full) A y) where
        abbrev between : Picture
        between = with_parts m (record d { book = b })

        told : Outcome d.book b id why.Leases Full A (reply_to_answer (arena_named d.tree) id y)
        told = answer_told d.tree d.book b id why.Leases Full A fresh y event

        still_held : IsHeld (t ∷ []) between
        still_held = elim told [
          | inl o ↦ same_leases mid b (t ∷ []) o.1.leases served.3
          | inr o ↦ subst (λ (z : BookState). IsHeld (t ∷ []) (with_parts m (record d { book = z }))) (sym o.1) served.3
        ]

        kept_book : IsBookOf d.tree b
        kept_book = elim told [
          | inl o ↦ book_enters d.tree (Settled id (Refuse why.Leases)) d.book b o.1.entry tt is.book
          | inr o ↦ subst (λ (z : BookState). IsBookOf d.tree z) (sym o.1) is.book
        ]

        module _ (s : LocalState) (back : PlacedBack t between (with_parts s (record d { book = b }))) where
          abbrev new : Picture
          new = with_parts s (record d { book = b })

          went : GoesBack t mid new
          went = goes_back_from between new d.book t back.back

          kept_step : NewLease id l d new (reply_to_answer (arena_named d.tree) id y)
          kept_step = elim told [
            | inl o ↦ subst (NewLease id l d new) (sym o.3) (
              why.Leases,
              record { receipt = o.0; refused = o.1; reply = refl },
              (index, x, record { finds = finds; good = served.0 }, served.1, (t, mid, refl, served.3, served.2, went), o.2),
            )
            | inr o ↦ subst (NewLease id l d new) (sym o.2) (
              refl,
              record {
                index = index;
                arena = x;
                takes = record { finds = finds; good = served.0 };
                can = served.1;
                back = falls_back index x (demand_of l) t d mid new refl served.3 served.2 went;
                names = (refl, refl);
                book = o.1;
              },
            )
          ]

          kept : Gone b s (Ok (outcomes.Answered y))
          kept = record {
            named = answer_named d.tree d.book b id why.Leases Full A fresh y event;
            step = inr (fresh, kept_step);
            picture = record { held = back.held; book = kept_book };
            setup = record { tree = refl; owned = back.setup.owned ∙ served.4.owned };
          }

        not_leased : (c : BookState) (s : LocalState) (a : CallEnd D) → RunsCall {D = D} d.tree (place_first d.tree t (Done (Ok (outcomes.Answered y)))) b m c s a → Gone c s a
        not_leased c s a path =
            let (books, done, back) = placed_told between t still_held (outcomes.Answered y) b c s a
            (subst (λ (p : LocalState). RunsCall {D = D} d.tree (place_first d.tree t (Done (Ok (outcomes.Answered y)))) b p c s a) (sym (parts_written (record d { book = b }) m is.held.cpus)) path) in
            ended D d id (ops.Lease l) is b c s s (Ok (outcomes.Answered y)) a books refl done
            (kept s (subst (PlacedBack t between) (parts_again (record d { book = b }) m s) back))

      settled : (c : BookState) (s : LocalState) (a : CallEnd D) (b : BookState) (n : LocalState) (r : Result ReceiptState (NotSettled Tag D))
          → BookDoes D d.book m (Settle id t (terms_by (demand_of l) (quantum_in (nodes_of d.tree) index))) r b n → RunsCall d.tree (on_settle d.tree r) b n c s a → Gone c s a
      settled c s a b n (Ok r) event done =
          ended D d id (ops.Lease l) is b c m s (Ok (outcomes.Settled r)) a done.0 (sym event.1 ∙ done.1) done.2
          (granted b r (subst (λ (quantum : ℕ). IsGranted d.book b id t (terms_by (demand_of l) quantum) r) (arena_read d.tree index x finds.here).0 event.0))
      settled c s a b n (Err (settling.NotLeased y)) event rest =
          not_leased b _ y.answer event.0.1 c s a
          (subst (λ (p : LocalState). RunsCall {D = D} d.tree (place_first d.tree t (Done (Ok (outcomes.Answered y.answer)))) b p c s a) event.1
          (subst (λ (g : Tag). RunsCall {D = D} d.tree (place_first d.tree g (Done (Ok (outcomes.Answered y.answer)))) b n c s a) event.0.0 rest))
      settled c s a b n (Err (settling.Stopped g)) event done = absurd event.0

    -- by what came of the parts
    taken : (e : ClimbEnd) → IsFromCaches index x (demand_of l) d e mid → (c : BookState) (s : LocalState) (a : CallEnd D) → RunsCall d.tree (on_take d.tree id index (demand_of l) e) d.book m c s a → Gone c s a
    taken (Ok t) served c s a path = settled t served c s a path.0 path.1 path.2 path.3 path.4
    taken (Err (climbing.Refused carving.BadRequest)) bad c s a path =
        refusal_ends D d id (ops.Lease l) is m why.BadRequest
        (λ b y event. refused_ends D d id (ops.Lease l) is m (subst IsPicture (sym bad.1) is) (subst (SameSetup d) (sym bad.1) (record { tree = refl; owned = refl })) fresh why.BadRequest b (Unit {0}) y event
        (λ v refused e. (why.BadRequest, record { receipt = v; refused = refused; reply = refl }, (index, x, finds, bad.0, ap (λ (p : Picture). record p { book = b }) bad.1))))
        c s a path
    taken (Err (climbing.Refused carving.NoFit)) none c s a path =
        refusal_ends D d id (ops.Lease l) is m why.NoFit
        (λ b y event. refused_ends D d id (ops.Lease l) is m (record { held = none.2; book = is.book }) none.3 fresh why.NoFit b (Unit {0}) y event
        (λ v refused e. (why.NoFit, record { receipt = v; refused = refused; reply = refl }, (index, x, record { finds = finds; good = none.0 }, none_then d mid b index x (demand_of l) none.1))))
        c s a path
    taken (Err (climbing.Refused carving.NoMemory)) missed c s a path =
        ended D d id (ops.Lease l) is d.book c m s (Ok outcomes.Again) a path.0 path.1 path.2 (record {
          named = tt;
          step = inr (
            fresh,
            (
              refl,
              record {
                index = index;
                arena = x;
                takes = record { finds = finds; good = missed.0 };
                can = missed.1;
                back = missed.2;
                names = (refl, refl);
                book = refl;
              },
            ),
          );
          picture = record { held = missed.3; book = is.book };
          setup = missed.4;
        })
    taken (Err (climbing.Stuck t)) stuck c s a path = absurd stuck
    taken (Err (climbing.Stopped o)) stopped c s a path = absurd stopped

  -- a number that is new
  new_at : IsNew (account_in id.client d.book) id → (o : Option ℕ) → index_in l.arena d.tree ≡ o → (c : BookState) (s : LocalState) (a : CallEnd D) → RunsCall d.tree (lease_at d.tree id (demand_of l) o) d.book (parts_in d) c s a → Gone c s a
  new_at fresh None first c s a path =
      refusal_ends D d id (ops.Lease l) is (parts_in d) why.NoArena
      (λ b x event. answered_ends D d id (ops.Lease l) is b why.NoArena (Unit {0}) x event
      (λ v refused e. (why.NoArena, record { receipt = v; refused = refused; reply = refl }, (first, alone D d id (ops.Lease l) is b))))
      c s a path
  new_at fresh (Some index) first c s a path =
      let split = path_under (SoundStep (nodes_of d.tree)) (BookDoes D) (take_plan d.tree index (demand_of l)) (on_take d.tree id index (demand_of l)) d.book (parts_in d) c s a path in
      let here = slice_get_some d.tree index (index_within d.tree l.arena index first) in
      taken fresh index here.0 (record { first = first; here = here.1 }) split.0 split.1
      (taken_so d index here.0 (demand_of l) split.0 split.1 is.held here.1 split.2) c s a split.3

  looked : (c : BookState) (s : LocalState) (a : CallEnd D) (b : BookState) (n : LocalState) (x : Result (Option (Answer D)) Stopped) → BookDoes D d.book (parts_in d) (Look id) x b n
      → RunsCall d.tree (on_look (lease_at d.tree id (demand_of l) (index_in l.arena d.tree)) x) b n c s a → Gone c s a
  looked c s a b n (Ok None) event rest =
      new_at event.0.0 (index_in l.arena d.tree) refl c s a
      (subst (λ (p : LocalState). RunsCall {D = D} d.tree (lease_at d.tree id (demand_of l) (index_in l.arena d.tree)) d.book p c s a) event.1
      (subst (λ (z : BookState). RunsCall {D = D} d.tree (lease_at d.tree id (demand_of l) (index_in l.arena d.tree)) z n c s a) event.0.1 rest))
  looked c s a b n (Ok (Some x)) event done =
      let known = looked_up d.book id b x event.0 in
      ended D d id (ops.Lease l) is d.book c (parts_in d) s (Ok (outcomes.Answered x)) a (sym known.1 ∙ done.0) (sym event.1 ∙ done.1) done.2 (known_ends D d id (ops.Lease l) is x known.0)
  looked c s a b n (Err e) event done = absurd event.0

pub lease_runs : (D : Type 0) (d : Picture) (id : RequestId) (l : LeaseLine) (b : BookState) (s : LocalState) (a : CallEnd D) → IsPicture d → RunsCall d.tree (lease_plan d.tree id l) d.book (parts_in d) b s a → AnswersRequest id (ops.Lease l) d (with_parts s (record d { book = b })) a
lease_runs D d id l b s a is path = looked D d id l is b s a path.0 path.1 path.2 path.3 path.4
