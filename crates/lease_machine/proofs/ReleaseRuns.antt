-- A release's list of steps over a picture is a step of the lease machine.
use Rattle.std.proofs.Common.{◌≡◌, ◌<◌, ◌∙◌, ℕ, refl, sym, subst, inr, [], ◌∷◌, Option, Some, None, Result, Ok, Err, length}
use Rattle.std.specs.List.{find}
use Rattle.deed_core.specs.Tag.{Tag}
use Rattle.deed_core.proofs.LawProofs.{slice_get_some}
use Rattle.arena_tree.specs.Trees.{index_in}
use Rattle.lease_terms.specs.Requests.{RequestId}
use Rattle.lease_terms.specs.declared.refusals.Refusal.TheVariants as why
use Rattle.lease_proto.specs.declared.lines.Op.TheVariants as ops
use Rattle.lease_proto.specs.declared.lines.ReleaseLine.{ReleaseLine}
use Rattle.lease_book.specs.Account.{is_lease}
use Rattle.lease_book.specs.BookState.{BookState, account_in}
use Rattle.lease_book.specs.Calls.{IsReleased}
use Rattle.lease_book.specs.Receipts.{ReceiptState}
use Rattle.local_parts.specs.States.{LocalState}
use Rattle.lease_call.specs.Calls.{Release}
use Rattle.lease_call.specs.CallPlans.{Done}
use Rattle.lease_call.specs.Hands.{place_first}
use Rattle.lease_call.specs.Releasing.{CallEnd, on_release, release_at, release_plan}
use Rattle.lease_call.specs.declared.call_faults.NotReleased.{NotReleased}
use Rattle.lease_call.specs.declared.call_faults.NotReleased.TheVariants as releasing
use Rattle.lease_call.specs.declared.outcomes.Outcome.TheVariants.{Settled, Answered}
use Rattle.lease_history.specs.Told.{IsTellable, reply_to}
use Rattle.lease_machine.specs.Conversations.{BookDoes, RunsCall, AnswersRequest}
use Rattle.lease_machine.specs.Held.{parts_in, with_parts}
use Rattle.lease_machine.specs.Machine.{RequestStep}
use Rattle.lease_machine.specs.Picture.{Picture, IsPicture, IsHeld}
use Rattle.arena_tree.specs.Trees.{arena_named}
use Rattle.lease_machine.proofs.BookMoves.{released_in_hand, released_book}
use Rattle.lease_machine.proofs.Ending.{Ends, ended, alone, answered_ends, refusal_ends}
use Rattle.lease_machine.proofs.HeldLaws.{hand_is_local}
use Rattle.lease_machine.proofs.Placing.{placed_told}
use Rattle.lease_machine.proofs.Rebooking.{goes_back_from}

module _ (D : Type 0) (d : Picture) (id : RequestId) (l : ReleaseLine) (is : IsPicture d) where
  abbrev Gone : BookState → LocalState → CallEnd D → Type 0
  Gone b s a = Ends D d id (ops.Release l) is b s a

  unnamed : index_in l.arena d.tree ≡ None → (c : BookState) (s : LocalState) (a : CallEnd D) → RunsCall d.tree (release_at d.tree id l.base None) d.book (parts_in d) c s a → Gone c s a
  unnamed none c s a path =
      refusal_ends D d id (ops.Release l) is (parts_in d) why.NoArena
      (λ b x event. answered_ends D d id (ops.Release l) is b why.NoArena (Unit {0}) x event
      (λ v refused e. (why.NoArena, record { receipt = v; refused = refused; reply = refl }, none, alone D d id (ops.Release l) is b)))
      c s a path

  module _ (arena : ℕ) (first : index_in l.arena d.tree ≡ Some arena) (c : BookState) (s : LocalState) (a : CallEnd D) (b : BookState) where
    module _ (v : ReceiptState) (t : Tag) (released : IsReleased d.book b id arena l.base v t) where
      abbrev between : Picture
      between = record d { book = b }

      held : IsHeld (t ∷ []) between
      held = released_in_hand d b id arena l.base v t released is

      within : arena < length d.tree
      within = subst (λ (n : ℕ). n < length d.tree) released.of_arena (hand_is_local between t held).1

      -- the segment went back
      went : RunsCall {D = D} d.tree (place_first d.tree t (Done (Ok (Settled v)))) b (parts_in d) c s a → Gone c s a
      went path =
          let (books, done, back) = placed_told between t held (Settled v) b c s a path in
          let here = slice_get_some d.tree arena within in
          let new = with_parts s between in
          ended D d id (ops.Release l) is b c s s (Ok (Settled v)) a books refl done (record {
            named = subst (λ (x : ReceiptState). IsTellable (length d.tree) x.reply) (sym released.receipt) tt;
            step = subst (λ (x : ReceiptState). RequestStep id (ops.Release l) d new (reply_to (arena_named d.tree) id x.reply)) (sym released.receipt)
                (inr (
                  released.new,
                  (
                    refl,
                    record {
                      index = arena;
                      arena = here.0;
                      finds = record { first = first; here = here.1 };
                      segment = t;
                      receipt = v;
                      released = released;
                      back = goes_back_from between new d.book t back.back;
                    },
                  ),
                ));
            picture = record { held = back.held; book = released_book d b id arena l.base v t released is };
            setup = record { tree = back.setup.tree; owned = back.setup.owned };
          })

    named : (n : LocalState) (x : Result (ReceiptState × Tag) (NotReleased D)) → BookDoes D d.book (parts_in d) (Release id arena l.base) x b n → RunsCall d.tree (on_release d.tree x) b n c s a → Gone c s a
    named n (Ok r) event rest = went r.0 r.1 event.0 (subst (λ (z : LocalState). RunsCall {D = D} d.tree (place_first d.tree r.1 (Done (Ok (Settled r.0)))) b z c s a) event.1 rest)
    named n (Err (releasing.Answered x)) event done =
        ended D d id (ops.Release l) is b c (parts_in d) s (Ok (Answered x)) a done.0 (sym event.1 ∙ done.1) done.2
        (answered_ends D d id (ops.Release l) is b why.NotYours (find (is_lease id.incarnation arena l.base) (account_in id.client d.book).leases ≡ None) x event.0
        (λ v refused gone. (why.NotYours, record { receipt = v; refused = refused; reply = refl }, (arena, first, gone), alone D d id (ops.Release l) is b)))
    named n (Err releasing.Stopped) event done = absurd event.0

  at : (o : Option ℕ) → index_in l.arena d.tree ≡ o → (c : BookState) (s : LocalState) (a : CallEnd D) → RunsCall d.tree (release_at d.tree id l.base o) d.book (parts_in d) c s a → Gone c s a
  at None first c s a path = unnamed first c s a path
  at (Some arena) first c s a path = named arena first c s a path.0 path.1 path.2 path.3 path.4

pub release_runs : (D : Type 0) (d : Picture) (id : RequestId) (l : ReleaseLine) (b : BookState) (s : LocalState) (a : CallEnd D) → IsPicture d → RunsCall d.tree (release_plan d.tree id l) d.book (parts_in d) b s a → AnswersRequest id (ops.Release l) d (with_parts s (record d { book = b })) a
release_runs D d id l b s a is path = at D d id l is (index_in l.arena d.tree) refl b s a path
