-- How a request ends, by what the book answered.
use Rattle.std.proofs.Common.{◌≡◌, ◌∙◌, refl, sym, subst, ap, inl, inr, List, Result, Ok, Err}
use Rattle.lease_terms.specs.Requests.{RequestId}
use Rattle.lease_terms.specs.declared.refusals.Refusal.{Refusal}
use Rattle.arena_tree.specs.declared.part_faults.Stopped.{Stopped}
use Rattle.lease_proto.specs.declared.lines.Op.{Op}
use Rattle.lease_proto.specs.declared.replies.Reply.TheVariants as reply
use Rattle.lease_book.specs.Answers.{IsNew, IsAnswer}
use Rattle.lease_book.specs.BookState.{BookState, account_in}
use Rattle.lease_book.specs.Calls.{IsRefused}
use Rattle.lease_book.specs.Receipts.{ReceiptState}
use Rattle.lease_book.specs.declared.answers.Answer.{Answer}
use Rattle.local_parts.specs.States.{LocalState}
use Rattle.lease_call.specs.Calls.{Refuse}
use Rattle.lease_call.specs.Releasing.{CallEnd, on_refuse, refuse_plan}
use Rattle.lease_call.specs.declared.outcomes.Outcome.TheVariants.{Answered}
use Rattle.lease_machine.specs.Conversations.{BookDoes, RunsCall, AnswersRequest}
use Rattle.lease_machine.specs.Held.{parts_in, with_parts}
use Rattle.lease_machine.specs.Machine.{NewRequest}
use Rattle.lease_machine.specs.Picture.{NumberedCpu, Picture, IsPicture, SameSetup, BookAlone}
use Rattle.lease_machine.proofs.BookMoves.{refused_is_picture}
use Rattle.lease_machine.proofs.KnownAnswers.{IsKnown, known_named, known_told}
use Rattle.lease_machine.proofs.Outcomes.{answer_named, answer_told, known_or_new, with_reason}
use Rattle.lease_machine.proofs.Placing.{own_cpus}

module _ (D : Type 0) (d : Picture) (id : RequestId) (op : Op) (is : IsPicture d) where
  -- with this book and these parts the request ended with a
  abbrev pub Ends : BookState → LocalState → CallEnd D → Type 0
  Ends b s a = AnswersRequest id op d (with_parts s (record d { book = b })) a

  pub ended : (b c : BookState) (s t : LocalState) (x a : CallEnd D) → b ≡ c → s ≡ t → x ≡ a → Ends b s x → Ends c t a
  ended b c s t x a books parts done end =
      subst (λ (z : CallEnd D). Ends c t z) done (subst (λ (z : LocalState). Ends c z x) parts (subst (λ (z : BookState). Ends z s x) books end))

  -- with the parts as they were
  pub alone : (b : BookState) → BookAlone d (with_parts (parts_in d) (record d { book = b }))
  alone b = ap (λ (cs : List NumberedCpu). record d { book = b; cpus = cs }) (own_cpus d is.held.cpus)

  same_picture : IsPicture (with_parts (parts_in d) d)
  same_picture = subst IsPicture (sym (alone d.book)) is

  -- the number is settled already
  pub known_ends : (x : Answer D) → IsKnown d.book id x → Ends d.book (parts_in d) (Ok (Answered x))
  known_ends x known = subst (λ (new : Picture). AnswersRequest id op d new (Ok (Answered x))) (sym (alone d.book)) (record {
    named = known_named d id is x known;
    step = inl (known_told d id x known, refl);
    picture = is;
    setup = record { tree = refl; owned = refl };
  })

  -- what a new request's refusal is to the machine
  abbrev pub Refuses : LocalState → BookState → Refusal → Type 0 → Type 0
  Refuses m b why E = (v : ReceiptState) → IsRefused d.book b id why v → E
      → NewRequest id op d (with_parts m (record d { book = b })) (reply.Refused (record { id = id; refusal = why }))

  module _ (m : LocalState) (picture : IsPicture (with_parts m d)) (setup : SameSetup d (with_parts m d)) (fresh : IsNew (account_in id.client d.book) id) (why : Refusal) where
    pub refused_ends : (b : BookState) (E : Type 0) (x : Answer D) → IsAnswer d.book b id (λ v. IsRefused d.book b id why v × E) ⊥ x → Refuses m b why E → Ends b m (Ok (Answered x))
    refused_ends b E x event new =
        let told = answer_told d.tree d.book b id why E ⊥ fresh x event in
        record {
          named = answer_named d.tree d.book b id why E ⊥ fresh x event;
          step = inr (
            fresh,
            elim told [
              | inl o ↦ subst (NewRequest id op d (with_parts m (record d { book = b }))) (sym o.3) (new o.0 o.1 o.2)
              | inr o ↦ absurd o.0
            ],
          );
          picture = elim told [
            | inl o ↦ refused_is_picture (with_parts m d) b id why o.0 o.1 picture
            | inr o ↦ absurd o.0
          ];
          setup = record { tree = setup.tree; owned = setup.owned };
        }

  -- the book's answer, where nothing but the book changed
  pub answered_ends : (b : BookState) (why : Refusal) (E : Type 0) (x : Answer D) → IsAnswer d.book b id (λ v. IsRefused d.book b id why v × E) ⊥ x → Refuses (parts_in d) b why E → Ends b (parts_in d) (Ok (Answered x))
  answered_ends b why E x event new = elim (known_or_new d.book b id why E x event) [
    | inl k ↦ subst (λ (z : BookState). Ends z (parts_in d) (Ok (Answered x))) (sym k.1) (known_ends x k.0)
    | inr fresh ↦ refused_ends (parts_in d) same_picture (record { tree = refl; owned = refl }) fresh why b E x event new
  ]

  -- the book refuses, and that is the end
  module _ (m : LocalState) (why : Refusal) (end : (b : BookState) (x : Answer D) → IsAnswer d.book b id (λ v. IsRefused d.book b id why v × Unit {0}) ⊥ x → Ends b m (Ok (Answered x))) (c : BookState) (s : LocalState) (a : CallEnd D) where
    refused : (b : BookState) (n : LocalState) (x : Result (Answer D) Stopped) → BookDoes D d.book m (Refuse id why) x b n → (b ≡ c) × (n ≡ s) × (on_refuse x ≡ a) → Ends c s a
    refused b n (Ok x) event done =
        ended b c m s (Ok (Answered x)) a done.0 (sym event.1 ∙ done.1) done.2 (end b x (with_reason d.book b id why x event.0))
    refused b n (Err e) event done = absurd event.0

    pub refusal_ends : RunsCall d.tree (refuse_plan id why) d.book m c s a → Ends c s a
    refusal_ends path = refused path.0 path.1 path.2 path.3 path.4
