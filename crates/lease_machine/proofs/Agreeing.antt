-- A request is settled once, whatever lines come.
use Rattle.std.proofs.Common.{◌≡◌, ℕ, sym, subst, ap, ◌∙◌, inl, inr, List, [], ◌∷◌, ◌++◌, Option, Some, None, Ok, Err, Result}
use Rattle.std.proofs.lemmas.List.{append_assoc}
use Rattle.arena_tree.specs.declared.trees.TreeArena.{TreeArena}
use Rattle.lease_terms.specs.Requests.{RequestId}
use Rattle.lease_proto.specs.declared.faults.LineFault.{LineFault}
use Rattle.lease_proto.specs.declared.lines.Op.TheVariants as ops
use Rattle.lease_proto.specs.declared.operators.ServedLine.{ServedLine}
use Rattle.lease_proto.specs.Frames.{Frame}
use Rattle.lease_proto.specs.Operators.{served_of}
use Rattle.lease_book.specs.Entry.{Entry}
use Rattle.lease_book.specs.Receipts.{Kept}
use Rattle.lease_book.specs.History.{outcome_of}
use Rattle.lease_book.specs.Answers.{IsNew}
use Rattle.lease_book.specs.BookState.{BookState, IsHistory, Enters, account_in}
use Rattle.lease_book.proofs.LawProofs.{outcomes_stay}
use Rattle.lease_history.specs.Told.{reply_to}
use Rattle.lease_machine.specs.Picture.{Picture, IsPicture}
use Rattle.arena_tree.specs.Trees.{arena_named}
use Rattle.lease_machine.specs.Machine.{AnswersLine}
use Rattle.lease_machine.specs.Laws.{Runs}
use Rattle.lease_machine.specs.AnswerLaws.{reply_bytes, AnswersAgree, RecentRepeat, RepeatsFit}
use Rattle.lease_machine.proofs.Homes.{setup_only_grows}
use Rattle.lease_machine.proofs.Entering.{Comes, still, further, answer_comes}
use Rattle.lease_machine.proofs.Fitting.{grants_fit}
use Rattle.lease_machine.proofs.Numbers.{kept_outcome, new_outcome, recent_outcome}
use Rattle.lease_machine.proofs.Repeats.{IsKeptOf, history_of, known_kept, request_again, request_kept, request_answer, kept_or}

-- whatever history gives the old book, that and some entries more give the new one
abbrev Grows : BookState → BookState → Type 0
Grows old new = (es : List Entry) → IsHistory es old → (more : List Entry) × IsHistory (more ++ es) new

grows_same : (old new : BookState) → new ≡ old → Grows old new
grows_same old new same es is = ([], subst (IsHistory es) (sym same) is)

grows_by : (e : Entry) (old new : BookState) → Enters e old new → Grows old new
grows_by e old new entry es is = (e ∷ [], entry.history es is)

grows_then : (old mid new : BookState) → Grows old mid → Grows mid new → Grows old new
grows_then old mid new first second es is =
    let a = first es is in
    let b = second (a.0 ++ es) a.1 in
    (b.0 ++ a.0, subst (λ (xs : List Entry). IsHistory xs new) (sym (append_assoc b.0 a.0 es)) b.1)

-- by entries that lines make
comes_grow : (old new : BookState) → Comes old new → Grows old new
comes_grow _ _ (still old new e) = grows_same old new e
comes_grow _ _ (further e old mid new makes entry rest) = grows_then old mid new (grows_by e old mid entry) (comes_grow mid new rest)

abbrev BooksGrow : Picture → Picture → Type 0
BooksGrow old new = Grows old.book new.book

answer_grows : (x : Result ServedLine LineFault) (old new : Picture) (text : List ℕ) → AnswersLine old x text new → BooksGrow old new
answer_grows x old new text does = comes_grow old.book new.book (answer_comes x old new text does)

run_grows : (frames : List Frame) (old new : Picture) (text : List ℕ) → Runs old frames text new → BooksGrow old new
run_grows [] old new text run = grows_same old.book new.book (ap (λ (d : Picture). d.book) run.1)
run_grows (Ok line ∷ frames) old new text run = grows_then old.book run.2.book new.book (answer_grows (served_of line) old run.2 run.0 (run.3).answer) (run_grows frames run.2 new run.1 run.5)
run_grows (Err fault ∷ frames) old new text run = run_grows frames old new run.0 run.2

some_is_one : (o : Option Kept) (j k : Kept) → o ≡ Some j → o ≡ Some k → j ≡ k
some_is_one o j k a b = (let e : Some j ≡ Some k = sym a ∙ b in cc)

not_none : (o : Option Kept) (k : Kept) → o ≡ None → o ≡ Some k → ⊥
not_none None k none some = (let e : None ≡ Some k = some in cc)
not_none (Some j) k none some = (let e : Some j ≡ None = none in cc)

-- a number whose reply was kept is never new again
pub never_new : (mid late : Picture) (id : RequestId) (k : Kept) (frames : List Frame) (between : List ℕ) → IsPicture mid → IsKeptOf mid.book id k → Runs mid frames between late → IsNew (account_in id.client late.book) id → ⊥
never_new mid late id k frames between is was run fresh =
    let es : List Entry = is.book.entries in
    let outcome : outcome_of id es ≡ Some k = kept_outcome es mid.book id is.book.history was.current k was.there in
    let grown = run_grows frames mid late between run es is.book.history in
    let all : List Entry = grown.0 ++ es in
    not_none (outcome_of id all) k (new_outcome all late.book id grown.1 fresh.current fresh) (outcomes_stay.later grown.0 es id k grown.1.orderly outcome)

pub answers_agree : AnswersAgree
answers_agree old mid late new id op again line text between repeat bytes frames is read first run read_again second =
    let a = request_answer old mid id op line text read first in
    let b = request_answer late new id again repeat bytes read_again second in
    elim (kept_or a.0) [
      | inr not ↦ inr (inl (a.0, a.1, not))
      | inl is_kept ↦ elim (kept_or b.0) [
        | inr not ↦ inr (inr (b.0, b.1, not))
        | inl also ↦
            let was = request_kept old mid id (history_of old is) op a.0 a.2 is_kept in
            let es : List Entry = first.picture.book.entries in
            let outcome : outcome_of id es ≡ Some was.0 = kept_outcome es mid.book id first.picture.book.history was.1.current was.0 was.1.there in
            let grown = run_grows frames mid late between run es first.picture.book.history in
            let all : List Entry = grown.0 ++ es in
            let stays : outcome_of id all ≡ Some was.0 = outcomes_stay.later grown.0 es id was.0 grown.1.orderly outcome in
            elim b.2 [
              | inr fresh ↦ absurd (never_new mid late id was.0 frames between first.picture was.1 run fresh.0)
              | inl known ↦
                  let then_kept = known_kept late id b.0 also known.0 in
                  let one : then_kept.0 ≡ was.0 = some_is_one (outcome_of id all) then_kept.0 was.0 (kept_outcome all late.book id grown.1 then_kept.1.current then_kept.0 then_kept.1.there) stays in
                  let tree : late.tree ≡ old.tree = (setup_only_grows mid late frames between run).tree ∙ first.setup.tree in
                  let same : b.0 ≡ a.0 = then_kept.2 ∙ ap (λ (k : Kept). reply_to (arena_named late.tree) id k.reply) one ∙ ap (λ (xs : List TreeArena). reply_to (arena_named xs) id was.0.reply) tree ∙ sym was.2 in
                  inl (b.1 ∙ ap reply_bytes same ∙ sym a.1)
            ]
      ]
    ]

pub recent_repeat : RecentRepeat
recent_repeat old mid late new id op again line text between repeat bytes frames is read first run near read_again second =
    let a = request_answer old mid id op line text read first in
    let b = request_answer late new id again repeat bytes read_again second in
    elim (kept_or a.0) [
      | inr not ↦ inr (a.0, a.1, not)
      | inl is_kept ↦
          let was = request_kept old mid id (history_of old is) op a.0 a.2 is_kept in
          let es : List Entry = first.picture.book.entries in
          let outcome : outcome_of id es ≡ Some was.0 = kept_outcome es mid.book id first.picture.book.history was.1.current was.0 was.1.there in
          let grown = run_grows frames mid late between run es first.picture.book.history in
          let stays = outcomes_stay.later grown.0 es id was.0 grown.1.orderly outcome in
          let there = recent_outcome (grown.0 ++ es) late.book id grown.1 near.current near.near ∙ stays in
          let two = request_again late new (grown.0 ++ es, grown.1) id again was.0 b.0 (record { current = near.current; there = there }) b.2 in
          let tree : late.tree ≡ old.tree = (setup_only_grows mid late frames between run).tree ∙ first.setup.tree in
          let same : b.0 ≡ a.0 = two.0 ∙ ap (λ (xs : List TreeArena). reply_to (arena_named xs) id was.0.reply) tree ∙ sym was.2 in
          inl (b.1 ∙ ap reply_bytes same ∙ sym a.1, two.1)
    ]

pub repeats_fit : RepeatsFit
repeats_fit old mid late new id l again line text between repeat bytes frames is read fresh first run read_again second =
    elim (answers_agree old mid late new id (ops.Lease l) again line text between repeat bytes frames is read first run read_again second) [
      | inl same ↦ (let fits = grants_fit old mid id l line text is read fresh first in inl (fits.0, same ∙ fits.1, fits.2, fits.3))
      | inr unkept ↦ inr unkept
    ]
