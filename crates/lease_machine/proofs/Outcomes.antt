-- What a book answers to a request that isn't granted, and what is told of it.
use Rattle.std.proofs.Common.{◌≡◌, ◌∙◌, ◌⊎◌, refl, sym, subst, ap, inl, inr, List, length, arith}
use Rattle.arena_tree.specs.declared.trees.TreeArena.{TreeArena}
use Rattle.lease_terms.specs.Requests.{RequestId}
use Rattle.lease_terms.specs.declared.refusals.Refusal.{Refusal}
use Rattle.lease_proto.specs.declared.replies.Reply.{Reply}
use Rattle.lease_proto.specs.declared.replies.Reply.TheVariants as reply
use Rattle.lease_proto.specs.Requests.{again_of}
use Rattle.lease_book.specs.Account.{Account}
use Rattle.lease_book.specs.Answers.{IsNew, IsRepeated, IsAnswer}
use Rattle.lease_book.specs.BookState.{BookState, account_in}
use Rattle.lease_book.specs.Calls.{IsRefused}
use Rattle.lease_book.specs.Receipts.{ReceiptState}
use Rattle.lease_book.specs.declared.answers.Answer.{Answer}
use Rattle.lease_book.specs.declared.answers.Answer.TheVariants as answer
use Rattle.lease_history.specs.Told.{IsTellable, reply_to, reply_to_answer}
use Rattle.lease_machine.specs.Conversations.{CanName}
use Rattle.arena_tree.specs.Trees.{arena_named}
use Rattle.lease_machine.proofs.KnownAnswers.{IsKnown}

not_repeated : (book : BookState) (a : Account) (id : RequestId) (v : ReceiptState) → IsNew a id → IsRepeated book a id v → ⊥
not_repeated book a id v new rep = cc (sym new.unsettled ∙ rep.kept)

-- it is settled by this refusal, where E, or nothing is, where A
abbrev pub Outcome : BookState → BookState → RequestId → Refusal → Type 0 → Type 0 → Reply → Type 0
Outcome old new id refusal E A r =
    ((v : ReceiptState) × IsRefused old new id refusal v × E × (r ≡ reply.Refused (record { id = id; refusal = refusal })))
    ⊎ (A × (new ≡ old) × (r ≡ again_of id))

module _ {D : Type 0} (tree : List TreeArena) (old new : BookState) (id : RequestId) (refusal : Refusal) (E A : Type 0) (fresh : IsNew (account_in id.client old) id) where
  pub answer_named : (a : Answer D) → IsAnswer old new id (λ v. IsRefused old new id refusal v × E) A a → CanName tree a
  answer_named (answer.Kept v) is = absurd (not_repeated old (account_in id.client old) id v fresh is.0)
  answer_named (answer.Refused v) is = subst (λ (x : ReceiptState). IsTellable (length tree) x.reply) (sym is.0.receipt) tt
  answer_named (answer.Old current) is = tt
  answer_named (answer.Stale greatest) is = tt
  answer_named (answer.Gap low) is = tt
  answer_named answer.Again is = tt

  pub answer_told : (a : Answer D) → IsAnswer old new id (λ v. IsRefused old new id refusal v × E) A a → Outcome old new id refusal E A (reply_to_answer (arena_named tree) id a)
  answer_told (answer.Kept v) is = absurd (not_repeated old (account_in id.client old) id v fresh is.0)
  answer_told (answer.Refused v) is = inl (v, is.0, is.1, ap (λ (x : ReceiptState). reply_to (arena_named tree) id x.reply) is.0.receipt)
  answer_told (answer.Old current) is = absurd (is.0.other fresh.current)
  answer_told (answer.Stale greatest) is = absurd (omega (arith, fresh.above, is.0.below, is.0.last))
  answer_told (answer.Gap low) is = absurd (omega (arith, fresh.within, is.0.above, is.0.reached))
  answer_told answer.Again is = inr (is.0, is.1, refl)

-- the number isn't new, and nothing changed; or it is
pub known_or_new : {D : Type 0} (old new : BookState) (id : RequestId) (refusal : Refusal) (E : Type 0) (a : Answer D) → IsAnswer old new id (λ v. IsRefused old new id refusal v × E) ⊥ a → (IsKnown old id a × (new ≡ old)) ⊎ IsNew (account_in id.client old) id
known_or_new old new id refusal E (answer.Kept v) is = inl is
known_or_new old new id refusal E (answer.Old current) is = inl is
known_or_new old new id refusal E (answer.Stale greatest) is = inl is
known_or_new old new id refusal E (answer.Gap low) is = inl is
known_or_new old new id refusal E (answer.Refused v) is = inr is.0.new
known_or_new old new id refusal E answer.Again is = absurd is.0

-- with no reason beside it
pub with_reason : {D : Type 0} (old new : BookState) (id : RequestId) (refusal : Refusal) (a : Answer D) → IsAnswer old new id (IsRefused old new id refusal) ⊥ a → IsAnswer old new id (λ v. IsRefused old new id refusal v × Unit {0}) ⊥ a
with_reason old new id refusal (answer.Kept v) is = is
with_reason old new id refusal (answer.Old current) is = is
with_reason old new id refusal (answer.Stale greatest) is = is
with_reason old new id refusal (answer.Gap low) is = is
with_reason old new id refusal (answer.Refused v) is = (is, tt)
with_reason old new id refusal answer.Again is = absurd is.0
