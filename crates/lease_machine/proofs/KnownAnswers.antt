-- What a book answers where the number of a request isn't new.
use Rattle.std.proofs.Common.{◌≡◌, refl, sym, ap, length}
use Rattle.std.proofs.lemmas.Option.{slice_get_within}
use Rattle.lease_terms.specs.Requests.{RequestId}
use Rattle.lease_book.specs.declared.answers.Answer.{Answer}
use Rattle.lease_book.specs.declared.answers.Answer.TheVariants as answer
use Rattle.lease_book.specs.declared.receipts.KeptReply.{KeptReply}
use Rattle.lease_book.specs.declared.receipts.KeptReply.TheVariants as kept
use Rattle.lease_book.specs.Answers.{IsAnswer, IsRepeated, IsOld, IsStale, IsGap}
use Rattle.lease_book.specs.BookState.{BookState, account_in}
use Rattle.lease_book.specs.Receipts.{ReceiptState}
use Rattle.lease_history.specs.Told.{IsTellable, reply_to, reply_to_answer, IsKnownReply}
use Rattle.lease_machine.specs.Conversations.{CanName}
use Rattle.lease_machine.specs.Picture.{Picture, IsPicture}
use Rattle.arena_tree.specs.Trees.{arena_named}
use Rattle.lease_machine.proofs.Fitting.{kept_grants_fit}

module _ {D : Type 0} (book : BookState) (id : RequestId) where
  -- the answer by what a number is to the book, which isn't new
  abbrev pub IsKnown : Answer D → Type 0
  IsKnown (answer.Kept v) = IsRepeated book (account_in id.client book) id v
  IsKnown (answer.Old current) = IsOld (account_in id.client book) id current
  IsKnown (answer.Stale greatest) = IsStale (account_in id.client book) id greatest
  IsKnown (answer.Gap low) = IsGap (account_in id.client book) id low
  IsKnown (answer.Refused v) = ⊥
  IsKnown answer.Again = ⊥

  -- what the book has on it
  pub looked_up : (new : BookState) (a : Answer D) → IsAnswer book new id (λ (v : ReceiptState). ⊥) ⊥ a → IsKnown a × (new ≡ book)
  looked_up new (answer.Kept v) is = is
  looked_up new (answer.Old current) is = is
  looked_up new (answer.Stale greatest) is = is
  looked_up new (answer.Gap low) is = is
  looked_up new (answer.Refused v) is = absurd is
  looked_up new answer.Again is = absurd is.0

module _ (d : Picture) (id : RequestId) where
  -- a grant that is kept is of an arena of the tree
  kept_given : IsPicture d → (v : ReceiptState) → IsRepeated d.book (account_in id.client d.book) id v → IsTellable (length d.tree) v.reply
  kept_given is v rep = by v.reply refl
    where
      by : (r : KeptReply) → v.reply ≡ r → IsTellable (length d.tree) r
      by (kept.Granted arena base len) said =
          let fits = kept_grants_fit d id.client id.number (record { number = id.number; reply = v.reply; terms = v.terms }) is rep.kept arena base len said in
          slice_get_within d.tree arena fits.0 fits.2
      by (kept.Released arena base) said = tt
      by (kept.Refused why) said = tt

  pub known_named : {D : Type 0} → IsPicture d → (a : Answer D) → IsKnown d.book id a → CanName d.tree a
  known_named is (answer.Kept v) known = kept_given is v known
  known_named is (answer.Refused v) known = absurd known
  known_named is (answer.Old current) known = tt
  known_named is (answer.Stale greatest) known = tt
  known_named is (answer.Gap low) known = tt
  known_named is answer.Again known = tt

  kept_known : (v : ReceiptState) → IsRepeated d.book (account_in id.client d.book) id v → IsKnownReply (arena_named d.tree) d.book id (reply_to (arena_named d.tree) id v.reply)
  kept_known v rep = by v.reply refl
    where
      by : (k : KeptReply) → v.reply ≡ k → IsKnownReply (arena_named d.tree) d.book id (reply_to (arena_named d.tree) id k)
      by (kept.Granted arena base len) said = (v, rep, ap (reply_to (arena_named d.tree) id) (sym said))
      by (kept.Released arena base) said = (v, rep, ap (reply_to (arena_named d.tree) id) (sym said))
      by (kept.Refused why) said = (v, rep, ap (reply_to (arena_named d.tree) id) (sym said))

  pub known_told : {D : Type 0} (a : Answer D) → IsKnown d.book id a → IsKnownReply (arena_named d.tree) d.book id (reply_to_answer (arena_named d.tree) id a)
  known_told (answer.Kept v) known = kept_known v known
  known_told (answer.Refused v) known = absurd known
  known_told (answer.Old current) known = (refl, known)
  known_told (answer.Stale greatest) known = (refl, known)
  known_told (answer.Gap low) known = (refl, known)
  known_told answer.Again known = absurd known
