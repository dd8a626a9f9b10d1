-- A client's line is answered by one line, which is read as a reply to it.
use Rattle.std.proofs.Common.{◌≡◌, ℕ, ◌≤◌, refl, sym, subst, ap, ◌∙◌, inl, inr, true, List, [], ◌∷◌, All, Some, Ok, arith}
use Rattle.std.proofs.lemmas.List.Elements.{All-tail}
use Rattle.deed_core.proofs.LawProofs.{all_at}
use Rattle.arena_tree.specs.declared.trees.TreeArena.{TreeArena}
use Rattle.lease_terms.specs.declared.values.TheConstants.{LARGEST}
use Rattle.lease_terms.specs.Names.{is_name}
use Rattle.lease_terms.specs.Ranges.{IsClient, IsOrdinal, IsQuantity}
use Rattle.lease_terms.specs.Requests.{RequestId, IsRequestId}
use Rattle.lease_proto.specs.declared.lines.Line.TheVariants as lines
use Rattle.lease_proto.specs.declared.lines.HelloLine.{HelloLine}
use Rattle.lease_proto.specs.declared.lines.Op.{Op}
use Rattle.lease_proto.specs.declared.lines.Op.TheVariants as ops
use Rattle.lease_proto.specs.declared.operators.ServedLine.TheVariants as served
use Rattle.lease_proto.specs.declared.replies.Reply.{Reply}
use Rattle.lease_proto.specs.declared.replies.Reply.TheVariants as reply
use Rattle.lease_proto.specs.declared.replies.Welcome.{Welcome}
use Rattle.lease_proto.specs.declared.replies.Old.{Old}
use Rattle.lease_proto.specs.declared.replies.Again.{Again}
use Rattle.lease_proto.specs.Replies.{reply_text, IsReply}
use Rattle.lease_proto.proofs.LawProofs.{replies_are_texts}
use Rattle.lease_proto.specs.Requests.{again_of}
use Rattle.lease_book.specs.declared.receipts.KeptReply.{KeptReply}
use Rattle.lease_book.specs.declared.receipts.KeptReply.TheVariants as kept
use Rattle.lease_book.specs.BookState.{account_in}
use Rattle.lease_book.specs.ClientLaws.{IsReplyInRange, IsInBounds}
use Rattle.lease_book.specs.Receipts.{Kept}
use Rattle.lease_book.specs.Replies.{greatest, kept_at}
use Rattle.lease_book.proofs.LawProofs.{books_in_bounds, larger_most}
use Rattle.lease_history.specs.Told.{reply_to, IsKnownReply}
use Rattle.lease_machine.specs.Picture.{Picture, IsPicture}
use Rattle.arena_tree.specs.Trees.{arena_named, name_or_none}
use Rattle.lease_machine.specs.Machine.{NewLease, NewRelease, NewRequest, RequestStep, HelloStep}
use Rattle.lease_machine.specs.AnswerLaws.{reply_bytes, IsKept, IsReadAs, AreNamed, ClientsGetReplies, NamesHello}
use Rattle.lease_machine.proofs.Repeats.{history_of, request_kept, kept_or}
use Rattle.lease_machine.proofs.Fitting.{kept_grants_fit}
use Rattle.lease_machine.proofs.Naming.{answer_names, line_is}
use Rattle.lease_machine.proofs.Numbers.{each_found}
use Rattle.lease_machine.proofs.Leases.{answer_to}

-- the greatest number is in its range
greatest_within : (ks : List Kept) → All (λ k. IsOrdinal k.number × IsReplyInRange k.reply) ks → greatest ks ≤ LARGEST
greatest_within [] all = omega arith
greatest_within (k ∷ ks) all =
    larger_most k.number (greatest ks) LARGEST (all 0 k (omega arith)).0.1 (greatest_within ks (All-tail (λ x. IsOrdinal x.number × IsReplyInRange x.reply) k ks all))

bounds : (d : Picture) → IsPicture d → (c : ℕ) → IsInBounds (account_in c d.book)
bounds d is c = books_in_bounds.accounts d.book c (history_of d is)

-- a reply that is kept is one that is written
pub kept_valid : (d : Picture) → IsPicture d → AreNamed d.tree → (id : RequestId) → IsRequestId id → (k : Kept) → kept_at id.number (account_in id.client d.book).kept ≡ Some k → IsReply (reply_to (arena_named d.tree) id k.reply)
kept_valid d is named id is_id k there = by k.reply refl
  where
    range : IsReplyInRange k.reply
    range = (each_found (λ (x : Kept). IsOrdinal x.number × IsReplyInRange x.reply) id.number (account_in id.client d.book).kept k (bounds d is id.client).kept there).1

    by : (r : KeptReply) → k.reply ≡ r → IsReply (reply_to (arena_named d.tree) id r)
    by (kept.Granted arena base len) e =
        let home = kept_grants_fit d id.client id.number k is there arena base len e in
        let name : home.0.name ≡ arena_named d.tree arena = ap name_or_none (sym home.2) in
        let in_range = subst IsReplyInRange e range in
        let some = in_range.some in
        let below = in_range.below in
        (is_id, ap is_name (sym name) ∙ all_at (λ (x : TreeArena). is_name x.name ≡ true) d.tree arena home.0 named home.2, omega (arith, below), omega (arith, below))
    by (kept.Released arena base) e = is_id
    by (kept.Refused why) e = is_id

module _ (old new : Picture) (is : IsPicture old) (is_new : IsPicture new) (tree : new.tree ≡ old.tree) (named : AreNamed old.tree) where
  module _ (id : RequestId) (is_id : IsRequestId id) where
    known_valid : (r : Reply) → ¬ IsKept r → IsKnownReply (arena_named old.tree) old.book id r → IsReply r
    known_valid (reply.Old o) not known =
        (subst IsClient (sym known.0) is_id.client, subst IsQuantity (sym known.1.named) (bounds old is id.client).incarnation)
    known_valid (reply.Stale o) not known =
        (subst IsRequestId (sym known.0) is_id, subst IsQuantity (sym known.1.last) (greatest_within (account_in id.client old.book).kept (bounds old is id.client).kept))
    known_valid (reply.Gap o) not known =
        (subst IsRequestId (sym known.0) is_id, subst IsQuantity (sym known.1.reached) (bounds old is id.client).low)
    known_valid (reply.Granted x) not known = absurd (not tt)
    known_valid (reply.Released x) not known = absurd (not tt)
    known_valid (reply.Refused x) not known = absurd (not tt)
    known_valid (reply.Welcome x) not known = subst IsReply (sym known.2) (kept_valid old is named id is_id (record { number = id.number; reply = known.0.reply; terms = known.0.terms }) known.1.kept)
    known_valid (reply.Again x) not known = subst IsReply (sym known.2) (kept_valid old is named id is_id (record { number = id.number; reply = known.0.reply; terms = known.0.terms }) known.1.kept)
    known_valid (reply.Error x) not known = subst IsReply (sym known.2) (kept_valid old is named id is_id (record { number = id.number; reply = known.0.reply; terms = known.0.terms }) known.1.kept)

    again_valid : IsReply (again_of id)
    again_valid = (is_id.client, is_id.incarnation, is_id.number.1)

    lease_valid : (l : _) (r : Reply) → ¬ IsKept r → NewLease id l old new r → IsReply r
    lease_valid l (reply.Again x) not does = subst IsReply (sym does.0) again_valid
    lease_valid l (reply.Granted x) not does = absurd (not tt)
    lease_valid l (reply.Refused x) not does = absurd (not tt)
    lease_valid l (reply.Released x) not does = absurd does
    lease_valid l (reply.Old x) not does = absurd does
    lease_valid l (reply.Stale x) not does = absurd does
    lease_valid l (reply.Gap x) not does = absurd does
    lease_valid l (reply.Welcome x) not does = absurd does
    lease_valid l (reply.Error x) not does = absurd does

    release_valid : (l : _) (r : Reply) → ¬ IsKept r → NewRelease id l old new r → IsReply r
    release_valid l (reply.Released x) not does = absurd (not tt)
    release_valid l (reply.Refused x) not does = absurd (not tt)
    release_valid l (reply.Granted x) not does = absurd does
    release_valid l (reply.Again x) not does = absurd does
    release_valid l (reply.Old x) not does = absurd does
    release_valid l (reply.Stale x) not does = absurd does
    release_valid l (reply.Gap x) not does = absurd does
    release_valid l (reply.Welcome x) not does = absurd does
    release_valid l (reply.Error x) not does = absurd does

    new_valid : (op : Op) (r : Reply) → ¬ IsKept r → NewRequest id op old new r → IsReply r
    new_valid (ops.Lease l) r not does = lease_valid l r not does
    new_valid (ops.Release l) r not does = release_valid l r not does

    pub request_valid : (op : Op) (r : Reply) → RequestStep id op old new r → IsReply r
    request_valid op r step = elim (kept_or r) [
      | inl settles ↦
          let was = request_kept old new id (history_of old is) op r step settles in
          let valid = kept_valid new is_new (subst AreNamed (sym tree) named) id is_id was.0 was.1.there in
          subst IsReply (sym (was.2 ∙ ap (λ (xs : List TreeArena). reply_to (arena_named xs) id was.0.reply) (sym tree))) valid
      | inr not ↦ elim step [
        | inl known ↦ known_valid r not known.0
        | inr does ↦ new_valid op r not does.1
      ]
    ]

  hello_valid : (h : HelloLine) → IsClient h.client × IsOrdinal h.incarnation → (r : Reply) → HelloStep h old new r → IsReply r × NamesHello h r
  hello_valid h is_h (reply.Welcome w) does = (
    subst (λ (x : Welcome). IsReply (reply.Welcome x)) (sym does.0) is_h,
    (ap (λ (x : Welcome). x.client) does.0, ap (λ (x : Welcome). x.incarnation) does.0),
  )
  hello_valid h is_h (reply.Old o) does = (
    subst (λ (x : Old). IsReply (reply.Old x)) (sym does.0) (is_h.0, (bounds old is h.client).incarnation),
    ap (λ (x : Old). x.client) does.0,
  )
  hello_valid h is_h (reply.Again a) does = (
    subst (λ (x : Again). IsReply (reply.Again x)) (sym does.0) (is_h.0, is_h.1, omega arith),
    does.0,
  )
  hello_valid h is_h (reply.Granted x) does = absurd does
  hello_valid h is_h (reply.Released x) does = absurd does
  hello_valid h is_h (reply.Refused x) does = absurd does
  hello_valid h is_h (reply.Stale x) does = absurd does
  hello_valid h is_h (reply.Gap x) does = absurd does
  hello_valid h is_h (reply.Error x) does = absurd does

-- what is written of a reply is read as it
pub read_as : (text : List ℕ) (r : Reply) → text ≡ reply_bytes r → IsReply r → IsReadAs text r
read_as text r is valid = (reply_text r, is, (replies_are_texts (reply_text r) r).1 (valid, refl))

pub clients_get_replies : ClientsGetReplies
clients_get_replies old new (lines.Hello h) line text is named read step =
    let a = answer_to old new line text (Ok (served.Client (lines.Hello h))) read step in
    let valid = hello_valid old new is step.picture step.setup.tree named h (line_is line (lines.Hello h) read) a.0 a.2 in
    (a.0, read_as text a.0 a.1 valid.0, valid.1)
clients_get_replies old new (lines.Request id op) line text is named read step =
    let a = answer_to old new line text (Ok (served.Client (lines.Request id op))) read step in
    let is_id = (line_is line (lines.Request id op) read).0 in
    let valid = request_valid old new is step.picture step.setup.tree named id is_id op a.0 a.2 in
    (a.0, read_as text a.0 a.1 valid, answer_names id op old new a.0 is_id.number.0 a.2)
