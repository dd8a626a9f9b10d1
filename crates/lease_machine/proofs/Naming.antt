-- A request is answered by a reply to it.
use Rattle.std.proofs.Common.{◌≡◌, ℕ, ◌≤◌, refl, sym, subst, ap, inl, inr, List, Bool, false, if◌then◌else◌, ◌==◌, Some, None, Ok, arith}
use Rattle.std.proofs.lemmas.Bool.{ne_eqb}
use Rattle.lease_terms.specs.Requests.{RequestId}
use Rattle.lease_proto.specs.declared.lines.Line.{Line}
use Rattle.lease_proto.specs.declared.lines.Op.{Op}
use Rattle.lease_proto.specs.declared.lines.Op.TheVariants as ops
use Rattle.lease_proto.specs.declared.operators.ServedLine.TheVariants as served
use Rattle.lease_proto.specs.declared.replies.Reply.{Reply}
use Rattle.lease_proto.specs.declared.replies.Reply.TheVariants as reply
use Rattle.lease_proto.specs.Operators.{served_of}
use Rattle.lease_proto.specs.Requests.{demand_of, again_of}
use Rattle.lease_proto.specs.Texts.{IsLine}
use Rattle.lease_proto.proofs.LawProofs.{lines_are_texts, clients_are_served}
use Rattle.lease_book.specs.declared.receipts.KeptReply.{KeptReply}
use Rattle.lease_book.specs.declared.receipts.KeptReply.TheVariants as kept
use Rattle.lease_book.specs.Entry.{Grant, kept_reply_of}
use Rattle.lease_history.specs.Told.{reply_to, IsKnownReply}
use Rattle.lease_machine.specs.Picture.{Picture}
use Rattle.arena_tree.specs.Trees.{arena_named}
use Rattle.lease_machine.specs.Machine.{NewLease, NewRelease, NewRequest, RequestStep}
use Rattle.lease_machine.specs.AnswerLaws.{NamesRequest}

-- what is read of a line is in its ranges
pub line_is : (line : List ℕ) (l : Line) → served_of line ≡ Ok (served.Client l) → IsLine l
line_is line l read = ((lines_are_texts line l).0 ((clients_are_served line l).0 read)).0

kept_names : (names : ℕ → List ℕ) (id : RequestId) (k : KeptReply) (r : Reply) → r ≡ reply_to names id k → NamesRequest id r
kept_names names id (kept.Granted arena base len) r is = subst (NamesRequest id) (sym is) refl
kept_names names id (kept.Released arena base) r is = subst (NamesRequest id) (sym is) refl
kept_names names id (kept.Refused why) r is = subst (NamesRequest id) (sym is) refl

known_names : (d : Picture) (id : RequestId) (r : Reply) → IsKnownReply (arena_named d.tree) d.book id r → NamesRequest id r
known_names d id (reply.Old o) known = known.0
known_names d id (reply.Stale o) known = ap Some known.0
known_names d id (reply.Gap o) known = ap Some known.0
known_names d id (reply.Granted x) known = kept_names (arena_named d.tree) id known.0.reply (reply.Granted x) known.2
known_names d id (reply.Released x) known = kept_names (arena_named d.tree) id known.0.reply (reply.Released x) known.2
known_names d id (reply.Refused x) known = kept_names (arena_named d.tree) id known.0.reply (reply.Refused x) known.2
known_names d id (reply.Welcome x) known = kept_names (arena_named d.tree) id known.0.reply (reply.Welcome x) known.2
known_names d id (reply.Again x) known = kept_names (arena_named d.tree) id known.0.reply (reply.Again x) known.2
known_names d id (reply.Error x) known = kept_names (arena_named d.tree) id known.0.reply (reply.Error x) known.2

again_names : (id : RequestId) (r : Reply) → 1 ≤ id.number → r ≡ again_of id → NamesRequest id r
again_names id r some is =
    let none : (id.number == 0) ≡ false = ne_eqb id.number 0 (λ e. omega (arith, e, some)) in
    let named : NamesRequest id (again_of id) = ap (λ (b : Bool). if b then None else Some id) none in
    subst (NamesRequest id) (sym is) named

module _ (id : RequestId) (old new : Picture) (some : 1 ≤ id.number) where
  lease_names : (l : _) (r : Reply) → NewLease id l old new r → NamesRequest id r
  lease_names l (reply.Granted g) does = kept_names (arena_named old.tree) id (kept_reply_of (Grant does.segment (record { quantum = does.arena.quantum; request = demand_of l }))) (reply.Granted g) does.reply
  lease_names l (reply.Refused x) does = kept_names (arena_named old.tree) id (kept.Refused does.0) (reply.Refused x) does.1.reply
  lease_names l (reply.Again x) does = again_names id (reply.Again x) some does.0
  lease_names l (reply.Released x) does = absurd does
  lease_names l (reply.Old x) does = absurd does
  lease_names l (reply.Stale x) does = absurd does
  lease_names l (reply.Gap x) does = absurd does
  lease_names l (reply.Welcome x) does = absurd does
  lease_names l (reply.Error x) does = absurd does

  release_names : (l : _) (r : Reply) → NewRelease id l old new r → NamesRequest id r
  release_names l (reply.Released p) does = ap Some does.0
  release_names l (reply.Refused x) does = kept_names (arena_named old.tree) id (kept.Refused does.0) (reply.Refused x) does.1.reply
  release_names l (reply.Granted x) does = absurd does
  release_names l (reply.Again x) does = absurd does
  release_names l (reply.Old x) does = absurd does
  release_names l (reply.Stale x) does = absurd does
  release_names l (reply.Gap x) does = absurd does
  release_names l (reply.Welcome x) does = absurd does
  release_names l (reply.Error x) does = absurd does

  new_names : (op : Op) (r : Reply) → NewRequest id op old new r → NamesRequest id r
  new_names (ops.Lease l) r does = lease_names l r does
  new_names (ops.Release l) r does = release_names l r does

-- whatever its number
pub answer_names : (id : RequestId) (op : Op) (old new : Picture) (r : Reply) → 1 ≤ id.number → RequestStep id op old new r → NamesRequest id r
answer_names id op old new r some step = elim step [
  | inl known ↦ known_names old id r known.0
  | inr does ↦ new_names id old new some op r does.1
]
