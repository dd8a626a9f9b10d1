-- What becomes of all leases by each line and its answer.
use Rattle.std.specs.Prelude.{◌≡◌, ◌≢◌, ℕ, List, [], ◌∷◌, ◌++◌, filter, not, Some, Ok, Err}
use Rattle.std.specs.List.{find}
use Rattle.deed_core.specs.Tag.{Tag}
use Rattle.arena_tree.specs.Trees.{index_in}
use Rattle.lease_terms.specs.Requests.{RequestId}
use Rattle.lease_proto.specs.declared.faults.LineFault.{LineFault}
use Rattle.lease_proto.specs.declared.lines.Line.TheVariants as lines
use Rattle.lease_proto.specs.declared.lines.HelloLine.{HelloLine}
use Rattle.lease_proto.specs.declared.lines.LeaseLine.{LeaseLine}
use Rattle.lease_proto.specs.declared.lines.ReleaseLine.{ReleaseLine}
use Rattle.lease_proto.specs.declared.lines.Op.{Op}
use Rattle.lease_proto.specs.declared.lines.Op.TheVariants as ops
use Rattle.lease_proto.specs.declared.operators.OperatorLine.{OperatorLine}
use Rattle.lease_proto.specs.declared.operators.ServedLine.TheVariants as served
use Rattle.lease_proto.specs.declared.replies.Granted.{Granted}
use Rattle.lease_proto.specs.declared.replies.Reply.{Reply}
use Rattle.lease_proto.specs.declared.replies.Reply.TheVariants as reply
use Rattle.lease_proto.specs.Operators.{served_of}
use Rattle.lease_book.specs.Account.{Lease, is_lease, is_older, without_first, lease_of}
use Rattle.lease_book.specs.BookState.{account_in}
use Rattle.lease_book.specs.Answers.{IsNew}
use Rattle.lease_machine.specs.Picture.{Picture, IsPicture}
use Rattle.arena_tree.specs.Trees.{arena_named}
use Rattle.lease_machine.specs.Machine.{LeaseStep, welcome_by}
use Rattle.lease_machine.specs.AnswerLaws.{reply_bytes, IsRequestLine}

-- the leases of a client, in order of grant, each with its incarnation and number
abbrev pub leases_in : Picture → ℕ → List Lease
leases_in d c = (account_in c d.book).leases

-- each client has the leases that it had
abbrev pub LeasesStay : Picture → Picture → Type 0
LeasesStay old new = (c : ℕ) → leases_in new c ≡ leases_in old c

-- this client has these leases, and each other client those that it had
pub record LeasesBecome (c : ℕ) (leases : List Lease) (old new : Picture) : Type 0 where
  pub own : leases_in new c ≡ leases
  pub others : (d : ℕ) → d ≢ c → leases_in new d ≡ leases_in old d

-- the grant of a segment, as it is told
abbrev pub grant_told : Picture → RequestId → Tag → Granted
grant_told d id t = record {
  id = id;
  arena = arena_named d.tree t.arena;
  base = t.holding.range.base;
  len = t.holding.range.len;
}

-- a lease that is granted is one lease more, of the line's client, incarnation, number and arena,
-- with the base and length that the answer tells; any other answer changes none
abbrev pub LeaseMoves : RequestId → LeaseLine → Picture → Reply → Picture → Type 0
LeaseMoves id l old (reply.Granted g) new = (t : Tag) × (g ≡ grant_told old id t)
    × (g.arena ≡ l.arena)
    × LeasesBecome id.client (leases_in old id.client ++ lease_of id t ∷ []) old new
LeaseMoves id l old r new = LeasesStay old new

-- the client had a lease of its incarnation with this arena and base, and hasn't it any more
pub record LosesLease (id : RequestId) (l : ReleaseLine) (old new : Picture) : Type 0 where
  pub index : ℕ
  pub lease : Lease
  pub named : index_in l.arena old.tree ≡ Some index
  pub found : find (is_lease id.incarnation index l.base) (leases_in old id.client) ≡ Some lease
  pub less : LeasesBecome id.client
      (without_first (is_lease id.incarnation index l.base) (leases_in old id.client)) old new

-- a release that is answered `released` is one lease less; any other answer changes none
abbrev pub ReleaseMoves : RequestId → ReleaseLine → Picture → Reply → Picture → Type 0
ReleaseMoves id l old (reply.Released p) new = (p ≡ id) × LosesLease id l old new
ReleaseMoves id l old r new = LeasesStay old new

-- a hello that is welcome ends all leases of its client's older incarnations, and no other; any
-- other answer changes none
abbrev pub HelloMoves : HelloLine → Picture → Reply → Picture → Type 0
HelloMoves h old (reply.Welcome w) new = (w ≡ welcome_by new h)
    × LeasesBecome h.client
    (filter (λ l. not (is_older h.incarnation l)) (leases_in old h.client)) old new
HelloMoves h old r new = LeasesStay old new

-- Leases come by new leases that are granted; they go by new releases that are answered so, and by
-- hellos. No repeat changes one, no line of an operator, and none that is refused.
pub record LeasesMove : Type 0 where
  pub lease : (old new : Picture) (id : RequestId) (l : LeaseLine) (line text : List ℕ)
      → IsPicture old → IsRequestLine line id (ops.Lease l)
      → IsNew (account_in id.client old.book) id → LeaseStep old line text new
      → (r : Reply) × (text ≡ reply_bytes r) × LeaseMoves id l old r new
  pub release : (old new : Picture) (id : RequestId) (l : ReleaseLine) (line text : List ℕ)
      → IsPicture old → IsRequestLine line id (ops.Release l)
      → IsNew (account_in id.client old.book) id → LeaseStep old line text new
      → (r : Reply) × (text ≡ reply_bytes r) × ReleaseMoves id l old r new
  pub repeat : (old new : Picture) (id : RequestId) (op : Op) (line text : List ℕ)
      → IsRequestLine line id op → ¬ IsNew (account_in id.client old.book) id
      → LeaseStep old line text new → new ≡ old
  pub hello : (old new : Picture) (h : HelloLine) (line text : List ℕ) → IsPicture old
      → served_of line ≡ Ok (served.Client (lines.Hello h)) → LeaseStep old line text new
      → (r : Reply) × (text ≡ reply_bytes r) × HelloMoves h old r new
  pub operator : (old new : Picture) (o : OperatorLine) (line text : List ℕ)
      → served_of line ≡ Ok (served.Operator o) → LeaseStep old line text new → LeasesStay old new
  pub refused : (old new : Picture) (fault : LineFault) (line text : List ℕ)
      → served_of line ≡ Err fault → LeaseStep old line text new → new ≡ old
