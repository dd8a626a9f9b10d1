-- What two requests are granted doesn't overlap, while the first lease stands.
use Rattle.std.specs.Prelude.{◌≡◌, ◌≢◌, ◌⊎◌, ℕ, ◌<◌, List, [], Contains, slice_get, Some, None, Ok}
use Rattle.deed_core.specs.Extent.{Extent, Covers}
use Rattle.arena_tree.specs.declared.trees.TreeArena.{TreeArena}
use Rattle.arena_tree.specs.Trees.{index_in}
use Rattle.lease_terms.specs.Requests.{RequestId}
use Rattle.lease_terms.specs.declared.protocols.Protocol.{Protocol}
use Rattle.lease_terms.specs.declared.protocols.Protocol.TheVariants.{One}
use Rattle.lease_proto.specs.declared.lines.Line.TheVariants as lines
use Rattle.lease_proto.specs.declared.lines.HelloLine.{HelloLine}
use Rattle.lease_proto.specs.declared.lines.ReleaseLine.{ReleaseLine}
use Rattle.lease_proto.specs.declared.lines.Op.{Op}
use Rattle.lease_proto.specs.declared.lines.Op.TheVariants as ops
use Rattle.lease_proto.specs.declared.operators.ServedLine.TheVariants as served
use Rattle.lease_proto.specs.declared.replies.Granted.{Granted}
use Rattle.lease_proto.specs.declared.replies.Reply.TheVariants as reply
use Rattle.lease_proto.specs.Frames.{Frame}
use Rattle.lease_proto.specs.Operators.{served_of}
use Rattle.lease_proto.specs.Serving.{ServesLines}
use Rattle.lease_book.specs.Account.{Lease, granted_request}
use Rattle.lease_book.specs.Answers.{IsNew}
use Rattle.lease_book.specs.BookState.{account_in}
use Rattle.lease_machine.specs.Picture.{Picture, IsPicture}
use Rattle.lease_machine.specs.Machine.{LeaseStep}
use Rattle.lease_machine.specs.Laws.{Runs}
use Rattle.lease_machine.specs.AnswerLaws.{reply_bytes, IsRequestLine, IsReadAs, AreNamed}
use Rattle.lease_machine.specs.LeaseLaws.{leases_in}

-- the client still has the lease that the request was granted
pub record LeaseStands (d : Picture) (id : RequestId) : Type 0 where
  pub lease : Lease
  pub held : Contains (leases_in d id.client) lease
  pub own : granted_request id.client lease ≡ id

-- the line is a request, and is answered with this grant: it is new, or its client asks again by
-- the first protocol, or while the lease stands (by the second a reply is told again after that
-- ended, too)
pub record AnswersGranted (old : Picture) (line text : List ℕ) (g : Granted) (new : Picture)
    : Type 0 where
  pub id : RequestId
  pub op : Op
  pub read : IsRequestLine line id op
  pub counts : IsNew (account_in id.client old.book) id
      ⊎ ((account_in id.client old.book).protocol ≡ One) ⊎ LeaseStands old id
  pub step : LeaseStep old line text new
  pub told : IsReadAs text (reply.Granted g)

-- the line is new, releases what was granted, and is answered so; an older release of the same base
-- that is asked again, and answered so again, ends nothing
abbrev pub GivesBack : Granted → Picture → List ℕ → List ℕ → Type 0
GivesBack g old line text = (id : RequestId) × (l : ReleaseLine)
    × IsRequestLine line id (ops.Release l) × IsNew (account_in id.client old.book) id
    × (id.client ≡ g.id.client) × (id.incarnation ≡ g.id.incarnation)
    × (l.arena ≡ g.arena) × (l.base ≡ g.base)
    × (text ≡ reply_bytes (reply.Released id))

-- the line is a hello of a greater incarnation of the client that it was granted to, and is
-- welcome, by whichever protocol
abbrev pub SweepsAway : Granted → List ℕ → List ℕ → Type 0
SweepsAway g line text = (h : HelloLine) × (served_of line ≡ Ok (served.Client (lines.Hello h)))
    × (h.client ≡ g.id.client) × (g.id.incarnation < h.incarnation)
    × ((stands : Protocol) × (text ≡ reply_bytes (reply.Welcome (record {
      client = h.client;
      incarnation = h.incarnation;
      protocol = stands;
    }))))

-- the line ends the lease that was granted
abbrev pub EndsLease : Granted → Picture → List ℕ → List ℕ → Type 0
EndsLease g old line text = GivesBack g old line text ⊎ SweepsAway g line text

-- the line is answered, and doesn't end it
abbrev pub StepKeeps : Granted → Picture → List ℕ → List ℕ → Picture → Type 0
StepKeeps g old line text new = LeaseStep old line text new × (¬ EndsLease g old line text)

-- these frames were answered with this text, one after another, and none of them ended it
abbrev pub RunKeeps : Granted → Picture → List Frame → List ℕ → Picture → Type 0
RunKeeps g old frames text new = ServesLines (StepKeeps g) old frames text new

-- the arena at the top of the chain of sources from the arena at the index
pub data IsUnder (tree : List TreeArena) : ℕ → ℕ → Type 0 where
  root : (k : ℕ) (x : TreeArena) → slice_get tree k ≡ Some x → x.source ≡ None → IsUnder tree k k
  child : (k p top : ℕ) (x : TreeArena) → slice_get tree k ≡ Some x → x.source ≡ Some p
      → IsUnder tree p top → IsUnder tree k top

-- the units that are granted
abbrev pub range_granted : Granted → Extent
range_granted g = record { base = g.base; len = g.len }

-- no unit is in both, where the arenas that they name have one top
abbrev pub GrantsApart : List TreeArena → Granted → Granted → Type 0
GrantsApart tree g h = (a b top : ℕ) → index_in g.arena tree ≡ Some a
    → index_in h.arena tree ≡ Some b → IsUnder tree a top → IsUnder tree b top
    → (u : ℕ) → Covers (range_granted g) u → ¬ Covers (range_granted h) u

-- a line is answered `granted`, then come frames of which none ends that lease, and then a line is
-- answered `granted`
pub record GrantsTwice (old : Picture) (g h : Granted) : Type 0 where
  pub line : List ℕ
  pub text : List ℕ
  pub mid : Picture
  pub first : AnswersGranted old line text g mid
  pub frames : List Frame
  pub between : List ℕ
  pub late : Picture
  pub keeps : RunKeeps g mid frames between late
  pub next : List ℕ
  pub reply : List ℕ
  pub new : Picture
  pub second : AnswersGranted late next reply h new

-- What two requests are granted so doesn't overlap, be they two clients' or one's; whatever lines
-- came before, from an empty book on.
abbrev pub GrantsStayApart : Type 0
GrantsStayApart = (start old : Picture) (frames : List Frame) (text : List ℕ) (g h : Granted)
    → IsPicture start → start.book.accounts ≡ [] → AreNamed start.tree → Runs start frames text old
    → GrantsTwice old g h → h.id ≢ g.id → GrantsApart start.tree g h
