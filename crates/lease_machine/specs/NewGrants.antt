-- What two new requests are granted doesn't overlap: which lines these are, and which end a lease,
-- the lines and their answers tell alone.
use Rattle.std.specs.Prelude.{◌≡◌, ◌⊎◌, ℕ, List, [], ◌∷◌, ◌++◌, Ok}
use Rattle.lease_terms.specs.Requests.{RequestId}
use Rattle.lease_proto.specs.declared.lines.ReleaseLine.{ReleaseLine}
use Rattle.lease_proto.specs.declared.lines.Op.{Op}
use Rattle.lease_proto.specs.declared.lines.Op.TheVariants as ops
use Rattle.lease_proto.specs.declared.replies.Granted.{Granted}
use Rattle.lease_proto.specs.declared.replies.Reply.{Reply}
use Rattle.lease_proto.specs.declared.replies.Reply.TheVariants as reply
use Rattle.lease_proto.specs.Frames.{Frame}
use Rattle.lease_proto.specs.Serving.{ServesLines}
use Rattle.lease_machine.specs.Picture.{Picture, IsPicture}
use Rattle.lease_machine.specs.Machine.{LeaseStep}
use Rattle.lease_machine.specs.AnswerLaws.{reply_bytes, IsKept, IsRequestLine, IsReadAs, AreNamed}
use Rattle.lease_machine.specs.GrantLaws.{GrantsApart, SweepsAway}

-- the line is a request of this client, incarnation and number, and its answer is one that is kept:
-- `granted`, `released` or `refused`
abbrev pub Settles : RequestId → List ℕ → List ℕ → Type 0
Settles id line text = (op : Op) × (r : Reply)
    × IsRequestLine line id op × IsReadAs text r × IsKept r

-- the line is answered, and doesn't settle it
abbrev pub StepUnsettled : RequestId → Picture → List ℕ → List ℕ → Picture → Type 0
StepUnsettled id old line text new = LeaseStep old line text new × (¬ Settles id line text)

-- these frames were answered with this text, one after another, and none of them settled it
abbrev pub RunUnsettled : RequestId → Picture → List Frame → List ℕ → Picture → Type 0
RunUnsettled id old frames text new = ServesLines (StepUnsettled id) old frames text new

-- the line is a request that none of the frames from start on settled, and is answered with this
-- grant
pub record GrantsNew (start : Picture) (before : List Frame) (said : List ℕ) (old : Picture)
    (line text : List ℕ) (g : Granted) (new : Picture) : Type 0 where
  pub id : RequestId
  pub op : Op
  pub read : IsRequestLine line id op
  pub unsettled : RunUnsettled id start before said old
  pub step : LeaseStep old line text new
  pub told : IsReadAs text (reply.Granted g)

-- the line releases, for the client's incarnation, what it was granted, and is answered so
abbrev pub ReleasesGrant : Granted → List ℕ → List ℕ → Type 0
ReleasesGrant g line text = (id : RequestId) × (l : ReleaseLine)
    × IsRequestLine line id (ops.Release l)
    × (id.client ≡ g.id.client) × (id.incarnation ≡ g.id.incarnation)
    × (l.arena ≡ g.arena) × (l.base ≡ g.base)
    × (text ≡ reply_bytes (reply.Released id))

-- the line is answered; neither does it so, nor is it a welcome hello of a greater incarnation
abbrev pub StepLeaves : Granted → Picture → List ℕ → List ℕ → Picture → Type 0
StepLeaves g old line text new = LeaseStep old line text new
    × (¬ (ReleasesGrant g line text ⊎ SweepsAway g line text))

-- these frames were answered with this text, one after another, and none of them did
abbrev pub RunLeaves : Granted → Picture → List Frame → List ℕ → Picture → Type 0
RunLeaves g old frames text new = ServesLines (StepLeaves g) old frames text new

-- behind these lines a request that none of them settled is answered `granted`; then come lines of
-- which none ends that lease, and then a request that no line before settled is answered so, too
pub record GrantsTwo (start : Picture) (before : List Frame) (said : List ℕ) (old : Picture)
    (g h : Granted) : Type 0 where
  pub line : List ℕ
  pub text : List ℕ
  pub mid : Picture
  pub first : GrantsNew start before said old line text g mid
  pub frames : List Frame
  pub between : List ℕ
  pub late : Picture
  pub leaves : RunLeaves g mid frames between late
  pub next : List ℕ
  pub reply : List ℕ
  pub new : Picture
  pub second : GrantsNew start (before ++ Ok line ∷ frames) (said ++ (text ++ between)) late
      next reply h new

-- what the two are granted doesn't overlap
abbrev pub NewGrantsStayApart : Type 0
NewGrantsStayApart = (start old : Picture) (frames : List Frame) (text : List ℕ) (g h : Granted)
    → IsPicture start → start.book.accounts ≡ [] → AreNamed start.tree
    → GrantsTwo start frames text old g h → GrantsApart start.tree g h
