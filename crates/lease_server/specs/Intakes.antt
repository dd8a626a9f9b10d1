-- What is at hand of a stream: read, and not passed yet.
use Rattle.std.specs.Prelude.{◌≡◌, ◌==◌, ◌≤◌, ◌<◌, ◌+◌, ℕ, Bool, true, false}
use Rattle.std.specs.Prelude.{List, [], ◌∷◌, ◌++◌, length, take, if◌then◌else◌, Option}
use Rattle.std.specs.Io.KnownBytes.{Consumes, IsAtEnd, Keeps}
use Rattle.lease_proto.specs.Frames.{Frame, IsOneLine, with_line_feed, frame_of, frames_in, rest_in}
use Rattle.lease_proto.specs.Frames.{frames_of, frames_of_rest, LineReaderState}
use Rattle.lease_proto.specs.declared.limits.TheConstants.{LINE_ROOM}
use Rattle.lease_server.specs.declared.intakes.TheConstants.{MOST_READS, PIECE}
use Rattle.lease_server.specs.declared.faults.ServeFault.{ServeFault}
use Rattle.lease_server.specs.declared.faults.ServeFault.TheVariants.{Read, Write, Memory, Turns}

-- the first line, of which so many bytes are kept that they tell whether it is too long; whether
-- its line feed has come; and the bytes that were read after that
pub record AtHand : Type 0 where
  pub line : List ℕ
  pub whole : Bool
  pub rest : List ℕ

-- what is at hand once these bytes come after a line begun
abbrev pub hand_in : List ℕ → List ℕ → AtHand
hand_in line [] = record { line = take LINE_ROOM line; whole = false; rest = [] }
hand_in line (b ∷ bs) =
    if b == 10 then record { line = take LINE_ROOM line; whole = true; rest = bs }
    else hand_in (line ++ b ∷ []) bs

-- the frames of the whole lines at hand
abbrev pub frames_at : AtHand → List Frame
frames_at h = if h.whole then frame_of h.line ∷ frames_in [] h.rest else []

-- the line begun behind these
abbrev pub begun_at : AtHand → List ℕ
begun_at h = if h.whole then rest_in [] h.rest else h.line

-- the frames of the whole lines at hand and in these bytes, which come after
abbrev pub frames_on : AtHand → List ℕ → List Frame
frames_on h bytes = frames_at h ++ frames_in (begun_at h) bytes

-- the same, with that of the rest where the input ends there
abbrev pub frames_to_end : AtHand → List ℕ → List Frame
frames_to_end h bytes = frames_on h bytes ++ frames_of_rest (rest_in (begun_at h) bytes)

-- what a contract sees of an intake: what is at hand, how often it read, and whether the input
-- has ended
pub record IntakeState : Type 0 where
  pub hand : AtHand
  pub reads : ℕ
  pub ended : Bool

-- what a line reader and the piece behind its line have at hand
abbrev pub hand_of : LineReaderState → List ℕ → AtHand
hand_of held piece =
    if held.whole then record { line = held.line; whole = true; rest = piece }
    else hand_in held.line piece

-- one read, from what the reader had to what it has left, and whether more came: the line begun
-- goes on by what was read, at most a piece; where nothing came, the input has ended
abbrev pub ReadsOn : IntakeState → IntakeState → Option (List ℕ) → Option (List ℕ) → Bool
    → Type 0
ReadsOn old new unread left more = (piece : List ℕ) × Consumes unread left piece
    × (length piece ≤ PIECE) × (new.hand ≡ hand_in old.hand.line piece)
    × (more ≡ true → (0 < length piece) × (old.ended ≡ false) × (new.ended ≡ false)
    × (new.reads ≡ old.reads + 1))
    × (more ≡ false → (piece ≡ []) × (new.ended ≡ true) × IsAtEnd left)

-- why no more was read of an input that hasn't ended, by whether the reader had failed before and
-- has now: it failed, or was read so often
abbrev pub StopsReading : IntakeState → Option (List ℕ) → Option (List ℕ) → Bool → Bool
    → ServeFault → Type 0
StopsReading old unread left before after Read = Keeps unread left × (old.ended ≡ false)
    × (after ≡ true)
StopsReading old unread left before after Turns = Keeps unread left × (old.ended ≡ false)
    × (after ≡ before) × (old.reads ≡ MOST_READS)
StopsReading old unread left before after Write = ⊥
StopsReading old unread left before after Memory = ⊥

-- what is kept of what is read and not passed tells the frames of all
abbrev pub HandTells : Type 0
HandTells = (bytes more : List ℕ)
    → (frames_on (hand_in [] bytes) more ≡ frames_in [] (bytes ++ more))
    × (frames_to_end (hand_in [] bytes) more ≡ frames_of (bytes ++ more))

-- a line is whole where a line feed came: it is the text before the first one
abbrev pub HandIsWhole : Type 0
HandIsWhole = (line bytes : List ℕ) → (hand_in line bytes).whole ≡ true
    → (text : List ℕ) × (rest : List ℕ) × IsOneLine text × (bytes ≡ with_line_feed text ++ rest)
    × (hand_in line bytes
    ≡ record { line = take LINE_ROOM (line ++ text); whole = true; rest = rest })

-- where none came, all is of the line begun
abbrev pub HandIsBegun : Type 0
HandIsBegun = (line bytes : List ℕ) → (hand_in line bytes).whole ≡ false
    → (hand_in line bytes
    ≡ record { line = take LINE_ROOM (line ++ bytes); whole = false; rest = [] })
    × IsOneLine bytes

-- what comes behind a line begun is at hand as if all had come at once
abbrev pub HandGoesOn : Type 0
HandGoesOn = (bytes more : List ℕ) → IsOneLine bytes
    → hand_in (take LINE_ROOM bytes) more ≡ hand_in [] (bytes ++ more)
