-- What a server writes for the frames that it reads.
use Rattle.std.specs.Prelude.{◌≡◌, ◌≤◌, ◌+◌, ◌-◌, ◌^◌, ℕ, List, ◌∷◌, ◌++◌, length, min}
use Rattle.std.specs.Prelude.{take, true, false, Option, IfSome}
use Rattle.std.specs.Io.KnownBytes.{Appends, Consumes, IsAtEnd}
use Rattle.lease_proto.specs.Frames.{Frame}
use Rattle.lease_proto.specs.Serving.{ServesLines}
use Rattle.lease_proto.specs.declared.limits.TheConstants.{LINE_ROOM}
use Rattle.lease_server.specs.Intakes.{AtHand, IntakeState, frames_on, frames_to_end}
use Rattle.lease_server.specs.Watching.{Streams}
use Rattle.lease_server.specs.declared.intakes.TheConstants.{MOST_READS}
use Rattle.lease_server.specs.declared.faults.ServeFault.{ServeFault}
use Rattle.lease_server.specs.declared.faults.ServeFault.TheVariants as fault

-- what a line begun is known by, as so much of it is kept
abbrev pub SameFront : List ℕ → List ℕ → Type 0
SameFront xs ys = take LINE_ROOM xs ≡ take LINE_ROOM ys

-- the writer holds in addition a front of these bytes
abbrev pub WritesFront : List ℕ → Option (List ℕ) → Option (List ℕ) → Type 0
WritesFront bytes before after = (written : List ℕ) × (unwritten : List ℕ)
    × (bytes ≡ written ++ unwritten) × Appends before after written

module _ {S : Type 0} (may_answer : S → List ℕ → List ℕ → S → Type 0) where
  -- some lines were answered, one after another, and nothing else became of the responder
  abbrev pub HasAnswered : S → S → Type 0
  HasAnswered old new = (frames : List Frame) × (text : List ℕ)
      × ServesLines may_answer old frames text new

  -- the buffer holds in addition what is written for these frames
  abbrev pub Answers : S → List Frame → List ℕ → List ℕ → S → Type 0
  Answers old frames before after new = (text : List ℕ) × ServesLines may_answer old frames text new
      × (after ≡ before ++ text)

  -- the same for the frames before one of these
  abbrev pub AnswersBefore : S → List Frame → List ℕ → List ℕ → S → Type 0
  AnswersBefore old frames before after new = (served : List Frame) × (refused : Frame)
      × (later : List Frame)
      × (frames ≡ served ++ refused ∷ later) × Answers old served before after new

  -- the writer holds in addition what is written for these frames
  abbrev pub Writes : S → List Frame → Option (List ℕ) → Option (List ℕ) → S → Type 0
  Writes old frames before after new = (text : List ℕ) × ServesLines may_answer old frames text new
      × Appends before after text

  -- the same for the frames before one of these
  abbrev pub WritesBefore : S → List Frame → Option (List ℕ) → Option (List ℕ) → S → Type 0
  WritesBefore old frames before after new = (served : List Frame) × (refused : Frame)
      × (later : List Frame)
      × (frames ≡ served ++ refused ∷ later) × Writes old served before after new

  -- the writer holds in addition a front of what may be written for these frames
  abbrev pub WritesPart : S → List Frame → Option (List ℕ) → Option (List ℕ) → Type 0
  WritesPart old frames before after = (new : S) × (written : List ℕ) × (unwritten : List ℕ)
      × ServesLines may_answer old frames (written ++ unwritten) new × Appends before after written

  -- the same for the first of these frames, up to where the serving stopped
  abbrev pub Stops : S → List Frame → Option (List ℕ) → Option (List ℕ) → Type 0
  Stops old frames before after = (served : List Frame) × (later : List Frame)
      × (frames ≡ served ++ later) × WritesPart old served before after

  -- The whole lines at hand and in what was read are answered, of an input that had not ended.
  abbrev pub ServesRead : IntakeState → Streams → Streams → S → S → List ℕ → Type 0
  ServesRead from old new first last input = (from.ended ≡ false)
      × Consumes old.unread new.unread input
      × Writes first (frames_on from.hand input) old.written new.written last

  -- All that is at hand, and that the reader had left, is answered.
  abbrev pub ServesAll : AtHand → Streams → Streams → S → S → Type 0
  ServesAll hand old new first last =
      IfSome old.unread
      (λ input. Writes first (frames_to_end hand input) old.written new.written last)
      × (new.reader_failed ≡ false) × (new.writer_failed ≡ false)

  -- What a fault says, each of what failed:
  -- read: the reader failed, and the whole lines at hand and read are answered;
  -- turns: the same after as many reads as there may be, each of which gave bytes;
  -- write: the writer failed, and a front of the answers to all is written;
  -- memory: it was out of memory for an answer to a line that was read, and the answers before
  -- that are written whole.
  abbrev pub ServeFails : IntakeState → Streams → Streams → S → S → ServeFault → Type 0
  ServeFails from old new first last fault.Read = (input : List ℕ)
      × ServesRead from old new first last input
      × (new.reader_failed ≡ true) × (new.writer_failed ≡ false)
  ServeFails from old new first last fault.Turns = (input : List ℕ)
      × ServesRead from old new first last input
      × (new.reader_failed ≡ false) × (new.writer_failed ≡ false)
      × (MOST_READS ≤ from.reads + length input)
      × (new.reads ≡ min (old.reads + (MOST_READS - from.reads)) (2 ^ 64 - 1))
  ServeFails from old new first last fault.Write =
      IfSome old.unread
      (λ input. Stops first (frames_to_end from.hand input) old.written new.written)
      × (new.reader_failed ≡ false) × (new.writer_failed ≡ true)
  ServeFails from old new first last fault.Memory = (input : List ℕ)
      × Consumes old.unread new.unread input
      × WritesBefore first (frames_on from.hand input) old.written new.written last
      × (new.reader_failed ≡ false) × (new.writer_failed ≡ false)

  -- All that is at hand, and all that was read up to the end, is answered.
  abbrev pub TellsAll : AtHand → Streams → Streams → S → S → Type 0
  TellsAll hand old new first last = (input : List ℕ) × Consumes old.unread new.unread input
      × IsAtEnd new.unread × Writes first (frames_to_end hand input) old.written new.written last
      × (new.reader_failed ≡ false) × (new.writer_failed ≡ false)

  -- What a fault says where answers take no memory: of reading the same; and where the writer
  -- failed, a front of the answers to what was read is written.
  abbrev pub TellFails : IntakeState → Streams → Streams → S → S → ServeFault → Type 0
  TellFails from old new first last fault.Read = ServeFails from old new first last fault.Read
  TellFails from old new first last fault.Turns = ServeFails from old new first last fault.Turns
  TellFails from old new first last fault.Write = (input : List ℕ)
      × Consumes old.unread new.unread input
      × Stops first (frames_to_end from.hand input) old.written new.written
      × (new.reader_failed ≡ false) × (new.writer_failed ≡ true)
  TellFails from old new first last fault.Memory = ⊥
