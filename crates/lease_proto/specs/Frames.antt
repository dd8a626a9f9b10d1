-- How a stream of bytes falls into lines.
use Rattle.std.specs.Prelude.{◌≡◌, ◌≢◌, ◌==◌, ◌<◌, ℕ, nat_le, Bool, List, [], ◌∷◌, ◌++◌, length}
use Rattle.std.specs.Prelude.{take, get_or, map, if◌then◌else◌, Result, Ok, Err, Option, Some, None}
use Rattle.std.specs.List.{flat_map, AllByRecursion}
use Rattle.arrayvec.specs.ArrayVec.{ArrayVec}
use Rattle.lease_proto.specs.declared.faults.LineFault.{LineFault}
use Rattle.lease_proto.specs.declared.faults.LineFault.TheVariants.{TooLong, BadLine}
use Rattle.lease_proto.specs.declared.limits.TheConstants.{LONGEST_LINE, LINE_ROOM}

-- what comes of one line: its bytes, or why it is refused unread
abbrev pub Frame : Type 0
Frame = Result (List ℕ) LineFault

-- a line whose line feed has come, unless too many bytes stand before it
abbrev pub frame_of : List ℕ → Frame
frame_of line = if nat_le (length line) LONGEST_LINE then Ok line else Err TooLong

-- the frames of a rest with no line feed, at the end of the input: none, or one
abbrev pub frames_of_rest : List ℕ → List Frame
frames_of_rest [] = []
frames_of_rest (b ∷ bs) =
    (if nat_le (length (b ∷ bs)) LONGEST_LINE then Err BadLine else Err TooLong) ∷ []

-- the frames that end in these bytes, where this much of a line stands before them
abbrev pub frames_in : List ℕ → List ℕ → List Frame
frames_in line [] = []
frames_in line (b ∷ bs) =
    if b == 10 then frame_of line ∷ frames_in [] bs
    else frames_in (line ++ b ∷ []) bs

-- the line that these bytes leave unended
abbrev pub rest_in : List ℕ → List ℕ → List ℕ
rest_in line [] = line
rest_in line (b ∷ bs) = if b == 10 then rest_in [] bs else rest_in (line ++ b ∷ []) bs

-- the frames of a whole input
abbrev pub frames_of : List ℕ → List Frame
frames_of input = frames_in [] input ++ frames_of_rest (rest_in [] input)

-- a line with its line feed
abbrev pub with_line_feed : List ℕ → List ℕ
with_line_feed line = line ++ 10 ∷ []

-- no line feed stands in it
abbrev pub IsOneLine : List ℕ → Type 0
IsOneLine line = AllByRecursion (λ b. b ≢ 10) line

-- in a stream, with its line feed behind it, it is one line, and just these bytes
pub record IsWholeLine (text : List ℕ) : Type 0 where
  pub one_line : IsOneLine text
  pub frame : frame_of text ≡ Ok text

-- an input made of these lines and a rest with no line feed has the frames of these lines, and then
-- that of the rest
abbrev pub FramesAreLines : Type 0
FramesAreLines = (lines : List (List ℕ)) (rest : List ℕ)
    → AllByRecursion IsOneLine lines → IsOneLine rest
    → frames_of (flat_map with_line_feed lines ++ rest) ≡ map frame_of lines ++ frames_of_rest rest

-- each input is made so
abbrev pub InputIsLines : Type 0
InputIsLines = (input : List ℕ) → (lines : List (List ℕ)) × (rest : List ℕ)
    × AllByRecursion IsOneLine lines × IsOneLine rest
    × (input ≡ flat_map with_line_feed lines ++ rest)

-- bytes in two parts: the frames of the first, and then of the second, behind the line that the
-- first leaves unended
abbrev pub PiecesAreOne : Type 0
PiecesAreOne = (line xs ys : List ℕ)
    → (frames_in line (xs ++ ys) ≡ frames_in line xs ++ frames_in (rest_in line xs) ys)
    × (rest_in line (xs ++ ys) ≡ rest_in (rest_in line xs) ys)

-- the front of the line begun tells the frames
abbrev pub FrontIsEnough : Type 0
FrontIsEnough = (line bytes : List ℕ)
    → (frames_in (take LINE_ROOM line) bytes ≡ frames_in line bytes)
    × (take LINE_ROOM (rest_in (take LINE_ROOM line) bytes) ≡ take LINE_ROOM (rest_in line bytes))
    × (frames_of_rest (take LINE_ROOM line) ≡ frames_of_rest line)

-- text with no line feed goes onto the line begun
abbrev pub TextGoesOn : Type 0
TextGoesOn = (line text bytes : List ℕ) → IsOneLine text
    → (frames_in line (text ++ bytes) ≡ frames_in (line ++ text) bytes)
    × (rest_in line (text ++ bytes) ≡ rest_in (line ++ text) bytes)

-- by itself it ends no line
abbrev pub TextEndsNoLine : Type 0
TextEndsNoLine = (line text : List ℕ) → IsOneLine text
    → (frames_in line text ≡ []) × (rest_in line text ≡ line ++ text)

-- with its line feed it ends the line begun, and no other
abbrev pub LineFeedEndsLine : Type 0
LineFeedEndsLine = (line text : List ℕ) → IsOneLine text
    → (frames_in line (with_line_feed text) ≡ frame_of (line ++ text) ∷ [])
    × (rest_in line (with_line_feed text) ≡ [])

-- text of which no place is a line feed has none
abbrev pub NoPlaceIsLineFeed : Type 0
NoPlaceIsLineFeed = (text : List ℕ)
    → ((k : ℕ) → k < length text → get_or text k 0 ≢ 10) → IsOneLine text

-- the first `LINE_ROOM` bytes of the line begun, and whether its line feed has come
pub record LineReaderState : Type 0 where
  pub line : List ℕ
  pub whole : Bool

-- a frame without where it lies in memory
abbrev pub frame_view : Result (ArrayVec ℕ) LineFault → Frame
frame_view (Ok line) = Ok line.items
frame_view (Err fault) = Err fault

-- the frames of a fault, if there is one
abbrev pub faults_of : Option LineFault → List Frame
faults_of None = []
faults_of (Some fault) = Err fault ∷ []
