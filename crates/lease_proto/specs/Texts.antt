-- The words that a line is written with.
use Rattle.std.specs.Prelude.{◌⊎◌, ◌↔◌, ◌≡◌, ◌==◌, ℕ, List, [], ◌∷◌, ◌++◌, if◌then◌else◌, Ok, codes}
use Rattle.std.specs.Prelude.{decimal, true}
use Rattle.std.specs.List.{flat_map}
use Rattle.lease_terms.specs.declared.protocols.Protocol.{Protocol}
use Rattle.lease_terms.specs.declared.protocols.Protocol.TheVariants.{One, Two}
use Rattle.lease_terms.specs.declared.values.TheConstants.{LARGEST}
use Rattle.lease_terms.specs.Names.{is_name}
use Rattle.lease_terms.specs.Ranges.{IsClient, IsOrdinal, IsQuantity}
use Rattle.lease_terms.specs.Requests.{RequestId, IsRequestId}
use Rattle.lease_proto.specs.declared.lines.Line.{Line}
use Rattle.lease_proto.specs.declared.lines.Line.TheVariants as lines
use Rattle.lease_proto.specs.declared.lines.Op.{Op}
use Rattle.lease_proto.specs.declared.lines.Op.TheVariants as ops
use Rattle.lease_proto.specs.declared.lines.HelloLine.{HelloLine}
use Rattle.lease_proto.specs.declared.lines.LeaseLine.{LeaseLine}
use Rattle.lease_proto.specs.declared.lines.ReleaseLine.{ReleaseLine}
use Rattle.lease_proto.specs.declared.lines.LeaseOptions.{LeaseOptions}
use Rattle.lease_proto.specs.Frames.{IsWholeLine}
use Rattle.lease_proto.specs.Grammar.{line_of}

-- an option is left out where it has the value of no constraint
abbrev pub option_words : List ℕ → ℕ → ℕ → List (List ℕ)
option_words key default value = if value == default then [] else key ∷ decimal value ∷ []

abbrev pub options_words : LeaseOptions → List (List ℕ)
options_words o = option_words (codes "align") 0 o.align ++ (option_words (codes "phase") 0 o.phase
    ++ (option_words (codes "nocross") 0 o.nocross ++ (option_words (codes "min") 0 o.min
    ++ option_words (codes "max") LARGEST o.max)))

-- the words of a request's id
abbrev pub id_words : RequestId → List (List ℕ)
id_words id = decimal id.client ∷ decimal id.incarnation ∷ decimal id.number ∷ []

-- the word that tells of the second protocol; the first has none
abbrev pub protocol_words : Protocol → List (List ℕ)
protocol_words One = []
protocol_words Two = codes "2" ∷ []

-- the words after the first of a hello, and after the id of a request
abbrev pub hello_words : HelloLine → List (List ℕ)
hello_words h = decimal h.client ∷ decimal h.incarnation ∷ protocol_words h.protocol

abbrev pub lease_words : LeaseLine → List (List ℕ)
lease_words l = l.arena ∷ decimal l.size ∷ options_words l.options

abbrev pub release_words : ReleaseLine → List (List ℕ)
release_words r = r.arena ∷ decimal r.base ∷ []

abbrev pub op_words : Op → List (List ℕ)
op_words (ops.Lease l) = lease_words l
op_words (ops.Release r) = release_words r

abbrev pub op_word : Op → List ℕ
op_word (ops.Lease l) = codes "lease"
op_word (ops.Release r) = codes "release"

-- the words after the first: those of a request are its id's, and then those of what it asks for
abbrev pub words_after : Line → List (List ℕ)
words_after (lines.Hello h) = hello_words h
words_after (lines.Request id op) = id_words id ++ op_words op

abbrev pub first_word : Line → List ℕ
first_word (lines.Hello h) = codes "hello"
first_word (lines.Request id op) = op_word op

-- words, each with a space before it
abbrev pub spaced_text : List (List ℕ) → List ℕ
spaced_text words = flat_map (λ word. 32 ∷ word) words

-- words with one space between them
abbrev pub sentence : List ℕ → List (List ℕ) → List ℕ
sentence first words = first ++ spaced_text words

-- the bytes of a line
abbrev pub text_of : Line → List ℕ
text_of line = sentence (first_word line) (words_after line)

-- the values that the options' types keep
abbrev pub AreOptions : LeaseOptions → Type 0
AreOptions o =
    IsQuantity o.align × IsQuantity o.phase × IsQuantity o.nocross
    × IsQuantity o.min × IsQuantity o.max

-- the values that the types of what is asked for keep
abbrev pub IsOp : Op → Type 0
IsOp (ops.Lease l) = (is_name l.arena ≡ true) × IsQuantity l.size × AreOptions l.options
IsOp (ops.Release r) = (is_name r.arena ≡ true) × IsQuantity r.base

-- the values that a line's types keep
abbrev pub IsLine : Line → Type 0
IsLine (lines.Hello h) = IsClient h.client × IsOrdinal h.incarnation
IsLine (lines.Request id op) = IsRequestId id × IsOp op

-- the options of a lease in their order: the key, the value of no constraint, and the value
abbrev pub options_of : LeaseOptions → List (List ℕ × ℕ × ℕ)
options_of o = (codes "align", 0, o.align) ∷ (codes "phase", 0, o.phase)
    ∷ (codes "nocross", 0, o.nocross) ∷ (codes "min", 0, o.min) ∷ (codes "max", LARGEST, o.max) ∷ []

-- these words give these options in this order; one may be left out where it has the value of no
-- constraint
abbrev pub GivesOptions : List (List ℕ × ℕ × ℕ) → List (List ℕ) → Type 0
GivesOptions [] words = words ≡ []
GivesOptions ((key, default, value) ∷ options) words =
    ((rest : List (List ℕ)) × (words ≡ key ∷ decimal value ∷ rest) × GivesOptions options rest)
    ⊎ ((value ≡ default) × GivesOptions options words)

-- these words may stand behind the id of a request that asks for this
abbrev pub AsksFor : Op → List (List ℕ) → Type 0
AsksFor (ops.Lease l) words = (options : List (List ℕ))
    × GivesOptions (options_of l.options) options
    × (words ≡ l.arena ∷ decimal l.size ∷ options)
AsksFor (ops.Release r) words = words ≡ release_words r

-- these words may stand behind the first word of the line
abbrev pub MayFollow : Line → List (List ℕ) → Type 0
MayFollow (lines.Hello h) words = words ≡ hello_words h
MayFollow (lines.Request id op) words =
    (rest : List (List ℕ)) × AsksFor op rest × (words ≡ id_words id ++ rest)

-- these bytes are the line: its words with one space between them
abbrev pub IsTextOf : Line → List ℕ → Type 0
IsTextOf line bytes =
    (words : List (List ℕ)) × MayFollow line words × (bytes ≡ sentence (first_word line) words)

-- bytes are read as a line just where they are that line's text
abbrev pub LinesAreTexts : Type 0
LinesAreTexts = (bytes : List ℕ) (line : Line)
    → (line_of bytes ≡ Ok line) ↔ (IsLine line × IsTextOf line bytes)

-- what is written is read as the same line
abbrev pub LineIsRead : Type 0
LineIsRead = (line : Line) → IsLine line → line_of (text_of line) ≡ Ok line

-- and it is one line of a stream
abbrev pub WrittenLineIsWhole : Type 0
WrittenLineIsWhole = (line : Line) → IsLine line → IsWholeLine (text_of line)
