-- Which bytes are a line, and why others are none.
use Rattle.std.specs.Prelude.{ℕ, List, [], ◌∷◌, if◌then◌else◌, Option, Some, None, Result, Ok, Err}
use Rattle.std.specs.Prelude.{codes}
use Rattle.std.specs.Str.{bytes_eq}
use Rattle.lease_terms.specs.declared.protocols.Protocol.{Protocol}
use Rattle.lease_terms.specs.declared.protocols.Protocol.TheVariants.{One, Two}
use Rattle.lease_terms.specs.declared.values.TheConstants.{LARGEST}
use Rattle.lease_proto.specs.declared.faults.LineFault.{LineFault}
use Rattle.lease_proto.specs.declared.faults.LineFault.TheVariants.{BadLine, Word, Number}
use Rattle.lease_proto.specs.declared.lines.Line.{Line}
use Rattle.lease_proto.specs.declared.lines.Line.TheVariants as lines
use Rattle.lease_proto.specs.declared.lines.Op.TheVariants as ops
use Rattle.lease_proto.specs.Values.{◌>>=◌, words_of, client_in, ordinal_in, quantity_in, id_in}
use Rattle.lease_proto.specs.Values.{name_in}

-- a word, and the words after it
abbrev pub word_at : List (List ℕ) → Result (List ℕ × List (List ℕ)) LineFault
word_at [] = Err BadLine
word_at (word ∷ words) = Ok (word, words)

-- no word is left
abbrev pub end_at : List (List ℕ) → Result (Unit {0}) LineFault
end_at [] = Ok tt
end_at (word ∷ words) = Err BadLine

-- the three words of a request's id, and the words after them
unfoldable pub id_at : List (List ℕ) → Result ((List ℕ × List ℕ × List ℕ) × List (List ℕ)) LineFault
id_at words = do
  client ← word_at words
  incarnation ← word_at client.1
  number ← word_at incarnation.1
  Ok ((client.0, incarnation.0, number.0), number.1)

-- the protocol that the last words of a hello or of a welcome say: no word is the first one
abbrev pub protocol_in : List (List ℕ) → Result Protocol LineFault
protocol_in [] = Ok One
protocol_in (word ∷ []) = if bytes_eq word (codes "2") then Ok Two else Err Number
protocol_in (word ∷ more ∷ words) = Err BadLine

-- `hello C I`, and `hello C I 2`: the words after the first
unfoldable pub hello_in : List (List ℕ) → Result Line LineFault
hello_in words = do
  client ← word_at words
  incarnation ← word_at client.1
  p ← protocol_in incarnation.1
  c ← client_in client.0
  i ← ordinal_in incarnation.0
  Ok (lines.Hello (record { client = c; incarnation = i; protocol = p }))

-- `release C I N NAME BASE`
unfoldable pub release_in : List (List ℕ) → Result Line LineFault
release_in words = do
  id ← id_at words
  name ← word_at id.1
  arena ← name_in name.0
  base ← word_at name.1
  end ← end_at base.1
  request ← id_in id.0
  b ← quantity_in base.0
  Ok (lines.Request request (ops.Release (record { arena = arena; base = b })))

-- an option, where it is the next, and the words after it
abbrev pub option_at : List ℕ → List (List ℕ) → Option (List ℕ) × List (List ℕ)
option_at key [] = (None, [])
option_at key (word ∷ []) = (None, word ∷ [])
option_at key (word ∷ value ∷ words) =
    if bytes_eq word key then (Some value, words) else (None, word ∷ value ∷ words)

-- a value that may be left out
abbrev pub quantity_or : ℕ → Option (List ℕ) → Result ℕ LineFault
quantity_or default None = Ok default
quantity_or default (Some word) = quantity_in word

-- the lease of this id, arena and size, and the words after these: options in this order
unfoldable pub lease_after : List ℕ × List ℕ × List ℕ → List ℕ → List ℕ → List (List ℕ)
    → Result Line LineFault
lease_after id arena size words = do
  let align = option_at (codes "align") words
  let phase = option_at (codes "phase") align.1
  let nocross = option_at (codes "nocross") phase.1
  let min = option_at (codes "min") nocross.1
  let max = option_at (codes "max") min.1
  end ← end_at max.1
  request ← id_in id
  s ← quantity_in size
  a ← quantity_or 0 align.0
  p ← quantity_or 0 phase.0
  x ← quantity_or 0 nocross.0
  l ← quantity_or 0 min.0
  h ← quantity_or LARGEST max.0
  Ok (lines.Request request (ops.Lease (record {
    arena = arena;
    size = s;
    options = record { align = a; phase = p; nocross = x; min = l; max = h };
  })))

-- `lease C I N NAME SIZE`, and its options
unfoldable pub lease_in : List (List ℕ) → Result Line LineFault
lease_in words = do
  id ← id_at words
  name ← word_at id.1
  arena ← name_in name.0
  size ← word_at name.1
  lease_after id.0 arena size.0 size.1

-- the line of this first word and the words after it
unfoldable pub line_of_first : List ℕ → List (List ℕ) → Result Line LineFault
line_of_first first words =
    if bytes_eq first (codes "hello") then hello_in words
    else if bytes_eq first (codes "lease") then lease_in words
    else if bytes_eq first (codes "release") then release_in words
    else Err Word

-- the line that words are
unfoldable pub line_in : List (List ℕ) → Result Line LineFault
line_in [] = Err Word
line_in (first ∷ words) = line_of_first first words

-- the line that bytes are, or the first reason why they are none
unfoldable pub line_of : List ℕ → Result Line LineFault
line_of bytes = words_of bytes >>= line_in
