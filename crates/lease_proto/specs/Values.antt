-- What the words of a line stand for.
use Rattle.std.specs.Prelude.{◌&&◌, ℕ, nat_le, nat_lt, List, length, if◌then◌else◌, Option, Some}
use Rattle.std.specs.Prelude.{None, Result, Ok, Err}
use Rattle.lease_terms.specs.declared.values.TheConstants.{LARGEST, LAST_CLIENT}
use Rattle.lease_terms.specs.Requests.{RequestId}
use Rattle.lease_terms.specs.Names.{is_name}
use Rattle.lease_proto.specs.declared.faults.LineFault.{LineFault}
use Rattle.lease_proto.specs.declared.faults.LineFault.TheVariants.{TooLong, BadLine, Number}
use Rattle.lease_proto.specs.declared.limits.TheConstants.{LONGEST_LINE}
use Rattle.lease_proto.specs.Words.{is_sentence, parts_of, number_in}

-- what the second makes of the first's value, unless the first is refused
infixl 10 ◌>>=◌
abbrev pub ◌>>=◌ : {A B : Type 0} → Result A LineFault → (A → Result B LineFault)
    → Result B LineFault
(Ok x) >>= f = f x
(Err e) >>= f = Err e

-- a number from low to high
abbrev pub number_within : ℕ → ℕ → Option ℕ → Result ℕ LineFault
number_within low high None = Err Number
number_within low high (Some n) = if nat_le low n && nat_le n high then Ok n else Err Number

-- a client
abbrev pub client_in : List ℕ → Result ℕ LineFault
client_in word = number_within 1 LAST_CLIENT (number_in word)

-- an incarnation, or the number of a request
abbrev pub ordinal_in : List ℕ → Result ℕ LineFault
ordinal_in word = number_within 1 LARGEST (number_in word)

-- a unit, a number of units, or any number
abbrev pub quantity_in : List ℕ → Result ℕ LineFault
quantity_in word = number_within 0 LARGEST (number_in word)

-- the id of a request: its client, its incarnation and its number
unfoldable pub id_in : List ℕ × List ℕ × List ℕ → Result RequestId LineFault
id_in words = do
  c ← client_in words.0
  i ← ordinal_in words.1
  n ← ordinal_in words.2
  Ok (record { client = c; incarnation = i; number = n })

-- a name
abbrev pub name_in : List ℕ → Result (List ℕ) LineFault
name_in word = if is_name word then Ok word else Err BadLine

-- the parts of a line that is short enough
abbrev pub short_parts : List ℕ → Result (List (List ℕ)) LineFault
short_parts line = if nat_lt LONGEST_LINE (length line) then Err TooLong else Ok (parts_of line)

-- the first reason to refuse a line whose parts are refused for this one
abbrev pub first_reason : List ℕ → LineFault → LineFault
first_reason line fault = if is_sentence line then fault else BadLine

-- the words of a line that is short enough: words with one space between them
abbrev pub words_of : List ℕ → Result (List (List ℕ)) LineFault
words_of line =
    if nat_lt LONGEST_LINE (length line) then Err TooLong
    else if is_sentence line then Ok (parts_of line)
    else Err BadLine
