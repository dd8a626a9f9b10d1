-- What an `error` line says.
use Rattle.std.specs.Prelude.{ℕ, List, ◌∷◌, [], ◌++◌, if◌then◌else◌, Result, Ok, Err, codes}
use Rattle.std.specs.Str.{bytes_eq}
use Rattle.lease_proto.specs.declared.faults.LineFault.{LineFault}
use Rattle.lease_proto.specs.declared.faults.LineFault.TheVariants.{TooLong, BadLine, Word, Number}
use Rattle.lease_proto.specs.declared.faults.ErrorWord.{ErrorWord}
use Rattle.lease_proto.specs.declared.faults.ErrorWord.TheVariants.{Line, Memory, NoArena, Size}
use Rattle.lease_proto.specs.declared.faults.ErrorWord.TheVariants.{Range, Many, Misplaced, Busy}

-- the word of a fault
abbrev pub fault_word : LineFault → List ℕ
fault_word TooLong = codes "toolong"
fault_word BadLine = codes "badline"
fault_word Word = codes "word"
fault_word Number = codes "number"

-- the word of an `error` line
abbrev pub error_word : ErrorWord → List ℕ
error_word (Line fault) = fault_word fault
error_word Memory = codes "memory"
error_word NoArena = codes "noarena"
error_word Size = codes "size"
error_word Range = codes "range"
error_word Many = codes "many"
error_word Misplaced = codes "misplaced"
error_word Busy = codes "busy"

-- the `error` line, with its line feed
abbrev pub error_text : ErrorWord → List ℕ
error_text error = codes "error " ++ error_word error ++ 10 ∷ []

-- the line that answers a refused line
abbrev pub error_line : LineFault → List ℕ
error_line fault = error_text (Line fault)

-- what an `error` line of this word says
abbrev pub error_word_in : List ℕ → Result ErrorWord LineFault
error_word_in word =
    if bytes_eq word (codes "toolong") then Ok (Line TooLong)
    else if bytes_eq word (codes "badline") then Ok (Line BadLine)
    else if bytes_eq word (codes "word") then Ok (Line Word)
    else if bytes_eq word (codes "number") then Ok (Line Number)
    else if bytes_eq word (codes "memory") then Ok Memory
    else if bytes_eq word (codes "noarena") then Ok NoArena
    else if bytes_eq word (codes "size") then Ok Size
    else if bytes_eq word (codes "range") then Ok Range
    else if bytes_eq word (codes "many") then Ok Many
    else if bytes_eq word (codes "misplaced") then Ok Misplaced
    else if bytes_eq word (codes "busy") then Ok Busy
    else Err BadLine
