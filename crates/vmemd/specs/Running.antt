-- What a server writes, and how it ends.
use Rattle.std.specs.Prelude.{◌≡◌, ◌⊎◌, ℕ, Bool, List, [], ◌∷◌, ◌++◌, Option, Result, Ok, Err}
use Rattle.std.specs.Prelude.{codes, true, false}
use Rattle.std.specs.Global.{Vec}
use Rattle.std.specs.Net.Text.{socket_text}
use Rattle.std.specs.declared.net.socket_addr.SocketAddr.{SocketAddr}
use Rattle.std.specs.Io.KnownBytes.{Appends, Consumes, IsAtEnd}
use Rattle.deed_core.specs.Extent.{Extent}
use Rattle.arena_tree.specs.Settings.{SetupState}
use Rattle.arena_tree.specs.declared.trees.TreeArena.{TreeArena}
use Rattle.lease_proto.specs.Frames.{frames_in, frames_of}
use Rattle.lease_server.specs.Serving.{WritesFront}
use Rattle.lease_server.specs.Watching.{Streams, streams_of}
use Rattle.lease_threads.specs.Ends.{AreRangesOf}
use Rattle.lease_threads.specs.Openings.{IsSystemOf}
use Rattle.lease_threads.specs.Systems.{SystemState}
use Rattle.vmemd.specs.Operators.{Tells, TellsFirst}
use Rattle.vmemd_setup.specs.Setups.{IsSpent}
use Rattle.vmemd.specs.declared.running.Console.{Console}
use Rattle.vmemd_setup.specs.declared.faults.RunFault.{RunFault}
use Rattle.vmemd_setup.specs.declared.faults.RunFault.TheVariants.{Read, Write, Listen, Memory}
use Rattle.vmemd_setup.specs.declared.faults.RunFault.TheVariants.{Shut}

-- what a server writes where it listens at this address
abbrev pub listening_line : List ℕ → List ℕ
listening_line address = codes "listening " ++ address ++ 10 ∷ []

-- and once it is shut
abbrev pub closed_line : List ℕ
closed_line = codes "closed" ++ 10 ∷ []

-- it tells some address
abbrev pub TellsAddress : List ℕ → Type 0
TellsAddress line = (address : List ℕ) × (line ≡ listening_line address)

-- it tells the address of what is listened at, as that gives it
abbrev pub TellsAddressOf : {B : Type 0} → (B → SocketAddr → Type 0) → B → List ℕ → Type 0
TellsAddressOf may_have bound line = (address : SocketAddr) × may_have bound address
    × (line ≡ listening_line (socket_text address))

-- neither the reader nor the writer has failed
abbrev pub BothWork : Streams → Type 0
BothWork s = (s.reader_failed ≡ false) × (s.writer_failed ≡ false)

-- all of the input was read, and this is what its operator was told
abbrev pub TellsToEnd : List TreeArena → Streams → Streams → List ℕ → Type 0
TellsToEnd arenas old new text = (input : List ℕ) × Consumes old.unread new.unread input
    × IsAtEnd new.unread × Tells arenas (frames_of input) text

-- the input can't be read on, and this is what was told of the whole lines that were read
abbrev pub TellsSoFar : List TreeArena → Streams → Streams → List ℕ → Type 0
TellsSoFar arenas old new text = (input : List ℕ) × Consumes old.unread new.unread input
    × Tells arenas (frames_in [] input) text × IsSpent new.reader_failed old.reads new.reads

-- this is what is told of the first lines of what was read
abbrev pub TellsSome : List TreeArena → Streams → List ℕ → Type 0
TellsSome arenas old text = (input : List ℕ) × (left : Option (List ℕ))
    × Consumes old.unread left input × TellsFirst arenas (frames_of input) text

-- Behind these bytes the operator was answered up to the end of the input; else the fault is of the
-- stream that failed. Once an answer can't be written, nothing is said of what is read on.
abbrev pub AnswersBehind : List TreeArena → List ℕ → Streams → Streams
    → Result (Unit {0}) RunFault → Type 0
AnswersBehind arenas first old new (Ok _) = (text : List ℕ) × TellsToEnd arenas old new text
    × Appends old.written new.written (first ++ text) × BothWork new
AnswersBehind arenas first old new (Err Read) = (text : List ℕ) × TellsSoFar arenas old new text
    × Appends old.written new.written (first ++ text) × (new.writer_failed ≡ false)
AnswersBehind arenas first old new (Err Write) = (text : List ℕ) × TellsSome arenas old text
    × WritesFront (first ++ text) old.written new.written × (new.writer_failed ≡ true)
AnswersBehind arenas first old new (Err Memory) = ⊥
AnswersBehind arenas first old new (Err Listen) = ⊥
AnswersBehind arenas first old new (Err Shut) = ⊥

-- the address was told, and the operator answered behind it; or it was out of memory before anything
-- was read or written
abbrev pub Attends : List TreeArena → Streams → Streams → Result (Unit {0}) RunFault → Type 0
Attends arenas old new (Err Memory) = new ≡ old
Attends arenas old new (Ok done) = (address : List ℕ)
    × AnswersBehind arenas (listening_line address) old new (Ok done)
Attends arenas old new (Err Read) = (address : List ℕ)
    × AnswersBehind arenas (listening_line address) old new (Err Read)
Attends arenas old new (Err Write) = (address : List ℕ)
    × AnswersBehind arenas (listening_line address) old new (Err Write)
Attends arenas old new (Err Listen) = ⊥
Attends arenas old new (Err Shut) = ⊥

-- what a whole run writes
abbrev pub run_text : List ℕ → List ℕ → List ℕ
run_text address text = listening_line address ++ text ++ closed_line

-- the address was told, the operator answered up to the end of the input, and that it closed told
abbrev pub RunsWhole : List TreeArena → Streams → Streams → Type 0
RunsWhole arenas old new = (address : List ℕ) × (text : List ℕ) × TellsToEnd arenas old new text
    × Appends old.written new.written (run_text address text) × BothWork new

-- How a run ends, of a server with these arenas. Without a fault it was whole, and so it was where
-- something could not be put back at once. A fault of reading or writing is of the stream that
-- failed. Where no address could be listened at, or it was out of memory, nothing was read or
-- written: no more can be said, since no contract sees sockets or what memory there is.
abbrev pub ServesToItsEnd : List TreeArena → Streams → Streams → Result (Unit {0}) RunFault
    → Type 0
ServesToItsEnd arenas old new (Ok _) = RunsWhole arenas old new
ServesToItsEnd arenas old new (Err Shut) = RunsWhole arenas old new
ServesToItsEnd arenas old new (Err Read) = Attends arenas old new (Err Read)
ServesToItsEnd arenas old new (Err Write) = (address : List ℕ) × (text : List ℕ)
    × TellsSome arenas old text
    × WritesFront (run_text address text) old.written new.written × (new.writer_failed ≡ true)
ServesToItsEnd arenas old new (Err Listen) = new ≡ old
ServesToItsEnd arenas old new (Err Memory) = new ≡ old

-- the ranges of all roots that the setup's arenas began with, and of those that were opened later,
-- a list for each arena, which has each once, in order of adding
abbrev pub AreAllRanges : SetupState → List (Vec Extent) → Type 0
AreAllRanges setup ranges = (made : SystemState) × IsSystemOf setup made × AreRangesOf made ranges

-- it ended before there was a system
abbrev pub IsUnmade : Result (Unit {0}) RunFault → Type 0
IsUnmade ended = (ended ≡ Err Listen) ⊎ (ended ≡ Err Memory)

-- what a server's console has to read and has written
abbrev pub console_streams : {I W : Type 0} → (I → Option (List ℕ)) → (W → Option (List ℕ))
    → Console I W → Streams
console_streams remaining contents c = streams_of remaining contents c.input c.out

-- by what was written before and after, and whether the writer had failed before and has: that it
-- closed was told, or why not
abbrev pub Closes : Option (List ℕ) → Option (List ℕ) → Bool → Bool → Result (Unit {0}) RunFault
    → Type 0
Closes before after was has (Ok _) = Appends before after closed_line × (has ≡ was)
Closes before after was has (Err Shut) = Appends before after closed_line × (has ≡ was)
Closes before after was has (Err Write) = WritesFront closed_line before after × (has ≡ true)
Closes before after was has (Err Listen) = ⊥
Closes before after was has (Err Memory) = ⊥
Closes before after was has (Err Read) = ⊥
