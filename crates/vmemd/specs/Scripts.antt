-- What a script sets up and writes.
use Rattle.std.specs.Prelude.{◌≡◌, ◌⊎◌, Bool, true, false, ℕ, List, [], ◌++◌, Option, IfSome}
use Rattle.std.specs.Io.KnownBytes.{Appends, Consumes}
use Rattle.lease_proto.specs.Frames.{Frame, IsOneLine, frames_in, frames_of}
use Rattle.lease_server.specs.Serving.{Writes, Stops}
use Rattle.lease_proto.specs.SetupLines.{begins_setup}
use Rattle.lease_proto.specs.declared.setup_lines.SetupLine.{SetupLine}
use Rattle.vmemd_setup.specs.Setups.{IsSpent, SetsUp, CanGoOn, SetupRefused}
use Rattle.vmemd_setup.specs.declared.faults.ConfigFault.{ConfigFault}
use Rattle.vmemd_setup.specs.declared.faults.ScriptFault.{ScriptFault}
use Rattle.vmemd_setup.specs.declared.faults.ScriptFault.TheVariants.{Setup, Read, Write, Memory}

-- by whether the reader failed, how often it had been read before and is now, and whether the
-- writer failed: the fault is of what failed
abbrev pub Blames : Bool → ℕ → ℕ → Bool → ScriptFault → Type 0
Blames reader before reads writer (Setup line word) = (reader ≡ false) × (writer ≡ false)
Blames reader before reads writer Read = IsSpent reader before reads × (writer ≡ false)
Blames reader before reads writer Write = (reader ≡ false) × (writer ≡ true)
Blames reader before reads writer Memory = (reader ≡ false) × (writer ≡ false)

module _ {S : Type 0} (takes : S → SetupLine → S → Type 0) (can : S → SetupLine → Type 0) where
  -- no setup line is refused: after those that are taken comes one that can be, or no setup line
  abbrev pub RefusesNone : S → List ℕ → Type 0
  RefusesNone first input = (made : S) × (CanGoOn takes can first input made
      ⊎ ((lines : List ℕ) × SetsUp takes first input lines made × (begins_setup lines ≡ false)))

module _ {S : Type 0} (may_answer : S → List ℕ → List ℕ → S → Type 0) where
  -- the writer holds in addition the whole answers to the first of these frames
  abbrev pub WritesFirst : S → List Frame → Option (List ℕ) → Option (List ℕ) → Type 0
  WritesFirst old frames before after = (served : List Frame) × (later : List Frame) × (new : S)
      × (frames ≡ served ++ later)
      × Writes may_answer old served before after new

module _ {S T : Type 0} (takes : S → SetupLine → S → Type 0) (opens : S → T → Type 0) where
  -- an input is setup lines that are taken, and then these lines, the first of which is no setup
  -- line; what the setup lines made opens the desk
  pub record OpensDesk (first : S) (input lines : List ℕ) (desk : T) : Type 0 where
    pub made : S
    pub setup : SetsUp takes first input lines made
    pub other : begins_setup lines ≡ false
    pub opened : opens made desk

module _ {S T : Type 0} (takes : S → SetupLine → S → Type 0) (opens : S → T → Type 0)
    (may_answer : T → List ℕ → List ℕ → T → Type 0) where
  -- All of an input is answered: the lines after the setup lines, by the desk that these open.
  abbrev pub RunsWhole : S → List ℕ → Option (List ℕ) → Option (List ℕ) → Type 0
  RunsWhole first input before after = (lines : List ℕ) × (desk : T) × (last : T)
      × OpensDesk takes opens first input lines desk
      × Writes may_answer desk (frames_of lines) before after last

  -- What was read of an input is answered as far as its whole lines go: after the setup lines there
  -- is none yet, and nothing is written; or the desk answers them.
  abbrev pub RunsSoFar : S → List ℕ → Option (List ℕ) → Option (List ℕ) → Type 0
  RunsSoFar first input before after =
      ((part : List ℕ) × (made : S) × SetsUp takes first input part made × IsOneLine part
      × Appends before after [])
      ⊎ ((lines : List ℕ) × (desk : T) × (last : T)
      × OpensDesk takes opens first input lines desk
      × Writes may_answer desk (frames_in [] lines) before after last)

  -- Of an input's answers a front is written.
  abbrev pub RunStops : S → List ℕ → Option (List ℕ) → Option (List ℕ) → Type 0
  RunStops first input before after = (lines : List ℕ) × (desk : T)
      × OpensDesk takes opens first input lines desk
      × Stops may_answer desk (frames_of lines) before after

module _ {S T : Type 0} (takes : S → SetupLine → S → Type 0) (can : S → SetupLine → Type 0)
    (opens : S → T → Type 0) (may_answer : T → List ℕ → List ℕ → T → Type 0) where
  -- Of an input's answers the first are written whole; or none, and no setup line was refused.
  abbrev pub RunsFirst : S → List ℕ → Option (List ℕ) → Option (List ℕ) → Type 0
  RunsFirst first input before after =
      (RefusesNone takes can first input × Appends before after [])
      ⊎ ((lines : List ℕ) × (desk : T) × OpensDesk takes opens first input lines desk
      × WritesFirst may_answer desk (frames_of lines) before after)

module _ {S T : Type 0} (takes : S → SetupLine → S → Type 0)
    (refuses : S → SetupLine → ConfigFault → Type 0) (can : S → SetupLine → Type 0)
    (opens : S → T → Type 0) (may_answer : T → List ℕ → List ℕ → T → Type 0) where
  -- what a fault says of what was read and written
  abbrev pub RunFails : S → Option (List ℕ) → Option (List ℕ) → Option (List ℕ) → Option (List ℕ)
      → ScriptFault → Type 0
  RunFails first unread left before after (Setup line word) =
      IfSome unread (λ input. (made : S) × SetupRefused takes refuses first input line word made)
      × Appends before after []
  RunFails first unread left before after Read = (input : List ℕ) × Consumes unread left input
      × RunsSoFar takes opens may_answer first input before after
  RunFails first unread left before after Write = IfSome unread
      (λ input. RunStops takes opens may_answer first input before after)
  RunFails first unread left before after Memory = IfSome unread
      (λ input. RunsFirst takes can opens may_answer first input before after)
