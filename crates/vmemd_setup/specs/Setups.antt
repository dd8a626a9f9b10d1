-- Setup lines of an input: which are taken, which is refused, and what taking them leaves.
use Rattle.std.specs.Prelude.{◌≡◌, ◌⊎◌, ◌+◌, ◌-◌, ◌^◌, Bool, true, false, ℕ, List, [], ◌∷◌, ◌++◌}
use Rattle.std.specs.Prelude.{length, min, Option, Result, Ok, Err, IfSome}
use Rattle.std.specs.List.{flat_map}
use Rattle.std.specs.Io.KnownBytes.{Consumes, IsAtEnd}
use Rattle.lease_proto.specs.declared.faults.LineFault.{LineFault}
use Rattle.lease_proto.specs.declared.setup_lines.SetupLine.{SetupLine}
use Rattle.lease_proto.specs.Frames.{Frame, IsOneLine, frames_of, with_line_feed}
use Rattle.lease_proto.specs.SetupLines.{setup_of, begins_setup}
use Rattle.lease_proto.specs.Values.{◌>>=◌}
use Rattle.lease_server.specs.Intakes.{IntakeState, hand_in}
use Rattle.lease_server.specs.declared.intakes.TheConstants.{MOST_READS}
use Rattle.vmemd_setup.specs.declared.faults.ConfigFault.{ConfigFault}
use Rattle.vmemd_setup.specs.declared.faults.ConfigFault.TheVariants as config
use Rattle.vmemd_setup.specs.declared.faults.ScriptFault.{ScriptFault}
use Rattle.vmemd_setup.specs.declared.faults.ScriptFault.TheVariants.{Setup, Read, Write, Memory}
use Rattle.vmemd_setup.specs.declared.faults.SettingFault.{SettingFault}
use Rattle.vmemd_setup.specs.declared.faults.SettingFault.TheVariants as setting

-- a reader has failed, or was read as often as it may be since it had been read `before` times; the
-- count of reads stops at 2^64 - 1
abbrev pub IsSpent : Bool → ℕ → ℕ → Type 0
IsSpent failed before reads = (failed ≡ true) ⊎ (reads ≡ min (before + MOST_READS) (2 ^ 64 - 1))

-- what doesn't take a line refuses it so, or is out of memory for one that it can take
abbrev pub RefusedBy : (ConfigFault → Type 0) → Type 0 → SettingFault → Type 0
RefusedBy refused can (setting.Refused fault) = refused fault
RefusedBy refused can setting.Memory = can

module _ {S : Type 0} (takes : S → SetupLine → S → Type 0) where
  -- from one setup, these lines are taken one after another, and make the other
  abbrev pub Makes : S → List (List ℕ) → S → Type 0
  Makes old [] new = new ≡ old
  Makes old (line ∷ lines) new = (setting : SetupLine) × (mid : S) × (setup_of line ≡ Ok setting)
      × takes old setting mid × Makes mid lines new

  -- an input is setup lines that are taken, and this after them
  pub record SetsUp (first : S) (input rest : List ℕ) (made : S) : Type 0 where
    pub lines : List (List ℕ)
    pub makes : Makes first lines made
    pub split : input ≡ flat_map with_line_feed lines ++ rest

module _ {S : Type 0} (refuses : S → SetupLine → ConfigFault → Type 0) where
  -- a setup refuses what was read of a line: it is no setup line, or the setup doesn't take it
  abbrev pub RefusesRead : S → Result SetupLine LineFault → ConfigFault → Type 0
  RefusesRead made (Err fault) word = word ≡ config.Line fault
  RefusesRead made (Ok setting) word = refuses made setting word

  -- a setup refuses the line that an input begins with
  abbrev pub RefusesFirst : S → List ℕ → ConfigFault → Type 0
  RefusesFirst made input word = (frame : Frame) × (frames : List Frame)
      × (frames_of input ≡ frame ∷ frames)
      × RefusesRead made (frame >>= setup_of) word

module _ {S : Type 0} (can : S → SetupLine → Type 0) where
  -- a setup can take what was read of a line: it is a setup line, and nothing speaks against it
  abbrev pub CanTakeRead : S → Result SetupLine LineFault → Type 0
  CanTakeRead made (Err fault) = ⊥
  CanTakeRead made (Ok setting) = can made setting

  -- a setup can take the line that an input begins with
  abbrev pub CanTakeFirst : S → List ℕ → Type 0
  CanTakeFirst made input = (frame : Frame) × (frames : List Frame)
      × (frames_of input ≡ frame ∷ frames) × CanTakeRead made (frame >>= setup_of)

module _ {S : Type 0} (takes : S → SetupLine → S → Type 0) (can : S → SetupLine → Type 0) where
  -- an input is setup lines that are taken, and after them comes one that what they made can take
  abbrev pub CanGoOn : S → List ℕ → S → Type 0
  CanGoOn first input made = (rest : List ℕ) × SetsUp takes first input rest made
      × CanTakeFirst can made rest

module _ {S : Type 0} (takes : S → SetupLine → S → Type 0)
    (refuses : S → SetupLine → ConfigFault → Type 0) where
  -- the first setup line that is refused has this number, and the setup that the lines before it
  -- made refuses it with this word
  abbrev pub SetupRefused : S → List ℕ → ℕ → ConfigFault → S → Type 0
  SetupRefused first input line word made = (rest : List ℕ)
      × (setup : SetsUp takes first input rest made)
      × (line ≡ length setup.lines + 1) × (begins_setup rest ≡ true)
      × RefusesFirst refuses made rest word

-- whatever follows these bytes, they begin with a line that is no setup line
abbrev pub IsOther : List ℕ → Type 0
IsOther bytes = (more : List ℕ) → begins_setup (bytes ++ more) ≡ false

module _ {S : Type 0} (takes : S → SetupLine → S → Type 0) where
  -- one line is a setup line and taken
  abbrev pub TakesLine : S → List ℕ → S → Type 0
  TakesLine old line new = (setting : SetupLine) × (setup_of line ≡ Ok setting)
      × takes old setting new

  -- what was read is setup lines that are taken, and this after them
  abbrev pub ReadsSetup : S → Option (List ℕ) → Option (List ℕ) → S → List ℕ → Type 0
  ReadsSetup first unread left made rest = (input : List ℕ) × Consumes unread left input
      × SetsUp takes first input rest made

  -- what is at hand after the setup lines, and that it begins with no further one: whatever
  -- follows, or as the input ended there
  abbrev pub TakesSetup : S → Option (List ℕ) → Option (List ℕ) → S → IntakeState → Type 0
  TakesSetup first unread left made input = (rest : List ℕ)
      × ReadsSetup first unread left made rest × (input.hand ≡ hand_in [] rest)
      × (input.ended ≡ false → IsOther rest)
      × (input.ended ≡ true → (begins_setup rest ≡ false) × IsAtEnd left)

module _ {S : Type 0} (refuses : S → SetupLine → ConfigFault → Type 0)
    (can : S → SetupLine → Type 0) where
  -- why a line isn't taken; out of memory comes only for one that can be
  abbrev pub LineFails : S → ℕ → Result SetupLine LineFault → ScriptFault → Type 0
  LineFails made number read (Setup line word) = (line ≡ number)
      × RefusesRead refuses made read word
  LineFails made number read Read = ⊥
  LineFails made number read Write = ⊥
  LineFails made number read Memory = CanTakeRead can made read

module _ {S : Type 0} (takes : S → SetupLine → S → Type 0)
    (refuses : S → SetupLine → ConfigFault → Type 0) (can : S → SetupLine → Type 0) where
  -- why a setup ended early
  abbrev pub SetupFails : S → Option (List ℕ) → Option (List ℕ) → S → ScriptFault → Type 0
  SetupFails first unread left last (Setup line word) = IfSome unread
      (λ input. SetupRefused takes refuses first input line word last)
  SetupFails first unread left last Read = (part : List ℕ)
      × ReadsSetup takes first unread left last part × IsOneLine part
  SetupFails first unread left last Write = ⊥
  SetupFails first unread left last Memory = IfSome unread
      (λ input. CanGoOn takes can first input last)
