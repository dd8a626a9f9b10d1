-- What a CONFIG file sets up.
use Rattle.std.specs.Prelude.{◌≡◌, ◌+◌, ℕ, List, [], length, Option, IfSome}
use Rattle.lease_proto.specs.declared.setup_lines.SetupLine.{SetupLine}
use Rattle.lease_proto.specs.Frames.{IsOneLine}
use Rattle.arena_tree.specs.Settings.{SetupState}
use Rattle.vmemd_setup.specs.Setups.{SetsUp, RefusesFirst, CanGoOn, ReadsSetup}
use Rattle.vmemd_setup.specs.Settings.{TakesSetupLine, RefusesSetupLine, CanTakeSetupLine}
use Rattle.vmemd_setup.specs.Settings.{no_arenas}
use Rattle.vmemd_setup.specs.declared.faults.ConfigFault.{ConfigFault}
use Rattle.vmemd_setup.specs.declared.faults.ScriptFault.{ScriptFault}
use Rattle.vmemd_setup.specs.declared.faults.ScriptFault.TheVariants.{Setup, Read, Write, Memory}

module _ {S : Type 0} (takes : S → SetupLine → S → Type 0) where
  -- an input is setup lines that are all taken
  abbrev pub MakesAll : S → Option (List ℕ) → S → Type 0
  MakesAll first unread made = IfSome unread (λ input. SetsUp takes first input [] made)

module _ {S : Type 0} (takes : S → SetupLine → S → Type 0)
    (refuses : S → SetupLine → ConfigFault → Type 0) where
  -- the first line that isn't taken has this number, and what the lines before it made refuses it
  -- with this word
  abbrev pub LineRefused : S → List ℕ → ℕ → ConfigFault → S → Type 0
  LineRefused first input line word made = (rest : List ℕ)
      × (setup : SetsUp takes first input rest made)
      × (line ≡ length setup.lines + 1) × RefusesFirst refuses made rest word

module _ {S : Type 0} (takes : S → SetupLine → S → Type 0)
    (refuses : S → SetupLine → ConfigFault → Type 0) (can : S → SetupLine → Type 0) where
  -- why the lines of an input aren't all taken
  abbrev pub ConfigFails : S → Option (List ℕ) → Option (List ℕ) → S → ScriptFault → Type 0
  ConfigFails first unread left last (Setup line word) = IfSome unread
      (λ input. LineRefused takes refuses first input line word last)
  ConfigFails first unread left last Read = (part : List ℕ)
      × ReadsSetup takes first unread left last part × IsOneLine part
  ConfigFails first unread left last Write = ⊥
  ConfigFails first unread left last Memory = IfSome unread
      (λ input. CanGoOn takes can first input last)

-- CONFIG's lines make this setup
abbrev pub ConfigMakes : Option (List ℕ) → SetupState → Type 0
ConfigMakes unread made = MakesAll TakesSetupLine no_arenas unread made

-- CONFIG isn't read or taken, and why
abbrev pub ConfigRefuses : Option (List ℕ) → Option (List ℕ) → ScriptFault → Type 0
ConfigRefuses unread left fault = (made : SetupState)
    × ConfigFails TakesSetupLine RefusesSetupLine CanTakeSetupLine no_arenas unread left made
    fault
