-- How a setup's refusal of what a line asks for is told.
use Rattle.std.proofs.Common.{refl}
use Rattle.arena_tree.specs.Settings.{SetupState, RefusesSetting}
use Rattle.arena_tree.specs.declared.setup_faults.SetupFault.{SetupFault}
use Rattle.arena_tree.specs.declared.setup_faults.SetupFault.TheVariants.{NameTaken, TooMany, NoArena, ChainTooLong, BadQuantum, BadCache, BadRange, NoMemory}
use Rattle.lease_proto.specs.declared.setup_lines.SetupLine.{SetupLine}
use Rattle.lease_proto.specs.declared.setup_lines.SetupLine.TheVariants.{Root, Child, Span}
use Rattle.vmemd_setup.specs.Setups.{RefusedBy}
use Rattle.vmemd_setup.specs.Settings.{setting_asked, setting_fault, RefusesSetupLine, CanTakeSetupLine}

-- memory is asked for only for a line that can be taken
memory_asked : (s : SetupState) (line : SetupLine) → RefusesSetting s (setting_asked line) NoMemory → CanTakeSetupLine s line
memory_asked s (Root r) is = is
memory_asked s (Child c) is = is
memory_asked s (Span n) is = is

pub refusal_told : (s : SetupState) (line : SetupLine) (why : SetupFault) → RefusesSetting s (setting_asked line) why → RefusedBy (RefusesSetupLine s line) (CanTakeSetupLine s line) (setting_fault why)
refusal_told s line NameTaken is = (NameTaken, is, refl)
refusal_told s line TooMany is = (TooMany, is, refl)
refusal_told s line NoArena is = (NoArena, is, refl)
refusal_told s line ChainTooLong is = (ChainTooLong, is, refl)
refusal_told s line BadQuantum is = (BadQuantum, is, refl)
refusal_told s line BadCache is = (BadCache, is, refl)
refusal_told s line BadRange is = (BadRange, is, refl)
refusal_told s line NoMemory is = memory_asked s line is
