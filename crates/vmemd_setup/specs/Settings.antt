-- What a setup line asks of a setup, and when it is refused with which word.
use Rattle.std.specs.Prelude.{◌≡◌, []}
use Rattle.tag_arena.specs.declared.policies.Policy.{Policy}
use Rattle.tag_arena.specs.declared.policies.Policy.TheVariants as policies
use Rattle.arena_tree.specs.Settings.{SetupState, TakesSetting, CanSet, RefusesSetting}
use Rattle.arena_tree.specs.declared.settings.NewRoot.{NewRoot}
use Rattle.arena_tree.specs.declared.settings.NewChild.{NewChild}
use Rattle.arena_tree.specs.declared.settings.NewSpan.{NewSpan}
use Rattle.arena_tree.specs.declared.settings.Setting.{Setting}
use Rattle.arena_tree.specs.declared.settings.Setting.TheVariants as setting
use Rattle.arena_tree.specs.declared.setup_faults.SetupFault.{SetupFault}
use Rattle.arena_tree.specs.declared.setup_faults.SetupFault.TheVariants as fault
use Rattle.lease_proto.specs.declared.setup_lines.PolicyWord.{PolicyWord}
use Rattle.lease_proto.specs.declared.setup_lines.PolicyWord.TheVariants as words
use Rattle.lease_proto.specs.declared.setup_lines.SetupLine.{SetupLine}
use Rattle.lease_proto.specs.declared.setup_lines.SetupLine.TheVariants.{Root, Child, Span}
use Rattle.lease_proto.specs.declared.setup_lines.RootLine.{RootLine}
use Rattle.lease_proto.specs.declared.setup_lines.ChildLine.{ChildLine}
use Rattle.lease_proto.specs.declared.setup_lines.SpanLine.{SpanLine}
use Rattle.vmemd_setup.specs.declared.faults.ConfigFault.{ConfigFault}
use Rattle.vmemd_setup.specs.declared.faults.ConfigFault.TheVariants.{NameTaken, TooMany, NoArena}
use Rattle.vmemd_setup.specs.declared.faults.ConfigFault.TheVariants.{ChainTooLong, BadQuantum}
use Rattle.vmemd_setup.specs.declared.faults.ConfigFault.TheVariants.{BadCache, BadRange}
use Rattle.vmemd_setup.specs.declared.faults.SettingFault.{SettingFault}
use Rattle.vmemd_setup.specs.declared.faults.SettingFault.TheVariants.{Refused, Memory}

-- the policy of an arena by a line's word for it
abbrev pub policy_of : PolicyWord → Policy
policy_of words.Instant = policies.Instant
policy_of words.Best = policies.Best
policy_of words.Next = policies.Next

-- the root that a line asks for
abbrev pub root_asked : RootLine → NewRoot
root_asked r = record {
  name = r.name;
  base = r.base;
  len = r.len;
  quantum = r.quantum;
  policy = policy_of r.policy;
  qcache_max = r.qcache_max;
}

-- the child that a line asks for
abbrev pub child_asked : ChildLine → NewChild
child_asked c = record {
  name = c.name;
  source = c.source;
  quantum = c.quantum;
  policy = policy_of c.policy;
  qcache_max = c.qcache_max;
  import_min = c.import_min;
}

-- the span that a line asks for
abbrev pub span_asked : SpanLine → NewSpan
span_asked s = record { name = s.name; base = s.base; len = s.len }

-- a refusal of the setup's, as it is told
abbrev pub setting_fault : SetupFault → SettingFault
setting_fault fault.NameTaken = Refused NameTaken
setting_fault fault.TooMany = Refused TooMany
setting_fault fault.NoArena = Refused NoArena
setting_fault fault.ChainTooLong = Refused ChainTooLong
setting_fault fault.BadQuantum = Refused BadQuantum
setting_fault fault.BadCache = Refused BadCache
setting_fault fault.BadRange = Refused BadRange
setting_fault fault.NoMemory = Memory

-- what a line asks for
abbrev pub setting_asked : SetupLine → Setting
setting_asked (Root r) = setting.Root (root_asked r)
setting_asked (Child c) = setting.Child (child_asked c)
setting_asked (Span s) = setting.Span (span_asked s)

-- a setup of no arena
abbrev pub no_arenas : SetupState
no_arenas = record { arenas = []; spans = [] }

-- a setup takes what the line asks for
abbrev pub TakesSetupLine : SetupState → SetupLine → SetupState → Type 0
TakesSetupLine old line new = TakesSetting old (setting_asked line) new

-- a setup can take it: nothing speaks against it
abbrev pub CanTakeSetupLine : SetupState → SetupLine → Type 0
CanTakeSetupLine s line = CanSet s (setting_asked line)

-- a setup refuses it, and its reason is told by this word
abbrev pub RefusesSetupLine : SetupState → SetupLine → ConfigFault → Type 0
RefusesSetupLine s line word = (why : SetupFault) × RefusesSetting s (setting_asked line) why
    × (setting_fault why ≡ Refused word)
