-- What is found where a part is sought that isn't there.
use Rattle.std.specs.Prelude.{◌≡◌}
use Rattle.locked_parts.specs.Answers.{set_of}
use Rattle.locked_parts.specs.Owns.{cache_of}
use Rattle.locked_parts.specs.Saying.{IsNone}
use Rattle.locked_parts.specs.States.{LockedPartsState}
use Rattle.locked_parts.specs.declared.misplaced.Cause.{Cause}
use Rattle.locked_parts.specs.declared.misplaced.Cause.TheVariants as cause
use Rattle.locked_parts.specs.declared.misplaced.Found.{Found}
use Rattle.locked_parts.specs.declared.misplaced.Found.TheVariants as finding
use Rattle.locked_parts.specs.declared.misplaced.PartName.{PartName}
use Rattle.locked_parts.specs.declared.misplaced.PartName.TheVariants.{Arena, Slabs, Depot}

-- it doesn't stand, or what lies under its lock said that it is another than this very part
abbrev pub IsFoundFor : LockedPartsState → PartName → Found → Type 0
IsFoundFor p part finding.None = IsNone p part
IsFoundFor p (Arena arena) (finding.OtherArena sought) = sought ≡ set_of p.arenas arena
IsFoundFor p (Slabs arena cache) (finding.OtherSlabs sought) =
    sought ≡ cache_of p.arenas arena cache
IsFoundFor p (Depot arena cache) (finding.OtherDepot sought) =
    sought ≡ cache_of p.arenas arena cache
IsFoundFor p part found = ⊥

-- why it isn't there
abbrev pub cause_of : Found → Cause
cause_of finding.None = cause.None
cause_of found = cause.Other
