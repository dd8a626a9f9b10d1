-- What an arena gives out of its lock at the end of a system, and why it doesn't.
use Rattle.std.specs.Prelude.{◌≡◌, ◌<◌, ◌≤◌, ℕ, [], None, vec_len, vec_capacity}
use Rattle.std.specs.Global.{Vec}
use Rattle.deed_core.specs.Extent.{Extent}
use Rattle.deed_core.specs.Holding.{Holding}
use Rattle.locked_parts.specs.Saying.{IsMisplaced}
use Rattle.locked_parts.specs.States.{LockedPartsState}
use Rattle.locked_parts.specs.declared.misplaced.PartName.TheVariants.{Arena}
use Rattle.locked_parts.specs.declared.parts.NotHandedOver.{NotHandedOver}
use Rattle.locked_parts.specs.declared.parts.NotHandedOver.TheVariants as handing
use Rattle.locked_parts.specs.declared.parts.NotTaken.{NotTaken}
use Rattle.locked_parts.specs.declared.parts.NotTaken.TheVariants as taking

-- the further roots of the arena of this number were handed over, with this list for ranges
pub record HandedOverState : Type 0 where
  pub arena : ℕ
  pub ranges : Vec Extent

-- so it was, and there is room for the ranges of all these roots
abbrev pub IsHandedOver : ℕ → Vec Holding → HandedOverState → Type 0
IsHandedOver arena roots handed = (handed.arena ≡ arena) × (handed.ranges.items ≡ [])
    × (vec_len roots ≤ vec_capacity handed.ranges)

-- a span was taken out of the arena of this number
pub record TakenState : Type 0 where
  pub arena : ℕ
  pub deed : Holding

-- none was: the arena was asked, or it isn't where it was set up
abbrev pub IsNotTaken : LockedPartsState → ℕ → NotTaken → Type 0
IsNotTaken p arena (taking.Misplaced found) = IsMisplaced p None (Arena arena) found
IsNotTaken p arena (taking.NoneWhole asked) = (arena < p.standing) × (asked ≡ arena)

-- no root was handed over: the same
abbrev pub IsNotHandedOver : LockedPartsState → ℕ → NotHandedOver → Type 0
IsNotHandedOver p arena (handing.Misplaced found) = IsMisplaced p None (Arena arena) found
IsNotHandedOver p arena (handing.NotCounted asked) = (arena < p.standing) × (asked ≡ arena)
