-- The units of an arena.
use Rattle.std.specs.Prelude.{ℕ}
use Rattle.lease_watch.specs.declared.families.Home.{Home}
use Rattle.lease_watch.specs.declared.families.Home.TheVariants as home
use Rattle.lease_watch.specs.declared.seen.UnitsSeen.{UnitsSeen}

-- how many have this home
abbrev pub units_at : UnitsSeen → Home → ℕ
units_at u home.Span = u.span
units_at u home.Free = u.free
units_at u home.Slab = u.slab
units_at u home.Magazine = u.magazine
units_at u home.Exported = u.exported
units_at u home.Leased = u.leased
