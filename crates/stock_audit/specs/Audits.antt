-- What an audit tells of an arena.
use Rattle.std.specs.Prelude.{◌≡◌, ℕ, List}
use Rattle.deed_core.specs.Tag.{Tag}
use Rattle.deed_core.specs.Covering.{units_held}
use Rattle.stock.specs.Spaces.{SpaceState}
use Rattle.stock.specs.Accounts.{Accounts}
use Rattle.stock.specs.Sums.{Out, all_out, held_of, Sums, homes_of, lengths_of}
pub use Rattle.stock.specs.Sums.{told_sums, TellsSums, TellEach}
use Rattle.stock_audit.specs.Outside.{Outside, out_of}
use Rattle.stock_audit.specs.declared.audits.UnitsOut.{UnitsOut}

-- the six sums of an arena: free, in slabs, in magazines, exported, leased and in hands
abbrev pub sums_of_arena : List SpaceState → Outside → SpaceState → Sums
sums_of_arena spaces out s = lengths_of (homes_of spaces (out_of out) s)

-- the units of the arena's segments among these
abbrev pub units_of_arena_in : ℕ → List Tag → ℕ
units_of_arena_in arena segments = units_held (held_of arena segments)

-- these are the units of the arena that are out, by where they are
pub record IsTally (arena : ℕ) (out : Out) (units : UnitsOut) : Type 0 where
  pub rounds : units.rounds ≡ units_of_arena_in arena out.rounds
  pub leased : units.leased ≡ units_of_arena_in arena out.leases
  pub hand : units.hand ≡ units_of_arena_in arena out.hands

-- so much is out of a stock whose accounts balance
pub record IsBalanced (spaces : List SpaceState) (arena : ℕ) (units : UnitsOut) : Type 0 where
  pub out : Out
  pub accounts : Accounts spaces (all_out out)
  pub tally : IsTally arena out units
