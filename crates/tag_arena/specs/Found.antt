-- What was found in an arena.
use Rattle.std.specs.Prelude.{ℕ, ◌+◌, ◌<◌, ◌≤◌, List, Contains}
use Rattle.deed_core.specs.Extent.{end_of}
use Rattle.deed_core.specs.Holding.{Holding}
use Rattle.tag_arena.specs.ArenaState.{OnQuantum}
use Rattle.tag_arena.specs.declared.searches.Fit.{Fit}

-- f is in a free range, and the `len` units from its base on are whole quanta of that range
pub record IsCuttable (quantum : ℕ) (free : List Holding) (f : Fit) (len : ℕ) : Type 0 where
  pub among : Contains free f.range
  pub some : 0 < len
  pub from : f.range.range.base ≤ f.base
  pub to : f.base + len ≤ end_of f.range.range
  pub grid : OnQuantum quantum (record { base = f.base; len = len })
