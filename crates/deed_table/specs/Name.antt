-- Which table a name stands for.
use Rattle.std.specs.Prelude.{◌≡◌, ◌<◌, []}
use Rattle.atomic_table.specs.Seated.{TableId}

-- what `Brand` names where no call picks
abbrev pub no_table : TableId
no_table =
    record {
      words = 0;
      slots = 0;
      views_name = 0;
      atom = 0;
      block = 0;
      offset = 0;
      slot_names = [];
    }

-- the seat is of the table, which has a word to step on
abbrev pub SitsAt : TableId → TableId → Type 0
SitsAt seat table = (seat ≡ table) × (0 < table.words)
