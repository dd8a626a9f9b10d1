-- What becomes of an arena's depots that are to keep greater magazines.
use Rattle.std.specs.Prelude.{◌≡◌, ℕ, List, set, slice_get, Some, Result, Ok, Err}
use Rattle.lease_proto.specs.declared.faults.ErrorWord.{ErrorWord}
use Rattle.lease_proto.specs.declared.faults.ErrorWord.TheVariants.{Size}
use Rattle.stock.specs.Spaces.{SpaceState}
use Rattle.lease_machine.specs.Operators.{HasSmaller, with_depots_by, after_rise}

-- those of the arena at the index k with smaller magazines than m keep these from here on; where
-- it has none such nothing changes
abbrev pub ResizesAt : ℕ → ℕ → List SpaceState → Result (Unit {0}) ErrorWord → List SpaceState
    → Type 0
ResizesAt k m old (Ok _) new = (s : SpaceState) × (slice_get old k ≡ Some s) × HasSmaller m s
    × (new ≡ set old k (with_depots_by (after_rise m) s))
ResizesAt k m old (Err word) new = (s : SpaceState) × (slice_get old k ≡ Some s)
    × (¬ HasSmaller m s) × (word ≡ Size) × (new ≡ old)
