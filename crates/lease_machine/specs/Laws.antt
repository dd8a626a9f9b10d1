-- What follows for each picture, and for each run of lines.
use Rattle.std.specs.Prelude.{◌≡◌, ◌⊎◌, ℕ, ◌≤◌, codes, List, AllPairs, slice_get, Some, Ok, Err}
use Rattle.std.specs.Prelude.{sum_by}
use Rattle.std.specs.List.{AllByRecursion}
use Rattle.deed_core.specs.Covering.{covering_held, units_held}
use Rattle.tag_arena.specs.ArenaState.{spans_of}
use Rattle.stock.specs.Spaces.{SpaceState}
use Rattle.stock.specs.Sums.{total}
use Rattle.stock.specs.Laws.{ApartUpChain}
use Rattle.stock_audit.specs.Chains.{unit_of_arena}
use Rattle.lease_book.specs.BookState.{leased_segments, units_of_arena}
use Rattle.lease_proto.specs.declared.faults.ErrorWord.TheVariants.{Memory}
use Rattle.lease_proto.specs.Faults.{error_text}
use Rattle.lease_proto.specs.Frames.{Frame}
use Rattle.lease_proto.specs.Operators.{served_of}
use Rattle.lease_proto.specs.Serving.{ServesLines}
use Rattle.lease_machine.specs.Picture.{Picture, IsPicture, SameSetup, SetupGrows, held_outside}
use Rattle.lease_machine.specs.Operators.{sums_in, audit_texts_of}
use Rattle.lease_machine.specs.Machine.{LeaseStep, IsGrow}

-- these frames were answered with this text, one after another
abbrev pub Runs : Picture → List Frame → List ℕ → Picture → Type 0
Runs old frames text new = ServesLines LeaseStep old frames text new

-- a run leaves a picture
abbrev pub PicturesStay : Type 0
PicturesStay = (old new : Picture) (frames : List Frame) (text : List ℕ) → IsPicture old
    → Runs old frames text new → IsPicture new

-- of the same arenas, with the spans that they owned, and maybe more behind them
abbrev pub SetupOnlyGrows : Type 0
SetupOnlyGrows = (old new : Picture) (frames : List Frame) (text : List ℕ)
    → Runs old frames text new → SetupGrows old new

-- the same spans are spans that went on; and spans that went on twice did once
abbrev pub SameSetupGrows : Type 0
SameSetupGrows = (old new : Picture) → SameSetup old new → SetupGrows old new

abbrev pub SetupGrowsOn : Type 0
SetupGrowsOn = (old mid new : Picture) → SetupGrows old mid → SetupGrows mid new
    → SetupGrows old new

-- the frame is no grow
abbrev pub GrowsNone : Frame → Type 0
GrowsNone (Ok line) = ¬ IsGrow (served_of line)
GrowsNone (Err fault) = Unit {0}

-- it is one, or no line
abbrev pub GrowsAlone : Frame → Type 0
GrowsAlone (Ok line) = IsGrow (served_of line)
GrowsAlone (Err fault) = Unit {0}

-- with the same spans, where none of the frames is a grow
abbrev pub SetupStays : Type 0
SetupStays = (old new : Picture) (frames : List Frame) (text : List ℕ)
    → Runs old frames text new → AllByRecursion GrowsNone frames → SameSetup old new

-- each unit of an arena's spans is in one home: free, in a slab, in a magazine, exported or
-- leased; and no other unit is in any
abbrev pub UnitsAtHome : Picture → Type 0
UnitsAtHome d = (k : ℕ) (s : SpaceState) → slice_get d.spaces k ≡ Some s → (u : ℕ)
    → (total (unit_of_arena u d.spaces (held_outside d) s) ≡ covering_held u (spans_of s.arena))
    × (covering_held u (spans_of s.arena) ≤ 1)

abbrev pub UnitsHaveOneHome : Type 0
UnitsHaveOneHome = (d : Picture) → IsPicture d → UnitsAtHome d

-- no two leases overlap where their arenas have one top, be one's arena a source of the other's
abbrev pub LeasesAreApart : Type 0
LeasesAreApart = (d : Picture) → IsPicture d
    → AllPairs (ApartUpChain d.spaces) (leased_segments d.book)

-- the line `audit` is answered by what is told of each arena, unless out of memory, and nothing
-- changes
abbrev pub AuditIsTold : Type 0
AuditIsTold = (old new : Picture) (text : List ℕ) → LeaseStep old (codes "audit") text new
    → ((text ≡ audit_texts_of old old.tree old.spaces) ⊎ (text ≡ error_text Memory)) × (new ≡ old)

-- what an audit calls leased is the sum of the book's leases
abbrev pub AuditTellsLeases : Type 0
AuditTellsLeases = (d : Picture) → IsPicture d → (k : ℕ) (s : SpaceState)
    → slice_get d.spaces k ≡ Some s
    → (sums_in d s).leased ≡ sum_by (units_of_arena k) (leased_segments d.book)

-- and its numbers add up to the units of the arena's spans
abbrev pub AuditIsWhole : Type 0
AuditIsWhole = (d : Picture) → IsPicture d → (k : ℕ) (s : SpaceState)
    → slice_get d.spaces k ≡ Some s → total (sums_in d s) ≡ units_held (spans_of s.arena)
