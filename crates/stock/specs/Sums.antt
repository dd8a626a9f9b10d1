-- Where the units of an arena are.
use Rattle.std.specs.Prelude.{◌≡◌, ℕ, ◌+◌, List, [], ◌++◌, filter, flat_map, sum_by}
use Rattle.std.specs.Prelude.{length, slice_get, Some}
use Rattle.deed_core.specs.Holding.{Holding}
use Rattle.deed_core.specs.Tag.{Tag}
use Rattle.deed_core.specs.Covering.{units_in}
use Rattle.deed_core.specs.Selections.{is_of_arena}
use Rattle.slab_layer.specs.Cache.{deeds_of}
use Rattle.magazine_layer.specs.Depots.{depot_rounds}
use Rattle.tag_arena.specs.Spanned.{holdings_of}
use Rattle.stock.specs.Spaces.{SpaceState}
use Rattle.stock.specs.declared.sums.ArenaSums.{ArenaSums}

-- the segments that are out of all parts: in hands, leased, and the rounds of the CPUs
pub record Out : Type 0 where
  pub hands : List Tag
  pub leases : List Tag
  pub rounds : List Tag

abbrev pub all_out : Out → List Tag
all_out out = out.hands ++ (out.leases ++ out.rounds)

-- what those of this arena cover
abbrev pub held_of : ℕ → List Tag → List Holding
held_of k segments = holdings_of (filter (is_of_arena k) segments)

-- the ranges of an arena, by where they are: free, at home in a slab, in a magazine of a depot or
-- of a CPU, a child's span, leased, or in a hand
pub record Homes : Type 0 where
  pub free : List Holding
  pub slab : List Holding
  pub magazine : List Holding
  pub exported : List Holding
  pub leased : List Holding
  pub hand : List Holding

abbrev pub homes_of : List SpaceState → Out → SpaceState → Homes
homes_of spaces out s = record {
  free = s.arena.free;
  slab = flat_map (λ c. deeds_of c.slab) s.caches;
  magazine =
      flat_map (λ c. holdings_of (depot_rounds c.depot)) s.caches ++ held_of s.arena.id out.rounds;
  exported = flat_map (λ x. held_of s.arena.id x.arena.imported) spaces;
  leased = held_of s.arena.id out.leases;
  hand = held_of s.arena.id out.hands;
}

abbrev pub all_homes : Homes → List Holding
all_homes p = p.free ++ (p.slab ++ (p.magazine ++ (p.exported ++ (p.leased ++ p.hand))))

-- six numbers of an arena
pub record Sums : Type 0 where
  pub free : ℕ
  pub slab : ℕ
  pub magazine : ℕ
  pub exported : ℕ
  pub leased : ℕ
  pub hand : ℕ

abbrev pub total : Sums → ℕ
total x = x.free + (x.slab + (x.magazine + (x.exported + (x.leased + x.hand))))

-- what lies in each home weighs
abbrev pub sums_of : (Holding → ℕ) → Homes → Sums
sums_of f p = record {
  free = sum_by f p.free;
  slab = sum_by f p.slab;
  magazine = sum_by f p.magazine;
  exported = sum_by f p.exported;
  leased = sum_by f p.leased;
  hand = sum_by f p.hand;
}

-- the units in each home: the sums of an audit
abbrev pub lengths_of : Homes → Sums
lengths_of p = sums_of units_in p

-- the numbers that are told of an arena
abbrev pub told_sums : ArenaSums → Sums
told_sums r = record {
  free = r.free;
  slab = r.slab;
  magazine = r.magazine;
  exported = r.exported;
  leased = r.leased;
  hand = r.hand;
}

-- an arena with no unit
abbrev pub no_sums : ArenaSums
no_sums = record { free = 0; slab = 0; magazine = 0; exported = 0; leased = 0; hand = 0 }

-- they tell of the arena at the index, with these segments out
abbrev pub TellsSums : List SpaceState → ℕ → Out → ArenaSums → Type 0
TellsSums spaces arena out r = (s : SpaceState) → slice_get spaces arena ≡ Some s
    → told_sums r ≡ lengths_of (homes_of spaces out s)

-- there are as many as arenas, and each tells of the arena at its index
pub record TellEach (spaces : List SpaceState) (out : Out) (told : List ArenaSums) : Type 0 where
  pub as_many : length told ≡ length spaces
  pub each : (k : ℕ) (r : ArenaSums) → slice_get told k ≡ Some r → TellsSums spaces k out r

-- all that is out counts as leased
abbrev pub as_leased : List Tag → Out
as_leased out = record { hands = []; leases = out; rounds = [] }
