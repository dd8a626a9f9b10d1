-- Lists in rows.
use Rattle.std.specs.Prelude.{◌≢◌, ◌<◌, ◌≤◌, ◌+◌, ℕ, List, [], get_or, length, take, drop, suc, All}
use Rattle.std.specs.Prelude.{Option, Some, None, remove}
use Rattle.std.specs.List.{flat_map}
use Rattle.sorted_rows.specs.declared.seats.Spot.{Spot}
use Rattle.sorted_rows.specs.Order.{Rises}

module _ {X : Type 0} where
  -- the entries in the rows, one row behind the other
  abbrev pub entries_in : List (List X) → List X
  entries_in rows = flat_map (λ r. r) rows

  -- where in the list the p-th entry of the i-th row stands
  abbrev pub place_in : List (List X) → (i p : ℕ) → ℕ
  place_in rows i p = length (entries_in (take i rows)) + p

  -- an entry stands at the spot
  abbrev pub IsSpot : List (List X) → Spot → Type 0
  IsSpot rows s = (s.seat < length rows) × (s.place < length (get_or rows s.seat []))

  -- the entries, but for the one at a spot where one is struck
  abbrev pub left_in : List (List X) → Option Spot → List X
  left_in rows None = entries_in rows
  left_in rows (Some s) = remove (entries_in rows) (place_in rows s.seat s.place)

  -- two neighbors never have 32 or fewer between them
  abbrev pub ArePaired : List (List X) → Type 0
  ArePaired rows = (k : ℕ) → suc k < length rows
      → 32 < length (get_or rows k []) + length (get_or rows (suc k) [])

  -- each row has place for one more
  abbrev pub AreShort : List (List X) → Type 0
  AreShort rows = (k : ℕ) → length (get_or rows k []) < 64

module _ {X : Type 0} (rank : X → ℕ) where
  -- rows that a list stands in
  pub record IsLaid (rows : List (List X)) : Type 0 where
    pub rises : Rises rank (entries_in rows)
    pub filled : All (λ r. 0 < length r) rows
    pub paired : ArePaired rows

  -- rows that a list stands in, but for the row `i` that has lost an entry
  pub record IsLoose (i : ℕ) (rows : List (List X)) : Type 0 where
    pub rises : Rises rank (entries_in rows)
    pub filled : (k : ℕ) → k < length rows → k ≢ i → 0 < length (get_or rows k [])
    pub almost : (k : ℕ) → suc k < length rows
        → 32 ≤ length (get_or rows k []) + length (get_or rows (suc k) [])
    pub paired : (k : ℕ) → suc k < length rows → k ≢ i → suc k ≢ i
        → 32 < length (get_or rows k []) + length (get_or rows (suc k) [])

  -- the row where a key belongs: what stands before the row is below the key, what stands behind
  -- the row above it
  pub record IsSeat (key : ℕ) (rows : List (List X)) (i : ℕ) : Type 0 where
    pub before : All (λ x. rank x < key) (entries_in (take i rows))
    pub after : All (λ x. key < rank x) (entries_in (drop (suc i) rows))

-- what a caller sees: the list, and how many may be in it
pub record RowsState (X : Type 0) : Type 0 where
  pub items : List X
  pub room : ℕ
