-- What is always so of a list in rows.
use Rattle.std.specs.Prelude.{◌≡◌, ◌≤◌, ◌+◌, ◌-◌, ◌*◌, ℕ, List, [], Option, length, All, IfSome}
use Rattle.std.specs.Prelude.{vec_len, vec_capacity}
use Rattle.std.specs.Global.{Vec}
use Rattle.sorted_rows.specs.declared.seats.Spot.{Spot}
use Rattle.sorted_rows.specs.Tops.{HeadedState}
use Rattle.sorted_rows.specs.Layout.{entries_in, left_in, AreShort, IsLaid, IsSpot}

module _ {X : Type 0} (rank : X → ℕ) where
  -- all is laid in rows, a struck entry too, and there are spare rows for as many more as there is
  -- room
  pub record IsStocked (rows : HeadedState X) (spare : Vec (List X)) (struck : Option Spot)
      (len room : ℕ) : Type 0 where
    pub laid : IsLaid rank rows.items
    pub short : AreShort rows.items
    pub spot : IfSome struck (IsSpot rows.items)
    pub counted : len ≡ length (left_in rows.items struck)
    pub within : length (entries_in rows.items) ≤ room
    pub empty : All (λ r. r ≡ []) spare.items
    pub enough : room ≤ 16 * (length rows.items + vec_len spare - 1)
    pub rows_hold : length rows.items + vec_len spare ≤ rows.capacity
    pub spare_holds : length rows.items + vec_len spare ≤ vec_capacity spare
