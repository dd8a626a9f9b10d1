-- Spare rows.
use Rattle.std.proofs.Common.{◌≤◌, ◌+◌, ◌-◌, ◌*◌, ℕ, List, Option, length, vec_len, arith}
use Rattle.std.specs.Global.{Vec}
use Rattle.sorted_rows.specs.declared.seats.Spot.{Spot}
use Rattle.sorted_rows.specs.Tops.{HeadedState}
use Rattle.sorted_rows.specs.Stocked.{IsStocked}

module _ {X : Type 0} (rank : X → ℕ) where
  -- more room, where there are rows for it
  pub more_room : (rows : HeadedState X) (spare : Vec (List X)) (struck : Option Spot) (len room more : ℕ) → room ≤ more → IsStocked rank rows spare struck len room → more ≤ 16 * (length rows.items + vec_len spare - 1) → IsStocked rank rows spare struck len more
  more_room rows spare struck len room more grows s enough = record {
    laid = s.laid;
    short = s.short;
    spot = s.spot;
    counted = s.counted;
    within = omega (arith, s.within, grows);
    empty = s.empty;
    enough = enough;
    rows_hold = s.rows_hold;
    spare_holds = s.spare_holds;
  }
