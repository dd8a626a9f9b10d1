-- Leases end, one after another.
use Rattle.std.proofs.Common.{List, ◌∷◌, ◌++◌, arith}
use Rattle.std.proofs.lemmas.List.Sums.{sum_by-append, sum_by-cons}
use Rattle.deed_core.specs.Tag.{Tag}
use Rattle.deed_core.specs.Weights.{Loses}
use Rattle.stock.specs.Accounts.{Accounts}
use Rattle.stock.specs.Spaces.{SpaceState}
use Rattle.stock.proofs.LawProofs.{out_weighs}

-- a lease that ends is out as before
pub lease_ends : (spaces : List SpaceState) (before after : List Tag) (t : Tag) → Loses before after t → (others : List Tag) → Accounts spaces (before ++ others) → Accounts spaces (t ∷ (after ++ others))
lease_ends spaces before after t loses others acc = out_weighs spaces (before ++ others) (t ∷ (after ++ others)) (λ f. omega (arith, sum_by-append f before others, sum_by-cons f t (after ++ others), sum_by-append f after others, loses f)) acc
