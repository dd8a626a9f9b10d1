-- What a step leaves of a stock: its invariant, its accounts, what it was set up as.
use Rattle.std.proofs.Common.{◌≡◌, ℕ, ◌<◌, sym, subst, ap, ◌∙◌, List, length, get_or, set, Some}
use Rattle.std.specs.Prelude.{slice_get}
use Rattle.deed_core.specs.Tag.{Tag}
use Rattle.deed_core.proofs.LawProofs.{slice_get_one, slice_get_here}
use Rattle.stock.specs.Spaces.{SpaceState, plans_of}
use Rattle.stock.specs.Stocks.{IsStock}
use Rattle.stock.specs.Accounts.{Frames}

pub record Moves (old : List SpaceState) (given : List Tag) (new : List SpaceState) (answered : List Tag) : Type 0 where
  pub stock : IsStock new
  pub frame : Frames old given new answered
  pub fixed : plans_of new ≡ plans_of old

-- the spaces lie in `items`, and at the index stands one with these fields
pub record Opens (spaces items : List SpaceState) (k : ℕ) (s : SpaceState) : Type 0 where
  pub same : items ≡ spaces
  pub at : slice_get spaces k ≡ Some s

pub opens : (spaces items : List SpaceState) (k : ℕ) (s read : SpaceState) → items ≡ spaces → k < length spaces → read ≡ get_or items k read → s ≡ read → Opens spaces items k s
opens spaces items k s read same within at_read view = record {
  same = same;
  at = ap (λ (xs : List SpaceState). slice_get xs k) (sym same) ∙ slice_get_here items k read (subst (λ (xs : List SpaceState). k < length xs) (sym same) within) at_read ∙ ap Some (sym view);
}

module _ (spaces items : List SpaceState) (k : ℕ) (s : SpaceState) (o : Opens spaces items k s) (x : SpaceState) where
  -- what is written into `items` is written into the spaces
  pub is_written : set items k x ≡ set spaces k x
  is_written = ap (λ (xs : List SpaceState). set xs k x) o.same

  pub moves_there : (given answered : List Tag) → Moves spaces given (set spaces k x) answered → Moves spaces given (set items k x) answered
  moves_there given answered m = subst (λ (xs : List SpaceState). Moves spaces given xs answered) (sym is_written) m

-- what holds of the space that was opened holds of the one at the index
pub at_space : (spaces items : List SpaceState) (k : ℕ) (s : SpaceState) → Opens spaces items k s → (P : SpaceState → Type 0) → P s → (x : SpaceState) → slice_get spaces k ≡ Some x → P x
at_space spaces items k s o P here x at = subst P (slice_get_one spaces k s x o.at at) here
