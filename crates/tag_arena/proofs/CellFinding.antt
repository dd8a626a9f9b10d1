-- Looking for an allocated range in each cell.
use Rattle.std.proofs.Common.{ℕ, ◌+◌, ◌<◌, ◌≤◌, subst, sym, ◌∙◌, inl, inr, List, length, Option, None, arith}
use Rattle.std.proofs.lemmas.Bool.{cases_lt, cases_order}
use Rattle.std.proofs.lemmas.List.{get_or_past}
use Rattle.deed_core.specs.Holding.{Holding}
use Rattle.tag_arena.specs.Cells.{IsAt}
use Rattle.tag_arena.proofs.Listing.{None≢Some}

module _ (base at : ℕ) (cells : List (Option Holding)) (below : (k : ℕ) → k < at → ¬ IsAt base k cells) where
  -- where the range at a base is in no cell below one, nor in that one, it's in none below the next
  pub none_below_next : ¬ IsAt base at cells → (k : ℕ) → k < at + 1 → ¬ IsAt base k cells
  none_below_next not k lt is =
      elim (cases_order k at) [
        | inl same ↦ not (subst (λ j. IsAt base j cells) same is)
        | inr (inl less) ↦ below k less is
        | inr (inr more) ↦ omega (arith, lt, more)
      ]

  -- and where there are no more cells, it's in none
  pub none_at_all : length cells ≤ at → (k : ℕ) → ¬ IsAt base k cells
  none_at_all all k is =
      elim (cases_lt k at) [
        | inl less ↦ below k less is
        | inr past ↦ None≢Some (sym (get_or_past cells k None (omega (arith, all, past))) ∙ is.1)
      ]
