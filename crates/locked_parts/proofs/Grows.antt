-- Which roots are handed over.
use Rattle.std.proofs.Common.{◌≡◌, ℕ, ◌+◌, ◌*◌, ◌/◌, ◌<◌, ◌≤◌, ◌∙◌, List, ◌++◌, length, arith}
use Rattle.deed_core.specs.Holding.{Holding}
use Rattle.deed_table.specs.Opened.{OpenedState, RunFrom}
use Rattle.arena_tree.specs.declared.limits.TheConstants.{MOST_SPANS}
use Rattle.locked_parts.specs.Growing.{HasRootsMore}

-- which arena a root is of
of_owner : (id beside base before left k root : ℕ) → MOST_SPANS * id + beside ≤ base → base + before + left ≡ MOST_SPANS * id + MOST_SPANS → k < before → root ≡ base + k → root / MOST_SPANS ≡ id
of_owner id beside base before left k root from all within is = omega (arith, from, all, within, is)

pub handed_over : (id owner beside : ℕ) (o : OpenedState) (old new : List Holding) → owner ≡ id → MOST_SPANS * owner + beside ≤ o.base → o.base + length o.roots + o.left ≡ MOST_SPANS * owner + MOST_SPANS
    → RunFrom o.base o.roots → new ≡ old ++ o.roots → HasRootsMore id old new
handed_over id owner beside o old new is from all run moved = (o.roots, (λ k d within. of_owner owner beside o.base (length o.roots) o.left k _ from all within (run k d within) ∙ is), moved)
