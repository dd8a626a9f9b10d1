-- A stock that has a tree's arenas is seen as that tree; the only span of a setup.
use Rattle.std.proofs.Common.{◌≡◌, ℕ, suc, ◌<◌, refl, List, [], ◌∷◌, length, map, Some, arith}
use Rattle.std.specs.Prelude.{slice_get}
use Rattle.arena_tree.specs.declared.setups.OwnedSpan.{OwnedSpan}
use Rattle.arena_tree.specs.declared.trees.TreeArena.{TreeArena}
use Rattle.arena_tree.specs.Trees.{nodes_of, node_of}
use Rattle.stock.specs.Spaces.{SpaceState, plan_of, plans_of}
use Rattle.local_parts.specs.States.{tree_of, sized_node}

same_node : (s : SpaceState) (x : TreeArena) → x.source ≡ s.source → x.quantum ≡ s.arena.quantum → sized_node (plan_of s) x ≡ node_of x
same_node s x source quantum = cc

pub same_nodes : (spaces : List SpaceState) (arenas : List TreeArena) → length spaces ≡ length arenas → ((k : ℕ) (s : SpaceState) (x : TreeArena) → k < length arenas → slice_get spaces k ≡ Some s → slice_get arenas k ≡ Some x → (x.source ≡ s.source) × (x.quantum ≡ s.arena.quantum)) → tree_of (plans_of spaces) arenas ≡ nodes_of arenas
same_nodes [] [] same each = refl
same_nodes [] (x ∷ arenas) same each = absurd (omega (arith, same))
same_nodes (s ∷ spaces) [] same each = absurd (omega (arith, same))
same_nodes (s ∷ spaces) (x ∷ arenas) same each = let first = each 0 s x (omega (arith)) refl refl in let one = same_node s x first.0 first.1 in let rest = same_nodes spaces arenas (omega (arith, same)) (λ k t y lt a b. each (suc k) t y (omega (arith, lt)) a b) in cc

-- the ranges of a list of one span
pub one_range : (spans : List OwnedSpan) (o : OwnedSpan) → length spans ≡ 1 → slice_get spans 0 ≡ Some o → map (λ (x : OwnedSpan). x.range) spans ≡ o.range ∷ []
one_range [] o one at = absurd (omega (arith, one))
one_range (x ∷ []) o one at = (let same : Some x ≡ Some o = at in cc)
one_range (x ∷ y ∷ more) o one at = absurd (omega (arith, one))
