-- What the tree says of a stock's arenas.
use Rattle.std.proofs.Common.{◌≡◌, ℕ, suc, zero, ◌<◌, refl, ap, List, [], ◌∷◌, length, Some, None, arith}
use Rattle.std.specs.Prelude.{slice_get}
use Rattle.deed_core.proofs.LawProofs.{slice_get_mapped}
use Rattle.arena_tree.specs.declared.trees.TreeArena.{TreeArena}
use Rattle.arena_tree.specs.Chains.{source_of, quantum_in}
use Rattle.stock.specs.Spaces.{SpaceState, SpacePlan, plan_of, plans_of}
use Rattle.local_parts.specs.States.{tree_of}

plan_read : (plans : List SpacePlan) (sizes : List TreeArena) (k : ℕ) (p : SpacePlan) → slice_get plans k ≡ Some p → (quantum_in (tree_of plans sizes) k ≡ p.quantum) × (source_of (tree_of plans sizes) k ≡ p.source)
plan_read [] sizes k p at = absurd (let e : None ≡ Some p = at in cc)
plan_read (z ∷ plans) [] zero p at = let e : Some z ≡ Some p = at in let is : z ≡ p = cc in (ap (λ (x : SpacePlan). x.quantum) is, ap (λ (x : SpacePlan). x.source) is)
plan_read (z ∷ plans) (x ∷ sizes) zero p at = let e : Some z ≡ Some p = at in let is : z ≡ p = cc in (ap (λ (x : SpacePlan). x.quantum) is, ap (λ (x : SpacePlan). x.source) is)
plan_read (z ∷ plans) [] (suc k) p at = plan_read plans [] k p at
plan_read (z ∷ plans) (x ∷ sizes) (suc k) p at = plan_read plans sizes k p at

length_at : (plans : List SpacePlan) (sizes : List TreeArena) → length (tree_of plans sizes) ≡ length plans
length_at [] sizes = refl
length_at (z ∷ plans) [] = ap suc (length_at plans [])
length_at (z ∷ plans) (x ∷ sizes) = ap suc (length_at plans sizes)

plan_count : (spaces : List SpaceState) → length (plans_of spaces) ≡ length spaces
plan_count [] = refl
plan_count (s ∷ spaces) = ap suc (plan_count spaces)

pub quantum_here : (spaces : List SpaceState) (sizes : List TreeArena) (k : ℕ) (s : SpaceState) → slice_get spaces k ≡ Some s → quantum_in (tree_of (plans_of spaces) sizes) k ≡ s.arena.quantum
quantum_here spaces sizes k s at = (plan_read (plans_of spaces) sizes k (plan_of s) (slice_get_mapped plan_of spaces k s at)).0

pub source_here : (spaces : List SpaceState) (sizes : List TreeArena) (k : ℕ) (s : SpaceState) → slice_get spaces k ≡ Some s → source_of (tree_of (plans_of spaces) sizes) k ≡ s.source
source_here spaces sizes k s at = (plan_read (plans_of spaces) sizes k (plan_of s) (slice_get_mapped plan_of spaces k s at)).1

pub within_tree : (spaces : List SpaceState) (sizes : List TreeArena) (k : ℕ) → k < length (tree_of (plans_of spaces) sizes) → k < length spaces
within_tree spaces sizes k lt = omega (arith, lt, length_at (plans_of spaces) sizes, plan_count spaces)
