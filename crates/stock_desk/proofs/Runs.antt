-- Lists of steps that were gone through over a stock and a CPU.
use Rattle.std.proofs.Common.{◌≡◌, ℕ, List, [], ◌∷◌, refl, sym, ap, ◌∙◌}
use Rattle.arena_tree.specs.declared.trees.TreeArena.{TreeArena}
use Rattle.arena_tree.specs.Chains.{Node}
use Rattle.arena_tree.specs.Events.{Event, AnswerTo}
use Rattle.arena_tree.specs.Plans.{Plan, Done, Ask, Path, Step, Ran}
use Rattle.arena_tree.specs.Trees.{nodes_of, node_of}
use Rattle.stock.specs.Setups.{plans_for}
use Rattle.stock.specs.Spaces.{plans_of}
use Rattle.local_parts.specs.States.{LocalState, tree_of}
use Rattle.local_parts.specs.Steps.{LocalStep}
use Rattle.local_calls.specs.Runs.{IsLocalOf, RunsTo}
use Rattle.local_calls.proofs.LawProofs.{run_seen}

path_leaves : {S A G : Type 0} (step : S → (e : Event) → AnswerTo e → S → Type 0) (see : S → G) → ((s : S) (e : Event) (x : AnswerTo e) (t : S) → step s e x t → see t ≡ see s) → (p : Plan A) (s t : S) (a : A) → Path step p s t a → see t ≡ see s
path_leaves step see keeps (Done b) s t a d = sym (ap see d.0)
path_leaves step see keeps (Ask e f) s t a d = path_leaves step see keeps (f d.1) d.0 t a d.3 ∙ keeps s e d.1 d.0 d.2

-- what no step changes is as it was
pub ran_leaves : {S A G : Type 0} (step : S → (e : Event) → AnswerTo e → S → Type 0) (tree : S → List Node) (count rounds : S → ℕ) (see : S → G) → ((s : S) (e : Event) (x : AnswerTo e) (t : S) → step s e x t → see t ≡ see s) → (p : Plan A) (s t : S) (a : A) → Ran step tree count rounds p s t a → see t ≡ see s
ran_leaves step tree count rounds see keeps p s t a ran = path_leaves (Step step tree count rounds) see (λ u e x v d. keeps u e x v d.does) p s t a ran.path

nodes_for : (tree : List TreeArena) → tree_of (plans_for tree) tree ≡ nodes_of tree
nodes_for [] = refl
nodes_for (x ∷ tree) = ap (λ ns. node_of x ∷ ns) (nodes_for tree)

-- the arenas that the parts reach are the tree's
pub local_nodes : (tree : List TreeArena) (s : LocalState) → IsLocalOf tree s → tree_of (plans_of s.spaces) tree ≡ nodes_of tree
local_nodes tree s is = ap (λ plans. tree_of plans tree) is.plans ∙ nodes_for tree

-- a call over parts that are seen as a state
pub ran_here : {S A : Type 0} (arenas : List TreeArena) (see : S → LocalState) (step : S → (e : Event) → AnswerTo e → S → Type 0) (tree : S → List Node) (count rounds : S → ℕ)
    → ((s t : S) (e : Event) (x : AnswerTo e) → step s e x t → LocalStep (see s) e x (see t))
    → (p : Plan A) (s t : S) (a : A) → tree s ≡ nodes_of arenas → Ran step tree count rounds p s t a → RunsTo arenas p (see s) (see t) a
ran_here arenas see step tree count rounds is p s t a nodes ran = run_seen arenas see step tree count rounds is p s t a nodes ran.path
