-- The quanta of a chain, and what its first arena is in the tree.
use Rattle.std.proofs.Common.{◌≡◌, ℕ, zero, suc, ◌<◌, List, [], ◌∷◌, All, Some, None, length, ◌∙◌, sym, ap, subst}
use Rattle.std.specs.Prelude.{slice_get}
use Rattle.std.proofs.lemmas.List.Elements.{All-cons, All-nil}
use Rattle.std.proofs.lemmas.Option.{slice_get_within}
use Rattle.deed_core.specs.Tag.{Tag}
use Rattle.deed_core.proofs.LawProofs.{slice_get_mapped}
use Rattle.arena_tree.specs.Chains.{Node, IsChain, first_id, first_node, source_of, quantum_in}
use Rattle.arena_tree.specs.declared.levels.Level.{Level}
use Rattle.arena_tree.specs.declared.trees.TreeArena.{TreeArena}
use Rattle.arena_tree.specs.Trees.{node_of, nodes_of}

pub chain_quanta : (nodes : List Node) (chain : List Level) → IsChain nodes chain → All (λ l. 0 < l.quantum) chain
chain_quanta nodes [] is = All-nil (λ (l : Level). 0 < l.quantum)
chain_quanta nodes (l ∷ up) is = All-cons (λ (l : Level). 0 < l.quantum) l up is.1 (chain_quanta nodes up is.2)

pub node_read : (nodes : List Node) (id : ℕ) (n : Node) → slice_get nodes id ≡ Some n → (quantum_in nodes id ≡ n.quantum) × (source_of nodes id ≡ n.source)
node_read [] id n at = absurd (let e : None ≡ Some n = at in cc)
node_read (m ∷ nodes) zero n at = let e : Some m ≡ Some n = at in let is : m ≡ n = cc in (ap (λ z. z.quantum) is, ap (λ z. z.source) is)
node_read (m ∷ nodes) (suc id) n at = node_read nodes id n at

pub arena_read : (arenas : List TreeArena) (id : ℕ) (x : TreeArena) → slice_get arenas id ≡ Some x → (quantum_in (nodes_of arenas) id ≡ x.quantum) × (source_of (nodes_of arenas) id ≡ x.source)
arena_read arenas id x at = node_read (nodes_of arenas) id (node_of x) (slice_get_mapped node_of arenas id x at)

pub chain_read : (nodes : List Node) (l : Level) (up : List Level) → IsChain nodes (l ∷ up) → (quantum_in nodes l.id ≡ l.quantum) × (source_of nodes l.id ≡ first_id up)
chain_read nodes l up is = node_read nodes l.id (first_node l up) is.0

-- of a chain's first arena
pub chain_within : (nodes : List Node) (l : Level) (up : List Level) → IsChain nodes (l ∷ up) → l.id < length nodes
chain_within nodes l up is = slice_get_within nodes l.id (first_node l up) is.0

pub chain_quantum : (nodes : List Node) (l : Level) (up : List Level) → IsChain nodes (l ∷ up) → quantum_in nodes l.id ≡ l.quantum
chain_quantum nodes l up is = (chain_read nodes l up is).0

pub chain_source : (nodes : List Node) (l : Level) (up : List Level) → IsChain nodes (l ∷ up) → source_of nodes l.id ≡ first_id up
chain_source nodes l up is = (chain_read nodes l up is).1

-- the source of a chain's first arena is the first above it
pub chain_above : (nodes : List Node) (l : Level) (up : List Level) (given whole : Tag) → IsChain nodes (l ∷ up) → first_id (l ∷ up) ≡ Some given.arena → source_of nodes given.arena ≡ Some whole.arena → first_id up ≡ Some whole.arena
chain_above nodes l up given whole is first source =
    let here : l.id ≡ given.arena = (let e : Some l.id ≡ Some given.arena = first in cc) in
    sym (chain_source nodes l up is) ∙ subst (λ k. source_of nodes k ≡ Some whole.arena) (sym here) source

-- what a chain says of its first arena
pub ruleset first_of_chain = (chain_quanta, chain_within, chain_quantum, chain_source)
