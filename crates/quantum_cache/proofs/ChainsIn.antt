-- The chain of an arena is what the tree keeps of it.
use Rattle.std.proofs.Common.{◌≡◌, ℕ, ◌≤◌, zero, suc, List, [], ◌∷◌, Option, Some, None, length, refl, sym, ap, ◌∙◌, arith}
use Rattle.std.specs.Prelude.{slice_get}
use Rattle.arena_tree.specs.declared.levels.Level.{Level}
use Rattle.arena_tree.specs.declared.trees.TreeArena.{TreeArena}
use Rattle.arena_tree.specs.Trees.{level_of, ChainFrom}
use Rattle.quantum_cache.specs.Caches.{rest_of_chain, chain_up}

pub chain_is : (n : ℕ) (arenas : List TreeArena) (o : Option ℕ) (chain : List Level) → ChainFrom arenas o chain → length chain ≤ n → chain ≡ chain_up n arenas o
chain_is zero arenas None [] c le = refl
chain_is zero arenas None (l ∷ up) c le = absurd c
chain_is zero arenas (Some id) [] c le = absurd c
chain_is zero arenas (Some id) (l ∷ up) c le = absurd (omega (arith, le))
chain_is (suc n) arenas None [] c le = refl
chain_is (suc n) arenas None (l ∷ up) c le = absurd c
chain_is (suc n) arenas (Some id) [] c le = absurd c
chain_is (suc n) arenas (Some id) (l ∷ up) c le =
    let above : up ≡ chain_up n arenas c.0.source = chain_is n arenas c.0.source up c.3 (omega (arith, le)) in
    let here : rest_of_chain (chain_up n arenas) id (slice_get arenas id) ≡ level_of id c.0 ∷ chain_up n arenas c.0.source = ap (rest_of_chain (chain_up n arenas) id) c.1 in
    (ap (λ (z : Level). z ∷ up) c.2 ∙ ap (λ (z : List Level). level_of id c.0 ∷ z) above) ∙ sym here
