-- The chains of a tree's arenas.
use Rattle.std.proofs.Common.{◌≡◌, ℕ, zero, suc, ◌<◌, List, [], ◌∷◌, Option, Some, None, length, refl, sym, ap, subst, ◌∙◌, arith}
use Rattle.std.specs.Prelude.{slice_get, IfSome}
use Rattle.deed_core.proofs.LawProofs.{slice_get_mapped, slice_get_some, power_some}
use Rattle.arena_tree.specs.declared.levels.Level.{Level}
use Rattle.arena_tree.specs.declared.limits.TheConstants.{LONGEST_CHAIN}
use Rattle.arena_tree.specs.declared.trees.TreeArena.{TreeArena}
use Rattle.arena_tree.specs.Chains.{IsChain, first_id, first_node}
use Rattle.arena_tree.specs.Trees.{node_of, nodes_of, level_of, ChainFrom, ImportsFrom, IsTree}
use Rattle.quantum_cache.specs.Caches.{chain_in}
use Rattle.quantum_cache.proofs.LawProofs.{chain_is}

module _ (arenas : List TreeArena) (tree : IsTree arenas) where
  -- each arena has a chain
  chain_from : (n id : ℕ) → id < n → id < length arenas → (chain : List Level) × ChainFrom arenas (Some id) chain
  chain_from zero id less within = absurd (omega (arith, less))
  chain_from (suc n) id less within = go (λ p here. chain_from n p (omega (arith, here, less)) (omega (arith, here, within))) here.0.source refl
    where
      here : (x : TreeArena) × (slice_get arenas id ≡ Some x)
      here = slice_get_some arenas id within

      go : ((p : ℕ) → p < id → (chain : List Level) × ChainFrom arenas (Some p) chain) → (o : Option ℕ) → here.0.source ≡ o → (chain : List Level) × ChainFrom arenas (Some id) chain
      go again None e = (level_of id here.0 ∷ [], (here.0, here.1, refl, subst (λ o. ChainFrom arenas o []) (sym e) tt))
      go again (Some p) e =
          let before = subst (λ o. IfSome o (ImportsFrom arenas id here.0)) e ((tree.each id here.0 here.1).source) in
          let up = again p before.0 in
          (level_of id here.0 ∷ up.0, (here.0, here.1, refl, subst (λ o. ChainFrom arenas o up.0) (sym e) up.1))

  chain_steps : (from : Option ℕ) (chain : List Level) → ChainFrom arenas from chain → IsChain (nodes_of arenas) chain × (first_id chain ≡ from)
  chain_steps None [] is = (tt, refl)
  chain_steps None (l ∷ up) is = absurd is
  chain_steps (Some id) [] is = absurd is
  chain_steps (Some id) (l ∷ up) is =
      let above = chain_steps is.0.source up is.3 in
      let at : slice_get (nodes_of arenas) id ≡ Some (node_of is.0) = slice_get_mapped node_of arenas id is.0 is.1 in
      let some : 0 < is.0.quantum = power_some is.0.quantum ((tree.each id is.0 is.1).power) in
      let same : node_of is.0 ≡ first_node (level_of id is.0) up = ap (λ s. record { source = s; quantum = is.0.quantum; import_min = is.0.import_min; qcache_max = is.0.qcache_max; slab_size = is.0.slab_size }) (sym above.1) in
      subst (λ (z : Level). IsChain (nodes_of arenas) (z ∷ up) × (first_id (z ∷ up) ≡ Some id)) (sym is.2) ((at ∙ ap Some same, some, above.0), refl)

  -- and it is the one of the tree
  pub tree_chain : (id : ℕ) → id < length arenas → IsChain (nodes_of arenas) (chain_in arenas id) × (first_id (chain_in arenas id) ≡ Some id)
  tree_chain id within =
      let c = chain_from (suc id) id (omega arith) within in
      let is : c.0 ≡ chain_in arenas id = chain_is LONGEST_CHAIN arenas (Some id) c.0 c.1 (tree.short id c.0 c.1) in
      subst (λ (z : List Level). IsChain (nodes_of arenas) z × (first_id z ≡ Some id)) is (chain_steps (Some id) c.0 c.1)
