-- The chains of a tree, and one arena more.
use Rattle.std.proofs.Common.{◌≡◌, ◌≢◌, ℕ, zero, suc, ◌<◌, ◌≤◌, All, AllPairs, List, [], ◌∷◌, ◌++◌, length, Option, Some, None, refl, sym, ap, subst, ◌∙◌, inl, inr, arith, length-append}
use Rattle.std.specs.Prelude.{slice_get, IfSome}
use Rattle.std.specs.Global.{Vec}
use Rattle.std.proofs.lemmas.List.Elements.{All-cons, All-nil}
use Rattle.std.proofs.lemmas.Option.{slice_get_within}
use Rattle.deed_core.proofs.LawProofs.{AllPairs-append, all_from, pushed, slice_get_some, slice_get_one, slice_get_mapped, power_some}
use Rattle.arena_tree.specs.declared.levels.Level.{Level}
use Rattle.arena_tree.specs.declared.trees.TreeArena.{TreeArena}
use Rattle.arena_tree.specs.declared.limits.TheConstants.{MOST_ARENAS, LONGEST_CHAIN}
use Rattle.arena_tree.specs.Chains.{IsChain, first_id, first_node}
use Rattle.arena_tree.specs.Trees.{index_in, ChainFrom, IsArena, IsTree, ImportsFrom, level_of, node_of, nodes_of}
use Rattle.arena_tree.specs.Stored.{AreChains, IsNewChain}
use Rattle.arena_tree.proofs.TreeNames.{not_named}

-- a chain of the tree is one that steps go along
pub chain_steps : (arenas : List TreeArena) → IsTree arenas → (from : Option ℕ) (chain : List Level) → ChainFrom arenas from chain → IsChain (nodes_of arenas) chain × (first_id chain ≡ from)
chain_steps arenas tree None [] is = (tt, refl)
chain_steps arenas tree None (l ∷ up) is = absurd is
chain_steps arenas tree (Some id) [] is = absurd is
chain_steps arenas tree (Some id) (l ∷ up) is =
    let x = is.0 in
    let above = chain_steps arenas tree x.source up is.3 in
    let some : 0 < x.quantum = power_some x.quantum (tree.each id x is.1).power in
    let at : slice_get (nodes_of arenas) id ≡ Some (node_of x) = slice_get_mapped node_of arenas id x is.1 in
    let same : node_of x ≡ first_node (level_of id x) up = (let e = above.1 in cc) in
    subst (λ (z : Level). IsChain (nodes_of arenas) (z ∷ up) × (first_id (z ∷ up) ≡ Some id)) (sym is.2) ((at ∙ ap Some same, some, above.0), refl)

-- there is one
pub chain_one : (arenas : List TreeArena) (from : Option ℕ) (a b : List Level) → ChainFrom arenas from a → ChainFrom arenas from b → a ≡ b
chain_one arenas None [] [] p q = refl
chain_one arenas None [] (m ∷ b) p q = absurd q
chain_one arenas None (l ∷ a) b p q = absurd p
chain_one arenas (Some id) [] b p q = absurd p
chain_one arenas (Some id) (l ∷ a) [] p q = absurd q
chain_one arenas (Some id) (l ∷ a) (m ∷ b) p q =
    let same : p.0 ≡ q.0 = slice_get_one arenas id p.0 q.0 p.1 q.1 in
    let first : l ≡ m = p.2 ∙ ap (level_of id) same ∙ sym q.2 in
    let rest : a ≡ b = chain_one arenas (q.0).source a b (subst (λ (z : TreeArena). ChainFrom arenas z.source a) same p.3) q.3 in
    cc

-- what stands in a list stands there with one more behind
pub slice_get_more : {X : Type 0} (xs : List X) (y : X) (k : ℕ) (x : X) → slice_get xs k ≡ Some x → slice_get (xs ++ y ∷ []) k ≡ Some x
slice_get_more [] y k x at = absurd (let e : None ≡ Some x = at in cc)
slice_get_more (z ∷ xs) y zero x at = at
slice_get_more (z ∷ xs) y (suc k) x at = slice_get_more xs y k x at

pub slice_get_last : {X : Type 0} (xs : List X) (y : X) → slice_get (xs ++ y ∷ []) (length xs) ≡ Some y
slice_get_last [] y = refl
slice_get_last (x ∷ xs) y = slice_get_last xs y

chain_more : (arenas : List TreeArena) (y : TreeArena) (from : Option ℕ) (chain : List Level) → ChainFrom arenas from chain → ChainFrom (arenas ++ y ∷ []) from chain
chain_more arenas y None [] is = tt
chain_more arenas y None (l ∷ up) is = absurd is
chain_more arenas y (Some id) [] is = absurd is
chain_more arenas y (Some id) (l ∷ up) is = (is.0, slice_get_more arenas y id is.0 is.1, is.2, chain_more arenas y (is.0).source up is.3)

if_some : {X : Type 0} (o : Option X) (P Q : X → Type 0) → ((x : X) → P x → Q x) → IfSome o P → IfSome o Q
if_some None P Q f p = tt
if_some (Some x) P Q f p = f x p

arena_more : (arenas : List TreeArena) (y : TreeArena) (id : ℕ) (x : TreeArena) → IsArena arenas id x → IsArena (arenas ++ y ∷ []) id x
arena_more arenas y id x is = record {
  power = is.power;
  caches = is.caches;
  source = if_some x.source (ImportsFrom arenas id x) (ImportsFrom (arenas ++ y ∷ []) id x)
      (λ s from. (from.0, ((from.1).0, slice_get_more arenas y s (from.1).0 (from.1).1, (from.1).2))) is.source;
  minimum = is.minimum;
}

-- what holds of each chain that is kept holds of each chain
short_chains : (arenas : List TreeArena) (chains : List (Vec Level)) → AreChains arenas chains → (id : ℕ) (chain : List Level) → ChainFrom arenas (Some id) chain → length chain ≤ LONGEST_CHAIN
short_chains arenas chains are id [] is = absurd is
short_chains arenas chains are id (l ∷ up) is =
    let within : id < length arenas = slice_get_within arenas id is.0 is.1 in
    let kept = slice_get_some chains id (subst (λ n. id < n) (sym are.count) within) in
    let each = are.each id kept.0 kept.1 in
    let one : (kept.0).items ≡ l ∷ up = chain_one arenas (Some id) (kept.0).items (l ∷ up) each.0 is in
    subst (λ (ls : List Level). length ls ≤ LONGEST_CHAIN) one each.1

-- one arena more
pub tree_more : (arenas : List TreeArena) (y : TreeArena) (chains : List (Vec Level)) → IsTree arenas → AreChains (arenas ++ y ∷ []) chains → length arenas < MOST_ARENAS → index_in y.name arenas ≡ None → IsArena arenas (length arenas) y
    → IsTree (arenas ++ y ∷ [])
tree_more arenas y chains tree are room free is = record {
  few = (let n = length-append arenas (y ∷ []) in omega (arith, room, n));
  names = AllPairs-append (λ x z. x.name ≢ z.name) arenas (y ∷ []) tree.names one
      (all_from (λ x. All (λ z. x.name ≢ z.name) (y ∷ [])) arenas (λ k x at. All-cons (λ z. x.name ≢ z.name) y [] (not_named y.name arenas free k x at) (All-nil (λ (z : TreeArena). x.name ≢ z.name))));
  each = λ id x at. elim (pushed arenas id y x at) [
    | inl here ↦ arena_more arenas y id x (subst (λ (z : TreeArena). IsArena arenas id z) (sym here.1) (subst (λ k. IsArena arenas k y) (sym here.0) is))
    | inr there ↦ arena_more arenas y id x (tree.each id x there)
  ];
  short = short_chains (arenas ++ y ∷ []) chains are;
}
  where
    one : AllPairs (λ x z. x.name ≢ z.name) (y ∷ [])
    one i j d before within = absurd (omega (arith, before, within))

pub chains_more : (arenas : List TreeArena) (y : TreeArena) (chains : List (Vec Level)) (chain : Vec Level) → AreChains arenas chains → IsNewChain arenas y chain.items → AreChains (arenas ++ y ∷ []) (chains ++ chain ∷ [])
chains_more arenas y chains chain are new = record {
  count = (let n = length-append arenas (y ∷ []) in let m = length-append chains (chain ∷ []) in let c = are.count in omega (arith, n, m, c));
  each = λ id c at. elim (pushed chains id chain c at) [
    | inl here ↦
        let index : id ≡ length arenas = here.0 ∙ are.count in
        let short : length (level_of (length arenas) y ∷ new.up) ≤ LONGEST_CHAIN = (let s = new.short in omega (arith, s)) in
        let made : ChainFrom (arenas ++ y ∷ []) (Some (length arenas)) (level_of (length arenas) y ∷ new.up) × (length (level_of (length arenas) y ∷ new.up) ≤ LONGEST_CHAIN) =
        ((y, slice_get_last arenas y, refl, chain_more arenas y y.source new.up new.above), short) in
        subst (λ (z : Vec Level). ChainFrom (arenas ++ y ∷ []) (Some id) z.items × (length z.items ≤ LONGEST_CHAIN)) (sym here.1)
        (subst (λ k. ChainFrom (arenas ++ y ∷ []) (Some k) chain.items × (length chain.items ≤ LONGEST_CHAIN)) (sym index)
        (subst (λ (ls : List Level). ChainFrom (arenas ++ y ∷ []) (Some (length arenas)) ls × (length ls ≤ LONGEST_CHAIN)) (sym new.is) made))
    | inr there ↦ (chain_more arenas y (Some id) c.items (are.each id c there).0, (are.each id c there).1)
  ];
}

-- the same, of what a tree stores
pub put_keeps : (now items new : List TreeArena) (chains newer : List (Vec Level)) (y : TreeArena) (chain : Vec Level) → items ≡ now → IsTree items × AreChains items chains → length now < MOST_ARENAS → index_in y.name now ≡ None
    → IsArena now (length now) y → IsNewChain now y chain.items → new ≡ items ++ y ∷ [] → newer ≡ chains ++ chain ∷ [] → IsTree new × AreChains new newer
put_keeps now items new chains newer y chain is sound room free arena above put put_chain =
    let room' : length items < MOST_ARENAS = subst (λ (s : List TreeArena). length s < MOST_ARENAS) (sym is) room in
    let free' : index_in y.name items ≡ None = subst (λ (s : List TreeArena). index_in y.name s ≡ None) (sym is) free in
    let arena' : IsArena items (length items) y = subst (λ (s : List TreeArena). IsArena s (length s) y) (sym is) arena in
    let above' : IsNewChain items y chain.items = subst (λ (s : List TreeArena). IsNewChain s y chain.items) (sym is) above in
    let more : AreChains (items ++ y ∷ []) (chains ++ chain ∷ []) = chains_more items y chains chain sound.1 above' in (
      subst IsTree (sym put) (tree_more items y (chains ++ chain ∷ []) sound.0 more room' free' arena'),
      subst (λ (s : List TreeArena). AreChains s newer) (sym put) (subst (AreChains (items ++ y ∷ [])) (sym put_chain) more),
    )
