use Rattle.std.proofs.Common.{◌≡◌, ◌∙◌, ◌<◌, ℕ, length, true, false, ap, sym, arith}
use Rattle.std.proofs.lemmas.Option.{slice_get_within}
use Rattle.deed_core.proofs.LawProofs.{read_is, slice_get_here}
use Rattle.arena_tree.specs.Chains.{quantum_in}
use Rattle.arena_tree.specs.Trees.{nodes_of}
use Rattle.locked_parts.specs.Kinds.{OwnCacheState}
use Rattle.locked_parts.specs.Owns.{cache_of}
use Rattle.locked_parts.specs.declared.kinds.CacheKind.{CacheKind}
use Rattle.locked_parts.proofs.Begins.{own_found}
use Rattle.locked_parts.proofs.own_events.own_at.Goals as goal

pub returns-then-index-caches-clause-none : goal.returns-then-index-caches-clause-none
returns-then-index-caches-clause-none g c = λ all is.
    let found = own_found c.args.parts.now.arenas c.args.caches.now (cache_of c.args.parts.now.arenas c.args.arena c.args.cache) c.own_index-index.result all is (c.own_index-index.ensures is.within is.some) in
    omega (arith, slice_get_within c.args.caches.now c.own_index-index.result found.0 found.1, c.if-index-caches.true)

pub returns-then-not-is-clause-none : goal.returns-then-not-is-clause-none
returns-then-not-is-clause-none g c = λ all is.
    let found = own_found c.args.parts.now.arenas c.args.caches.now (cache_of c.args.parts.now.arenas c.args.arena c.args.cache) c.own_index-index.result all is (c.own_index-index.ensures is.within is.some) in
    let read = read_is c.args.caches.now c.own_index-index.result c.index-caches-index.result found.0 c.index-caches-index.is found.1 in
    let quantum = sym c.quantum-quantum.ensures.value ∙ ap (λ t. quantum_in (nodes_of t) c.args.arena) c.tree-tree.ensures in
    let made : ℕ → CacheKind = λ q. record { arena = c.args.arena; number = c.args.cache; quantum = q } in
    let kind = ap made quantum in
    let same = ap (λ (r : OwnCacheState). r.kind) (c.own.view_is ∙ read) ∙ sym found.2 ∙ sym kind in
    absurd (let e : false ≡ true = sym c.if-not-is.true ∙ c.is.ensures.1 same in cc)

pub returns-clause-at : goal.returns-clause-at
returns-clause-at g c =
    let within : c.args.arena < length c.args.parts.now.arenas = omega (arith, c.if-arena-len.false, c.len.ensures.value, ap length c.tree-tree.ensures) in
    let some : 0 < c.args.cache = omega (arith, c.if-cache-eq0.false) in
    let quantum = sym c.quantum-quantum.ensures.value ∙ ap (λ t. quantum_in (nodes_of t) c.args.arena) c.tree-tree.ensures in
    let made : ℕ → CacheKind = λ q. record { arena = c.args.arena; number = c.args.cache; quantum = q } in
    let kind = ap made quantum in (
      c.index-caches-index.result,
      record {
        place = c.own_index-index.ensures within some;
        stands = slice_get_here c.args.caches.now c.own_index-index.result c.index-caches-index.result (omega (arith, c.if-index-caches.false)) c.index-caches-index.is;
        kind = sym (ap (λ (r : OwnCacheState). r.kind) c.own.view_is) ∙ c.is.ensures.0 c.if-not-is.false ∙ kind;
      },
    )
