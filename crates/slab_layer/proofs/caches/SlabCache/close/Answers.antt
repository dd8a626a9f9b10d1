use Rattle.std.proofs.Common.{◌≡◌, [], true, refl, sym, subst}
use Rattle.slab_layer.specs.Cache.{SlabCacheState, deeds_of}
use Rattle.slab_layer.proofs.ReportLemmas.{none_kept, kept_none}
use Rattle.slab_layer.proofs.caches.SlabCache.close.Goals as goal

pub returns-then-not-are_empty-clause-empty : goal.returns-then-not-are_empty-clause-empty
returns-then-not-are_empty-clause-empty g c =
    let said = rw c.as_deque.ensures at c.are_empty.ensures in (
      λ e. cc,
      λ none.
          let here = subst (λ (x : SlabCacheState). deeds_of x ≡ []) (sym c.self.view_is) none in
          let e : c.are_empty.result ≡ true = said.1 (kept_none c.self.inside.slabs.items here) in
          let f = c.if-not-are_empty.true in
          cc,
    )

pub discard_all-requires : goal.discard_all-requires
discard_all-requires g c =
    let said = rw c.as_deque.ensures at c.are_empty.ensures in
    rw c.into_slabs.ensures (said.0 c.if-not-are_empty.false)

pub returns-clause-empty : goal.returns-clause-empty
returns-clause-empty g c =
    let said = rw c.as_deque.ensures at c.are_empty.ensures in
    (λ e. subst (λ (x : SlabCacheState). deeds_of x ≡ []) c.self.view_is (none_kept c.self.inside.slabs.items (said.0 c.if-not-are_empty.false)), λ none. refl)
