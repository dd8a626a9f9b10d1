use Rattle.std.proofs.Common.{ℕ, arith, sym, subst}
use Rattle.deed_core.specs.Extent.{Extent, Overlap}
use Rattle.slab_layer.proofs.SearchLemmas.{IsCut}
use Rattle.slab_layer.proofs.FindLemmas.{none_shared, shared_in_last}
use Rattle.slab_layer.proofs.search.overlaps.Goals as goal

pub returns-in-Some : goal.returns-in-Some
returns-in-Some g c =
    let cut : IsCut c.end.result c.index_for.result c.args.slabs.now.items = record { within = c.index_for.ensures.within; below = c.index_for.ensures.below; above = c.index_for.ensures.above } in
    let at = subst (λ (n : ℕ). IsCut n c.index_for.result c.args.slabs.now.items) c.end.ensures.value cut in
    let last = c.in-Some.ensures in
    let here = c.overlaps.ensures in (
      λ e. (c.in-Some.i, c.index.result.now, omega (arith, c.index_for.ensures.within, last.0, last.1), sym c.index.ensures, subst (λ (x : Extent). Overlap x c.args.range) c.span.ensures.value (here.0 e)),
      λ any.
          let over = shared_in_last c.args.slabs.now.items c.index_for.result c.in-Some.i c.args.range c.index.result.now c.requires at (omega (arith, last.0, last.1)) c.index.ensures any in
          here.1 (subst (λ (x : Extent). Overlap x c.args.range) (sym c.span.ensures.value) over),
    )

pub returns-in-None : goal.returns-in-None
returns-in-None g c =
    let cut : IsCut c.end.result c.index_for.result c.args.slabs.now.items = record { within = c.index_for.ensures.within; below = c.index_for.ensures.below; above = c.index_for.ensures.above } in
    let at = subst (λ (n : ℕ). IsCut n c.index_for.result c.args.slabs.now.items) c.end.ensures.value cut in
    (λ e. cc, λ any. absurd (none_shared c.args.slabs.now.items c.index_for.result c.args.range c.requires at c.in-None.ensures any))
