use Rattle.std.proofs.Common.{◌≡◌, sym, subst}
use Rattle.deed_core.specs.Holding.{Holding}
use Rattle.slab_layer.specs.Slab.{SlabState, chunk_at}
use Rattle.slab_layer.proofs.SlabLemmas.{state, place_whole}
use Rattle.slab_layer.proofs.slabs.Slab.place_of.Goals as goal

pub returns-then-offset-self-ne0 : goal.returns-then-offset-self-ne0
returns-then-offset-self-ne0 g c = λ j within is.
    let h : Holding = record { root = c.args.root; range = c.args.range } in
    let span : Holding = record { root = c.self.inside.root; range = c.self.inside.span } in
    let here = subst (λ (s : SlabState). chunk_at s j ≡ h) (sym c.self.view_is) is in
    let whole = place_whole (state span c.self.inside.colour c.self.inside.chunk c.self.inside.home.items) j h here in
    c.if-offset-self-ne0.true (rw (c.base-2.ensures.value, c.base.ensures.value) whole)
