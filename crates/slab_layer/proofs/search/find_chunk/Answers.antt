use Rattle.std.proofs.Common.{ℕ, arith, sym, subst}
use Rattle.slab_layer.proofs.SearchLemmas.{IsCut}
use Rattle.slab_layer.proofs.FindLemmas.{none_found, not_in_last}
use Rattle.slab_layer.proofs.search.find_chunk.Goals as goal

pub returns : goal.returns
returns g c =
    let within = c.index_for.ensures.within in
    (c.index.result.now, record { within = omega (arith, within, c.in_ok-i.ensures); is = sym c.index.ensures }, c.in_ok-j.ensures.0, c.in_ok-j.ensures.1)

pub returns-in_err-i : goal.returns-in_err-i
returns-in_err-i g c =
    let cut : IsCut c.end.result c.index_for.result c.args.slabs.now.items = record { within = c.index_for.ensures.within; below = c.index_for.ensures.below; above = c.index_for.ensures.above } in
    let at = subst (λ (n : ℕ). IsCut n c.index_for.result c.args.slabs.now.items) c.end.ensures.value cut in
    rw c.from_residual.ensures (none_found c.args.slabs.now.items c.index_for.result c.args.root c.args.range c.requires.ascending c.requires.slabs at c.in_err-i.ensures)

pub returns-in_err-j : goal.returns-in_err-j
returns-in_err-j g c =
    let cut : IsCut c.end.result c.index_for.result c.args.slabs.now.items = record { within = c.index_for.ensures.within; below = c.index_for.ensures.below; above = c.index_for.ensures.above } in
    let at = subst (λ (n : ℕ). IsCut n c.index_for.result c.args.slabs.now.items) c.end.ensures.value cut in
    let last = c.in_ok-i.ensures in
    rw c.from_residual-in_err-j.ensures (not_in_last c.args.slabs.now.items c.index_for.result c.in_ok-i.i c.args.root c.args.range c.index.result.now c.requires.ascending c.requires.slabs at (omega (arith, last.0, last.1)) c.index.ensures c.in_err-j.ensures)
