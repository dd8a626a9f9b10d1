use Rattle.std.proofs.Common.{is_some, sym, ◌∙◌, ap, subst}
use Rattle.slab_layer.specs.Slab.{SlabState, IsComplete}
use Rattle.slab_layer.proofs.SlabLemmas.{complete_row, complete_follows, complete_whole}
use Rattle.slab_layer.proofs.slabs.Slab.into_span.Goals as goal

pub unchop-body-requires : goal.unchop-body-requires
unchop-body-requires g c =
    let complete = subst (λ (s : SlabState). IsComplete s) (sym c.self.view_is) c.requires in
    complete_row _ _ _ _ c.self.invariant.parts complete

pub join-requires : goal.join-requires
join-requires g c =
    let complete = subst (λ (s : SlabState). IsComplete s) (sym c.self.view_is) c.requires in
    complete_follows _ _ _ _ _ c.self.invariant.parts complete c.unchop-body.ensures.joined

pub unwrap-requires : goal.unwrap-requires
unwrap-requires g c =
    let complete = subst (λ (s : SlabState). IsComplete s) (sym c.self.view_is) c.requires in
    ap is_some (c.join.ensures ∙ complete_whole _ _ _ _ _ c.self.invariant.parts complete c.len.ensures.range.some c.unchop-body.ensures.joined)

pub returns : goal.returns
returns g c =
    let complete = subst (λ (s : SlabState). IsComplete s) (sym c.self.view_is) c.requires in
    let whole = sym c.unwrap.ensures ∙ c.join.ensures ∙ complete_whole _ _ _ _ _ c.self.invariant.parts complete c.len.ensures.range.some c.unchop-body.ensures.joined in
    let span = ap (λ (s : SlabState). s.span) c.self.view_is in
    cc
