use Rattle.std.proofs.Common.{◌∙◌, ap, inl, refl, subst}
use Rattle.locked_parts.specs.Kinds.{KindDepotState}
use Rattle.locked_parts.specs.Walks.{IsResizeFor}
use Rattle.locked_parts.specs.declared.kinds.CacheKind.{CacheKind}
use Rattle.locked_parts.proofs.locked_depots.LockedDepotsDepots.resize.Goals as goal

pub returns-in-Ok : goal.returns-in-Ok
returns-in-Ok g c =
    let same = ap (λ (d : KindDepotState). d.kind) c.deref_mut.ensures.value ∙ c.in-Ok.ensures.same in
    (refl, inl (c.resize-said.result, refl, subst (λ (k : CacheKind). IsResizeFor k c.args.size c.resize-said.result) same c.resize-said.ensures.said, c.rose-rose.ensures))
