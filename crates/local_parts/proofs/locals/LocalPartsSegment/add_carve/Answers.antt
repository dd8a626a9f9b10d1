use Rattle.std.proofs.Common.{refl, subst, sym}
use Rattle.arena_tree.proofs.LawProofs.{tag_add_same}
use Rattle.local_parts.proofs.Trees.{within_tree}
use Rattle.local_parts.proofs.Sounds.{can_import}
use Rattle.local_parts.proofs.Wholes.{import_whole}
use Rattle.local_parts.proofs.PartSteps.{parts_step}
use Rattle.local_parts.proofs.locals.LocalPartsSegment.add_carve.Goals as goal
use Rattle.deed_core.specs.Extent.{IsRange}
use Rattle.stock.specs.Steps.{CanImport}

pub add_carve-imported-requires-clause-within : goal.add_carve-imported-requires-clause-within
add_carve-imported-requires-clause-within g c = within_tree c.args.self.now.stock.now c.args.self.now.tree.now c.args.child c.requires.child

pub add_carve-imported-requires-clause-can : goal.add_carve-imported-requires-clause-can
add_carve-imported-requires-clause-can g c s at = subst (λ q. CanImport q c.args.segment s) (sym c.plain-request.ensures.value) (can_import c.args.self.now.stock.now c.args.self.now.tree.now c.args.child c.args.size c.args.segment c.requires.source c.requires.some c.requires.room c.requires.direct s at)

pub returns : goal.returns
returns g c =
    parts_step _ (λ s. record { spaces = s.stock.now; cpu = s.cpu.now }) (λ s. s.tree.now) _ (λ s. s.steps) c.args.self.now _ _ (c.wrap.result) _ (tag_add_same c.wrap.result) (import_whole _ _ c.args.self.now.cpu.now c.count-2.ensures.stock c.add_carve-imported.ensures.fixed c.count.ensures.stock _ _ c.args.segment (subst IsRange c.range.ensures.value c.range.ensures.range) (can_import c.args.self.now.stock.now c.args.self.now.tree.now c.args.child c.args.size c.args.segment c.requires.source c.requires.some c.requires.room c.requires.direct) _ c.plain-request.ensures.value c.add_carve-imported.result _ c.wrap.ensures.word c.add_carve-imported.ensures.carved c.add_carve-imported.ensures.frame) (λ d. (d, refl, refl)) refl c.saturating_add-self.ensures
