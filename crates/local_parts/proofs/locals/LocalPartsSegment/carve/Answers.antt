use Rattle.std.proofs.Common.{refl}
use Rattle.arena_tree.proofs.LawProofs.{tag_ok_same}
use Rattle.local_parts.proofs.Trees.{within_tree}
use Rattle.local_parts.proofs.Wholes.{carve_whole}
use Rattle.local_parts.proofs.PartSteps.{parts_step}
use Rattle.local_parts.proofs.locals.LocalPartsSegment.carve.Goals as goal

pub carve-carved-requires : goal.carve-carved-requires
carve-carved-requires g c = record { within = within_tree c.args.self.now.stock.now c.args.self.now.tree.now c.args.arena c.requires }

pub returns : goal.returns
returns g c =
    parts_step _ (λ s. record { spaces = s.stock.now; cpu = s.cpu.now }) (λ s. s.tree.now) _ (λ s. s.steps) c.args.self.now _ _ (c.wrap.result) _ (tag_ok_same c.wrap.result) (carve_whole _ _ c.args.self.now.cpu.now c.count-2.ensures.stock c.carve-carved.ensures.fixed c.count.ensures.stock _ _ c.carve-carved.result _ c.wrap.ensures.word c.carve-carved.ensures.carved c.carve-carved.ensures.frame) (λ d. (d, refl, refl)) refl c.saturating_add-self.ensures
