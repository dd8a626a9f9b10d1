use Rattle.std.proofs.Common.{refl}
use Rattle.arena_tree.proofs.LawProofs.{tag_free_same}
use Rattle.local_parts.proofs.Wholes.{free_whole}
use Rattle.local_parts.proofs.PartSteps.{parts_step}
use Rattle.local_parts.proofs.locals.LocalPartsSegment.free.Goals as goal

pub returns : goal.returns
returns g c =
    parts_step _ (λ s. record { spaces = s.stock.now; cpu = s.cpu.now }) (λ s. s.tree.now) _ (λ s. s.steps) c.args.self.now _ _ (c.wrap.result) _ (tag_free_same c.wrap.result) (free_whole _ _ c.args.self.now.cpu.now c.count-2.ensures.stock c.free-freed.ensures.fixed c.count.ensures.stock c.args.segment c.free-freed.result _ c.wrap.ensures.word c.free-freed.ensures.freed c.free-freed.ensures.frame) (λ d. (d, refl, refl)) refl c.saturating_add-self.ensures
