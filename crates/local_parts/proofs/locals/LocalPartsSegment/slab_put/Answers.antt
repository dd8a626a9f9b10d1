use Rattle.std.proofs.Common.{refl}
use Rattle.arena_tree.proofs.LawProofs.{tag_put_same}
use Rattle.local_parts.proofs.Wholes.{put_whole}
use Rattle.local_parts.proofs.PartSteps.{parts_step}
use Rattle.local_parts.proofs.locals.LocalPartsSegment.slab_put.Goals as goal

pub returns : goal.returns
returns g c =
    parts_step _ (λ s. record { spaces = s.stock.now; cpu = s.cpu.now }) (λ s. s.tree.now) _ (λ s. s.steps) c.args.self.now _ _ (c.wrap.result) _ (tag_put_same c.wrap.result) (put_whole _ _ c.args.self.now.cpu.now c.count-2.ensures.stock c.slab_put-done.ensures.fixed c.count.ensures.stock c.args.segment c.slab_put-done.result _ c.wrap.ensures.word c.slab_put-done.ensures.put c.slab_put-done.ensures.frame) (λ d. (d, refl, refl)) refl c.saturating_add-self.ensures
