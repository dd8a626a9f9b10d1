use Rattle.std.proofs.Common.{None, Ok, refl}
use Rattle.arena_tree.proofs.LawProofs.{tag_all_same}
use Rattle.local_parts.proofs.Wholes.{reap_whole, none_reaped}
use Rattle.local_parts.proofs.PartSteps.{parts_step}
use Rattle.local_parts.proofs.locals.LocalPartsSegment.slab_reap.Goals as goal

pub returns : goal.returns
returns g c =
    parts_step _ (λ s. record { spaces = s.stock.now; cpu = s.cpu.now }) (λ s. s.tree.now) _ (λ s. s.steps) c.args.self.now _ _ (Ok c.slab_reap-reaped.result) _ (tag_all_same (Ok c.slab_reap-reaped.result)) (reap_whole _ _ c.args.self.now.cpu.now c.count-2.ensures.stock c.slab_reap-reaped.ensures.fixed c.count.ensures.stock c.args.arena c.args.cache c.in-Some.index c.in-Some.ensures.some.0 c.slab_reap-reaped.result c.slab_reap-reaped.ensures.reaped c.slab_reap-reaped.ensures.frame) (λ d. (d, refl, refl)) refl c.saturating_add-self.ensures

pub returns-in_default : goal.returns-in_default
returns-in_default g c =
    parts_step _ (λ s. record { spaces = s.stock.now; cpu = s.cpu.now }) (λ s. s.tree.now) _ (λ s. s.steps) c.args.self.now _ _ (Ok None) _ (refl) (none_reaped c.args.self.now.stock.now c.args.self.now.cpu.now c.count.ensures.stock c.args.arena c.args.cache c.in_default.ensures.none) (λ d. (d, refl, refl)) refl c.saturating_add-self.ensures
