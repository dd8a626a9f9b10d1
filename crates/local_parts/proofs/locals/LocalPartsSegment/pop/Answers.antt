use Rattle.std.proofs.Common.{None, Ok, arith, refl}
use Rattle.arena_tree.proofs.LawProofs.{tag_all_same}
use Rattle.local_parts.proofs.OwnWholes.{pop_whole, none_popped}
use Rattle.local_parts.proofs.PartSteps.{parts_step}
use Rattle.local_parts.proofs.locals.LocalPartsSegment.pop.Goals as goal

pub returns : goal.returns
returns g c =
    parts_step _ (λ s. record { spaces = s.stock.now; cpu = s.cpu.now }) (λ s. s.tree.now) _ (λ s. s.steps) c.args.self.now _ _ (Ok c.pop_at.result) _ (tag_all_same (Ok c.pop_at.result)) (pop_whole c.args.self.now.stock.now c.count.ensures.stock c.args.self.now.cpu.now c.pop_at.new.self c.args.arena c.args.cache c.in-Some.index c.in-Some.ensures.some.0 c.in-Some.ensures.some.1 c.pop_at.result c.pop_at.ensures) (λ d. (d, refl, refl)) refl (omega arith)

pub returns-in_default : goal.returns-in_default
returns-in_default g c =
    parts_step _ (λ s. record { spaces = s.stock.now; cpu = s.cpu.now }) (λ s. s.tree.now) _ (λ s. s.steps) c.args.self.now _ _ (Ok None) _ (refl) (none_popped (record { spaces = c.args.self.now.stock.now; cpu = c.args.self.now.cpu.now }) c.count.ensures.stock c.args.arena c.args.cache c.in_default.ensures.none) (λ d. (d, refl, refl)) refl (omega arith)
