use Rattle.std.proofs.Common.{Err, arith, refl}
use Rattle.local_parts.proofs.OwnWholes.{change_whole, none_changed}
use Rattle.local_parts.proofs.PartSteps.{parts_step}
use Rattle.local_parts.proofs.locals.LocalPartsSegment.change.Goals as goal
use Rattle.arena_tree.specs.declared.part_faults.PartFault.TheVariants as asking
use Rattle.arena_tree.specs.declared.part_faults.ChangeFault.TheVariants.{NotGreater}

pub returns : goal.returns
returns g c =
    parts_step _ (λ s. record { spaces = s.stock.now; cpu = s.cpu.now }) (λ s. s.tree.now) _ (λ s. s.steps) c.args.self.now _ _ (c.wrap.result) _ (refl) (change_whole c.args.self.now.stock.now c.count.ensures.stock c.args.self.now.cpu.now c.change_at-changed.new.self c.args.arena c.args.cache c.in-Some.index c.in-Some.ensures.some.0 c.in-Some.ensures.some.1 c.args.size c.change_at-changed.result _ c.wrap.ensures.word c.change_at-changed.ensures) (λ d. (d, refl, refl)) refl (omega arith)

pub returns-in_default : goal.returns-in_default
returns-in_default g c =
    parts_step _ (λ s. record { spaces = s.stock.now; cpu = s.cpu.now }) (λ s. s.tree.now) _ (λ s. s.steps) c.args.self.now _ _ (Err (asking.Refused NotGreater)) _ (refl) (none_changed (record { spaces = c.args.self.now.stock.now; cpu = c.args.self.now.cpu.now }) c.count.ensures.stock c.args.arena c.args.cache c.in_default.ensures.none c.args.size) (λ d. (d, refl, refl)) refl (omega arith)
