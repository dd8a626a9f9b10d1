use Rattle.std.proofs.Common.{Err, Ok, arith, refl}
use Rattle.local_parts.proofs.OwnWholes.{push_whole, push_refused, none_pushed}
use Rattle.local_parts.proofs.PartSteps.{parts_step}
use Rattle.local_parts.proofs.locals.LocalPartsSegment.push.Goals as goal
use Rattle.arena_tree.specs.declared.part_faults.GivenFault.TheVariants as giving

pub returns-in-Ok : goal.returns-in-Ok
returns-in-Ok g c =
    parts_step _ (λ s. record { spaces = s.stock.now; cpu = s.cpu.now }) (λ s. s.tree.now) _ (λ s. s.steps) c.args.self.now _ _ (Ok tt) _ (refl) (push_whole c.args.self.now.stock.now c.count.ensures.stock c.args.self.now.cpu.now c.push_at.new.self c.args.arena c.args.cache c.in-Some.index c.in-Some.ensures.some.0 c.in-Some.ensures.some.1 c.args.segment c.in-Ok.ensures) (λ d. (d, refl, refl)) refl (omega arith)

pub returns-in-Err : goal.returns-in-Err
returns-in-Err g c =
    parts_step _ (λ s. record { spaces = s.stock.now; cpu = s.cpu.now }) (λ s. s.tree.now) _ (λ s. s.steps) c.args.self.now _ _ (Err (giving.Refused c.in-Err.segment)) _ (refl) (push_refused c.args.self.now.stock.now c.count.ensures.stock c.args.self.now.cpu.now c.push_at.new.self c.args.arena c.args.cache c.in-Some.index c.in-Some.ensures.some.0 c.in-Some.ensures.some.1 c.args.segment c.in-Err.segment c.in-Err.ensures) (λ d. (d, refl, refl)) refl (omega arith)

pub returns-in_default : goal.returns-in_default
returns-in_default g c =
    parts_step _ (λ s. record { spaces = s.stock.now; cpu = s.cpu.now }) (λ s. s.tree.now) _ (λ s. s.steps) c.args.self.now _ _ (Err (giving.Refused c.args.segment)) _ (refl) (none_pushed (record { spaces = c.args.self.now.stock.now; cpu = c.args.self.now.cpu.now }) c.count.ensures.stock c.args.arena c.args.cache c.in_default.ensures.none c.args.segment) (λ d. (d, refl, refl)) refl (omega arith)
