use Rattle.std.proofs.Common.{Err, refl}
use Rattle.local_parts.proofs.OwnWholes.{empty_whole, none_empty}
use Rattle.local_parts.proofs.PartSteps.{parts_step}
use Rattle.local_parts.proofs.locals.LocalPartsSegment.swap_empty.Goals as goal
use Rattle.arena_tree.specs.declared.part_faults.PartFault.TheVariants as asking
use Rattle.magazine_layer.specs.declared.faults.EmptyFault.TheVariants as empties

pub returns : goal.returns
returns g c =
    parts_step _ (λ s. record { spaces = s.stock.now; cpu = s.cpu.now }) (λ s. s.tree.now) _ (λ s. s.steps) c.args.self.now _ _ (c.swap_empty_at.result) _ (refl) (empty_whole (record { spaces = c.args.self.now.stock.now; cpu = c.args.self.now.cpu.now }) (record { spaces = c.swap_empty_at.new.stock; cpu = c.swap_empty_at.new.self }) c.count.ensures.stock c.args.arena c.args.cache c.in-Some.index c.in-Some.ensures.some.0 c.in-Some.ensures.some.1 c.swap_empty_at.result c.swap_empty_at.ensures) (λ d. (d, refl, refl)) refl c.saturating_add-self.ensures

pub returns-in_default : goal.returns-in_default
returns-in_default g c =
    parts_step _ (λ s. record { spaces = s.stock.now; cpu = s.cpu.now }) (λ s. s.tree.now) _ (λ s. s.steps) c.args.self.now _ _ (Err (asking.Refused empties.NoneEmpty)) _ (refl) (none_empty (record { spaces = c.args.self.now.stock.now; cpu = c.args.self.now.cpu.now }) c.count.ensures.stock c.args.arena c.args.cache c.in_default.ensures.none) (λ d. (d, refl, refl)) refl c.saturating_add-self.ensures
