use Rattle.std.proofs.Common.{Err, ap, refl, sym, ◌%◌, ◌∙◌}
use Rattle.arena_tree.proofs.LawProofs.{tag_slab_same}
use Rattle.local_parts.proofs.Trees.{quantum_here}
use Rattle.local_parts.proofs.Wholes.{add_whole, none_added}
use Rattle.local_parts.proofs.PartSteps.{parts_step}
use Rattle.local_parts.proofs.locals.LocalPartsSegment.slab_add.Goals as goal
use Rattle.arena_tree.specs.declared.part_faults.GivenFault.TheVariants as giving
use Rattle.slab_layer.specs.declared.faults.AddFault.TheVariants.{WrongSize}

pub slab_add-added-requires-clause-grid : goal.slab_add-added-requires-clause-grid
slab_add-added-requires-clause-grid g c s at = ap (λ n. c.args.segment.holding.range.base % n) (sym (quantum_here c.args.self.now.stock.now c.args.self.now.tree.now c.args.arena s at)) ∙ c.requires.grid

pub returns : goal.returns
returns g c =
    parts_step _ (λ s. record { spaces = s.stock.now; cpu = s.cpu.now }) (λ s. s.tree.now) _ (λ s. s.steps) c.args.self.now _ _ (c.wrap.result) _ (tag_slab_same c.wrap.result) (add_whole _ _ c.args.self.now.cpu.now c.count-2.ensures.stock c.slab_add-added.ensures.fixed c.count.ensures.stock c.args.arena c.args.cache c.in-Some.index c.in-Some.ensures.some.0 c.args.segment c.slab_add-added.result _ c.wrap.ensures.word c.slab_add-added.ensures.added c.slab_add-added.ensures.chunk c.slab_add-added.ensures.frame) (λ d. (d, refl, refl)) refl c.saturating_add-self.ensures

pub returns-in_default : goal.returns-in_default
returns-in_default g c =
    parts_step _ (λ s. record { spaces = s.stock.now; cpu = s.cpu.now }) (λ s. s.tree.now) _ (λ s. s.steps) c.args.self.now _ _ (Err (giving.Refused (WrongSize c.args.segment))) _ (refl) (none_added c.args.self.now.stock.now c.args.self.now.cpu.now c.count.ensures.stock c.args.arena c.args.cache c.in_default.ensures.none c.args.segment) (λ d. (d, refl, refl)) refl c.saturating_add-self.ensures
