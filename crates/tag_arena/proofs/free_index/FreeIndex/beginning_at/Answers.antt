use Rattle.std.proofs.Common.{None, Some, sym, ap, subst}
use Rattle.std.specs.Option.{option_map}
use Rattle.tag_arena.specs.Boundaries.{BeginsAt}
use Rattle.tag_arena.proofs.Bordering.{begins_at}
use Rattle.tag_arena.proofs.free_index.FreeIndex.beginning_at.Goals as goal

pub returns-in-Some : goal.returns-in-Some
returns-in-Some g c =
    subst (λ l. BeginsAt c.args.base l (Some c.in-Some.range)) (ap (λ v. v.ranges) c.self.view_is)
    (begins_at c.self.inside.slots.tags c.args.base (Some c.in-Some.range) c.in-Some.ensures)

pub returns-in_err-range : goal.returns-in_err-range
returns-in_err-range g c =
    subst (λ o. BeginsAt c.args.base c.args.self.now.ranges (option_map (λ f. f.range) o)) (sym c.from_residual.ensures)
    (subst (λ l. BeginsAt c.args.base l None) (ap (λ v. v.ranges) c.self.view_is)
    (subst (BeginsAt c.args.base _) c.in_err-range.was (begins_at c.self.inside.slots.tags c.args.base c.beginning_at.result c.beginning_at.ensures)))

pub returns : goal.returns
returns g c =
    subst (λ l. BeginsAt c.args.base l (Some c.in_ok-range.range)) (ap (λ v. v.ranges) c.self.view_is)
    (subst (BeginsAt c.args.base _) c.in_ok-range.was (begins_at c.self.inside.slots.tags c.args.base c.beginning_at.result c.beginning_at.ensures))
