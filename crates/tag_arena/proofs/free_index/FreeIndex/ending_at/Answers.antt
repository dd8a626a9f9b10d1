use Rattle.std.proofs.Common.{All, None, Some, sym, ap, subst}
use Rattle.std.specs.Option.{option_map}
use Rattle.deed_core.specs.Extent.{Covers}
use Rattle.tag_arena.specs.Boundaries.{EndsAt}
use Rattle.tag_arena.proofs.Bordering.{ends_at}
use Rattle.tag_arena.proofs.Lasting.{all_ranges}
use Rattle.tag_arena.proofs.Neighboring.{ends_by}
use Rattle.tag_arena.proofs.free_index.FreeIndex.ending_at.Goals as goal

pub returns-then-has_bases : goal.returns-then-has_bases
returns-then-has_bases g c =
    let s = c.self.inside in
    subst (λ l. EndsAt c.args.end l (option_map (λ f. f.range) c.range_with.result)) (ap (λ v. v.ranges) c.self.view_is)
    (ends_by c.args.end _ (option_map (λ f. f.range) c.range_with.result) c.requires.some (all_ranges s.clock s.slots.tags c.self.invariant.tags)
    (subst (All (λ r. ¬ Covers r.range c.args.end)) (sym (ap (λ v. v.ranges) c.self.view_is)) c.requires.clear) c.range_with.ensures)

pub returns-in-Some : goal.returns-in-Some
returns-in-Some g c =
    subst (λ l. EndsAt c.args.end l (Some c.in-Some.range)) (ap (λ v. v.ranges) c.self.view_is)
    (ends_at c.self.inside.slots.tags c.args.end (Some c.in-Some.range) c.in-Some.ensures)

pub returns-in_err-range : goal.returns-in_err-range
returns-in_err-range g c =
    subst (λ o. EndsAt c.args.end c.args.self.now.ranges (option_map (λ f. f.range) o)) (sym c.from_residual.ensures)
    (subst (λ l. EndsAt c.args.end l None) (ap (λ v. v.ranges) c.self.view_is)
    (subst (EndsAt c.args.end _) c.in_err-range.was (ends_at c.self.inside.slots.tags c.args.end c.ending_at.result c.ending_at.ensures)))

pub returns : goal.returns
returns g c =
    subst (λ l. EndsAt c.args.end l (Some c.in_ok-range.range)) (ap (λ v. v.ranges) c.self.view_is)
    (subst (EndsAt c.args.end _) c.in_ok-range.was (ends_at c.self.inside.slots.tags c.args.end c.ending_at.result c.ending_at.ensures))
