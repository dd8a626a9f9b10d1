use Rattle.std.proofs.Common.{arith, ◌≡◌, ◌≤◌, ◌*◌, ◌∙◌, sym, subst, List}
use Rattle.arena_tree.specs.Settings.{span_count}
use Rattle.arena_tree.specs.declared.limits.TheConstants.{MOST_SPANS}
use Rattle.arena_tree.specs.declared.setups.OwnedSpan.{OwnedSpan}
use Rattle.arena_tree.specs.declared.trees.TreeArena.{TreeArena}
use Rattle.locked_parts.specs.News.{IsMadeAsSet, numbered_from, ranges_owned}
use Rattle.lease_threads.proofs.Roots.{opened_more, made_more}
use Rattle.lease_threads.proofs.openings.open_each.Goals as goal

pub loop-id-preserved : goal.loop-id-preserved
loop-id-preserved g c = (
  omega (arith, c.loop-id.invariant.0, c.push_reserved.ensures.len),
  c.push_reserved.ensures.capacity ∙ c.loop-id.invariant.1,
  omega (arith, c.loop-id.invariant.2, c.in_ok-opened.ensures.first),
  omega (arith, c.loop-id.invariant.3, c.in_ok-opened.ensures.left),
  made_more c.args.setup.now.arenas c.loop-id.made.items c.push_reserved.new.self.items c.in_ok-opened.opened c.loop-id.id (sym c.loop-id.made.ok.0 ∙ c.loop-id.invariant.0) c.push_reserved.ensures.items c.loop-id.invariant.4 (subst (λ (t : List TreeArena). IsMadeAsSet t c.loop-id.id c.in_ok-opened.opened) c.tree-in-loop-id.ensures.value c.in_ok-opened.ensures.set_up),
  opened_more c.args.setup.now.spans c.loop-id.made.items c.push_reserved.new.self.items c.in_ok-opened.opened c.loop-id.id c.push_reserved.ensures.items (subst (λ (s : List OwnedSpan). c.in_ok-opened.opened.roots ≡ numbered_from (MOST_SPANS * c.loop-id.id) (ranges_owned c.loop-id.id s)) c.spans.ensures.value c.in_ok-opened.ensures.roots) c.loop-id.invariant.5,
)

pub open-requires-clause-few : goal.open-requires-clause-few
open-requires-clause-few g c = subst (λ (s : List OwnedSpan). span_count c.loop-id.id s ≤ MOST_SPANS) (sym c.spans.ensures.value) (c.spans.ensures.setup.few c.loop-id.id)
