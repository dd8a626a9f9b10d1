use Rattle.std.proofs.Common.{rules, ◌≡◌, ◌≤◌, ◌∙◌, List, length, sym, subst}
use Rattle.arena_tree.specs.Settings.{span_count}
use Rattle.arena_tree.specs.declared.limits.TheConstants.{MOST_SPANS}
use Rattle.arena_tree.specs.declared.setups.OwnedSpan.{OwnedSpan}
use Rattle.arena_tree.specs.declared.trees.TreeArena.{TreeArena}
use Rattle.locked_parts.specs.News.{IsMadeAsSet}
use Rattle.running_tests.proofs.Stands.{two_stand}
use Rattle.running_tests.proofs.one_lock.made.Goals as goal

pub open-requires-clause-few : goal.open-requires-clause-few
open-requires-clause-few g c = subst (λ (spans : List OwnedSpan). span_count 0 spans ≤ MOST_SPANS) (sym c.spans.ensures.value) (c.spans.ensures.setup.few 0)

pub open-requires-2-clause-few : goal.open-requires-2-clause-few
open-requires-2-clause-few g c = subst (λ (spans : List OwnedSpan). span_count 1 spans ≤ MOST_SPANS) (sym c.spans-2.ensures.value) (c.spans-2.ensures.setup.few 1)

pub new-parts-requires : goal.new-parts-requires
new-parts-requires g c =
    let count : length c.into_tree.result ≡ 2 = search rules in
    let first = subst (λ (t : List TreeArena). IsMadeAsSet t 0 c.in-Ok.first) (c.tree-2.ensures.value ∙ sym c.into_tree.ensures) c.in-Ok.ensures.set_up in
    let second = subst (λ (t : List TreeArena). IsMadeAsSet t 1 c.in-Ok-open.second) (c.tree-3.ensures.value ∙ sym c.into_tree.ensures) c.in-Ok-open.ensures.set_up in
    two_stand c.into_tree.result c.in-Ok.first c.in-Ok-open.second _ count first second (search rules)
