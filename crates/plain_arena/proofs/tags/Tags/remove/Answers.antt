use Rattle.std.proofs.Common.{◌≡◌, ap, ◌∙◌, arith, Some}
use Rattle.std.specs.Ordering.{nat_cmp}
use Rattle.std.specs.FinMap as finmap
use Rattle.plain_arena.proofs.Lookups.{one_taken}
use Rattle.tag_arena.proofs.Allocations.{len_less, some_allocated}
use Rattle.plain_arena.proofs.tags.Tags.remove.Goals as goal

pub overflow_sub-self : goal.overflow_sub-self
overflow_sub-self c =
    let there : finmap.get (finmap.from_entries {R = nat_cmp} c.self.inside.ranges.entries) c.base.result ≡ Some c.args.range = rw (c.base.ensures.value, c.self.view_is) c.requires in
    omega (arith, some_allocated (finmap.from_entries {R = nat_cmp} c.self.inside.ranges.entries) c.base.result c.args.range there, c.self.invariant)

pub returns : goal.returns
returns c =
    one_taken c.self.inside.ranges.entries c.remove.new.self.entries c.base.result c.remove.ensures.updates.0
    ∙ ap (λ k. finmap.remove (finmap.from_entries {R = nat_cmp} c.self.inside.ranges.entries) k) c.base.ensures.value
    ∙ ap (λ m. finmap.remove m c.args.range.range.base) c.self.view_is

pub invariant_of-self : goal.invariant_of-self
invariant_of-self c =
    let is = one_taken c.self.inside.ranges.entries c.remove.new.self.entries c.base.result c.remove.ensures.updates.0 in
    let there : finmap.get (finmap.from_entries {R = nat_cmp} c.self.inside.ranges.entries) c.base.result ≡ Some c.args.range = rw (c.base.ensures.value, c.self.view_is) c.requires in
    let less = len_less (finmap.from_entries {R = nat_cmp} c.self.inside.ranges.entries) c.base.result c.args.range there in
    let same = ap finmap.len is in
    omega (arith, less, same, c.self.invariant)
