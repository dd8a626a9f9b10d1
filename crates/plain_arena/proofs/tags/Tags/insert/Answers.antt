use Rattle.std.proofs.Common.{◌≡◌, ap, ◌∙◌, arith, None}
use Rattle.std.specs.Ordering.{nat_cmp}
use Rattle.std.specs.FinMap as finmap
use Rattle.plain_arena.proofs.Lookups.{one_put}
use Rattle.tag_arena.proofs.Allocations.{len_more}
use Rattle.plain_arena.proofs.tags.Tags.insert.Goals as goal

pub returns-clause-ok : goal.returns-clause-ok
returns-clause-ok c =
    one_put c.self.inside.ranges.entries c.insert.new.self.entries c.base.result c.args.range c.in_ok-insert.ensures.updates.0
    ∙ ap (λ k. finmap.insert (finmap.from_entries {R = nat_cmp} c.self.inside.ranges.entries) k c.args.range) c.base.ensures.value
    ∙ ap (λ m. finmap.insert m c.args.range.range.base c.args.range) c.self.view_is

pub invariant_of-self-2 : goal.invariant_of-self-2
invariant_of-self-2 c =
    let is = one_put c.self.inside.ranges.entries c.insert.new.self.entries c.base.result c.args.range c.in_ok-insert.ensures.updates.0 in
    let absent : finmap.get (finmap.from_entries {R = nat_cmp} c.self.inside.ranges.entries) c.base.result ≡ None = rw (c.base.ensures.value, c.self.view_is) c.requires.absent in
    let more = ap finmap.len is ∙ len_more (finmap.from_entries {R = nat_cmp} c.self.inside.ranges.entries) c.base.result c.args.range absent in
    omega (arith, more, c.self.invariant)
