use Rattle.std.proofs.Common.{nat_lt, arith, rules}
use Rattle.std.proofs.lemmas.Bool.Decides.{nat_tests}
use Rattle.std.proofs.lemmas.List.Sorted.{IsPartitionPoint-from_clause}
use Rattle.slab_layer.specs.Slab.{SlabState}
use Rattle.slab_layer.proofs.SearchLemmas.{parted}
use Rattle.slab_layer.proofs.search.index_for.Goals as goal

pub returns-clause-below : goal.returns-clause-below
returns-clause-below g c = λ k d before.
    let halves = parted c.args.base c.args.slabs.now.items c.requires in
    let point = IsPartitionPoint-from_clause (λ (s : SlabState). nat_lt s.span.range.base c.args.base) _ _ c.partition_point.ensures.partitioned halves (λ a r q e. search rules) in
    let low = point.0 k d (omega arith) before in
    grind (arith, nat_tests)

pub returns-clause-above : goal.returns-clause-above
returns-clause-above g c = λ within d.
    let halves = parted c.args.base c.args.slabs.now.items c.requires in
    let point = IsPartitionPoint-from_clause (λ (s : SlabState). nat_lt s.span.range.base c.args.base) _ _ c.partition_point.ensures.partitioned halves (λ a r q e. search rules) in
    let high = point.1 c.partition_point.result d (omega arith) within in
    grind (arith, nat_tests)
