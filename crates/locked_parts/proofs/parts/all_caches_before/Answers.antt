use Rattle.std.proofs.Common.{◌∙◌, ◌≢◌, ◌+◌, ◌<◌, ap, sym, length, arith, length-set, get_or-set_other, get_or-set_same, below_more}
use Rattle.locked_parts.specs.Kinds.{caches_before}
use Rattle.locked_parts.proofs.Begins.{before_more}
use Rattle.locked_parts.proofs.parts.all_caches_before.Goals as goal

pub loop-id-preserved : goal.loop-id-preserved
loop-id-preserved c =
    let tree = c.args.tree.now in
    let id = c.loop-id.id in (
      ap (λ n. n + c.cache_count.result) c.loop-id.invariant.0 ∙ ap (λ n. caches_before tree id + n) c.cache_count.ensures ∙ sym (before_more tree id),
      omega (arith, c.loop-id.invariant.1, c.cache_count.type_inv),
      length-set c.loop-id.counts id c.loop-id.before ∙ c.loop-id.invariant.2,
      below_more _ _ (λ k h. let ne : k ≢ id = omega arith in rw get_or-set_other (c.loop-id.invariant.3 k h))
          (let lt : id < length c.loop-id.counts = omega (arith, c.loop-id.invariant.2, c.loop-id-test.true, c.len-id-end.ensures.value, c.len-id-end.ensures.tree.few) in rw get_or-set_same c.loop-id.invariant.0),
    )
