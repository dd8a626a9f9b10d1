use Rattle.std.proofs.Common.{◌≡◌, ◌≢◌, ◌≤◌, ◌<◌, ◌+◌, ℕ, min, length, take, sym, ◌∙◌, ap, sum_by, arith}
use Rattle.stock.specs.OwnCaches.{OwnCacheState, own_rounds}
use Rattle.stock_audit.proofs.Counting.{arena_weight, one_more, all_counted, own_here, own_there, rounds_counted, stops_at}
use Rattle.stock_audit.proofs.lists.rounds_units.Goals as goal
use Rattle.stock_audit.proofs.lists.rounds_units.Goals.{then-indexes-arena, else-indexes-arena}

pub returns : goal.returns
returns g c =
    let past : length c.args.cpus.now ≤ c.loop-cache.cache-index = omega arith in
    c.loop-cache.invariant ∙ ap (λ n. min n 340282366920938463463374607431768211455) (all_counted (λ (o : OwnCacheState). sum_by (arena_weight c.args.arena) (own_rounds o)) c.args.cpus.now c.loop-cache.cache-index past ∙ rounds_counted c.args.arena c.args.cpus.now)

pub loop-cache-preserved : goal.loop-cache-preserved
loop-cache-preserved g c =
    let within : c.loop-cache.cache-index < length c.args.cpus.now = omega arith in
    let more = one_more (λ (o : OwnCacheState). sum_by (arena_weight c.args.arena) (own_rounds o)) c.args.cpus.now c.loop-cache.cache-index c.cache-item.result within c.cache-item.is in
    let most : ℕ = 340282366920938463463374607431768211455 in
    let counted : ℕ → ℕ = λ i. sum_by (λ (o : OwnCacheState). sum_by (arena_weight c.args.arena) (own_rounds o)) (take i c.args.cpus.now) in
    elim c.if-indexes-arena.branch [
      | then-indexes-arena w ↦
          let same : c.cache-item.result.arena ≡ c.args.arena = sym c.indexes.ensures.value.0 ∙ w.if-indexes-arena.true in
          let part = own_here c.args.arena c.cache-item.result c.indexes.ensures.own same in
          w.units-is ∙ stops_at most c.loop-cache.units (counted c.loop-cache.cache-index) (sum_by (arena_weight c.args.arena) (own_rounds c.cache-item.result)) w.saturating_add-units.result (counted (c.loop-cache.cache-index + 1))
          c.loop-cache.invariant more (w.saturating_add-units.ensures ∙ ap (λ n. min (c.loop-cache.units + n) most) (w.units.ensures ∙ sym part))
      | else-indexes-arena w ↦
          let other : c.cache-item.result.arena ≢ c.args.arena = λ e. w.if-indexes-arena.false (c.indexes.ensures.value.0 ∙ e) in
          let part = own_there c.args.arena c.cache-item.result c.indexes.ensures.own other in
          let same : counted c.loop-cache.cache-index ≡ counted (c.loop-cache.cache-index + 1) = omega (arith, more, part) in
          w.units-is ∙ (c.loop-cache.invariant ∙ ap (λ n. min n most) same)
    ]
