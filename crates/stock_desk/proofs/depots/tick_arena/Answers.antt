use Rattle.std.proofs.Common.{◌≡◌, ◌<◌, ◌∙◌, ap, set, length, arith}
use Rattle.deed_core.proofs.LawProofs.{slice_get_one}
use Rattle.magazine_layer.specs.Depots.{after_tick}
use Rattle.stock.specs.Spaces.{SpaceState}
use Rattle.lease_machine.specs.Operators.{with_depots_by}
use Rattle.stock_desk.proofs.DepotRows.{row_start, row_has, row_whole, row_more}
use Rattle.stock_desk.proofs.depots.tick_arena.Goals as goal

pub loop-cache-init : goal.loop-cache-init
loop-cache-init c = row_start after_tick c.args.arena c.args.stock.now c.requires.within

pub tick-requires : goal.tick-requires
tick-requires c =
    let count = c.caches-cache-end.ensures.value c.loop-cache.invariant.space c.loop-cache.invariant.at in
    let within : c.loop-cache.cache < length c.loop-cache.invariant.space.caches = omega (arith, count) in
    record { has = row_has after_tick c.args.arena c.loop-cache.cache c.args.stock.now c.loop-cache.stock c.loop-cache.invariant within }

pub loop-cache-preserved : goal.loop-cache-preserved
loop-cache-preserved c = row_more after_tick c.args.arena c.loop-cache.cache c.args.stock.now c.loop-cache.stock c.loop-cache.invariant (λ a b. b ≡ after_tick a) c.tick.new.self c.tick.ensures.ticked c.tick.ensures.ticked.does

pub returns : goal.returns
returns c =
    let count = c.caches-cache-end.ensures.value c.loop-cache.invariant.space c.loop-cache.invariant.at in
    let all : c.loop-cache.cache ≡ length c.loop-cache.invariant.space.caches = omega (arith, count) in
    record {
      ticked = λ s at. row_whole after_tick c.args.arena c.loop-cache.cache c.args.stock.now c.loop-cache.stock c.loop-cache.invariant all
          ∙ ap (λ (x : SpaceState). set c.args.stock.now c.args.arena (with_depots_by after_tick x)) (slice_get_one c.args.stock.now c.args.arena c.loop-cache.invariant.space s c.loop-cache.invariant.at at);
    }
