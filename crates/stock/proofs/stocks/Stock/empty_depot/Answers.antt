use Rattle.std.proofs.Common.{◌≡◌, ◌∙◌, Some, None}
use Rattle.magazine_layer.specs.Depots.{after_tick}
use Rattle.magazine_layer.specs.Calls.{DepotReapOf}
use Rattle.stock.proofs.Chains.{caches_stay}
use Rattle.stock.proofs.Homeward.{others_then, depot_others, depot_done, depot_may, depot_smaller, tick_may, round_there}
use Rattle.stock.proofs.Lasting.{lasts_on_tick, lasts_on_reap}
use Rattle.stock.proofs.stocks.Stock.empty_depot.Goals as goal

pub loop-round-init : goal.loop-round-init
loop-round-init g c = record {
  may = tick_may c.args.self.now c.tick.new.self c.args.arena c.args.cache c.tick.ensures.ticked;
  others = depot_others c.args.self.now c.tick.new.self c.args.arena c.args.cache (λ a b. b ≡ after_tick a) c.tick.ensures.ticked;
  frame = c.tick.ensures.frame;
  fixed = c.tick.ensures.fixed;
  lasts = lasts_on_tick c.args.self.now c.tick.new.self c.args.arena c.args.cache c.tick.ensures.ticked;
}

pub depot_reap-requires : goal.depot_reap-requires
depot_reap-requires g c = record { has = caches_stay c.args.self.now c.loop-round.self c.loop-round.invariant.fixed c.args.arena c.args.cache c.requires.has }

pub put_home-requires-clause-has : goal.put_home-requires-clause-has
put_home-requires-clause-has g c = caches_stay c.args.self.now c.depot_reap.new.self (c.depot_reap.ensures.fixed ∙ c.loop-round.invariant.fixed) c.args.arena c.args.cache c.requires.has

pub put_home-requires-clause-chunk : goal.put_home-requires-clause-chunk
put_home-requires-clause-chunk g c = round_there c.loop-round.self c.depot_reap.new.self c.args.arena c.args.cache c.in-Some.round c.depot_reap.ensures.fixed c.in-Some.ensures.chunk

pub loop-round-smaller : goal.loop-round-smaller
loop-round-smaller g c =
    let has = caches_stay c.args.self.now c.put_home.new.self (c.put_home.ensures.fixed ∙ c.depot_reap.ensures.fixed ∙ c.loop-round.invariant.fixed) c.args.arena c.args.cache c.requires.has in
    depot_smaller c.loop-round.self c.depot_reap.new.self c.put_home.new.self c.args.arena c.args.cache c.in-Some.round c.loop-round.invariant.may c.in-Some.ensures.reaped has c.put_home.ensures.depots

pub loop-round-preserved : goal.loop-round-preserved
loop-round-preserved g c =
    let i = c.loop-round.invariant in
    record {
      may = depot_may c.loop-round.self c.depot_reap.new.self c.put_home.new.self c.args.arena c.args.cache c.in-Some.round i.may c.in-Some.ensures.reaped c.put_home.ensures.depots;
      others = others_then c.args.arena c.args.cache c.args.self.now c.depot_reap.new.self c.put_home.new.self (others_then c.args.arena c.args.cache c.args.self.now c.loop-round.self c.depot_reap.new.self i.others (depot_others c.loop-round.self c.depot_reap.new.self c.args.arena c.args.cache (λ a b. DepotReapOf a (Some c.in-Some.round) b) c.in-Some.ensures.reaped)) c.put_home.ensures.others;
      frame = λ rest a. c.in_ok-put_home.ensures.frame rest (c.in-Some.ensures.frame rest (i.frame rest a));
      fixed = c.put_home.ensures.fixed ∙ c.depot_reap.ensures.fixed ∙ i.fixed;
      lasts = c.put_home.ensures.lasts ∙ lasts_on_reap c.loop-round.self c.depot_reap.new.self c.args.arena c.args.cache (Some c.in-Some.round) c.in-Some.ensures.reaped ∙ i.lasts;
    }

pub returns-in_err-put_home-clause-others : goal.returns-in_err-put_home-clause-others
returns-in_err-put_home-clause-others g c = others_then c.args.arena c.args.cache c.args.self.now c.depot_reap.new.self c.put_home.new.self (others_then c.args.arena c.args.cache c.args.self.now c.loop-round.self c.depot_reap.new.self c.loop-round.invariant.others (depot_others c.loop-round.self c.depot_reap.new.self c.args.arena c.args.cache (λ a b. DepotReapOf a (Some c.in-Some.round) b) c.in-Some.ensures.reaped)) c.put_home.ensures.others

pub returns-clause-emptied : goal.returns-clause-emptied
returns-clause-emptied g c = depot_done c.loop-round.self c.depot_reap.new.self c.args.arena c.args.cache c.loop-round.invariant.may c.in_default.ensures.reaped

pub returns-clause-others : goal.returns-clause-others
returns-clause-others g c = others_then c.args.arena c.args.cache c.args.self.now c.loop-round.self c.depot_reap.new.self c.loop-round.invariant.others (depot_others c.loop-round.self c.depot_reap.new.self c.args.arena c.args.cache (λ a b. DepotReapOf a None b) c.in_default.ensures.reaped)

pub returns-in_err-put_home-clause-lasts : goal.returns-in_err-put_home-clause-lasts
returns-in_err-put_home-clause-lasts g c = c.put_home.ensures.lasts ∙ lasts_on_reap c.loop-round.self c.depot_reap.new.self c.args.arena c.args.cache (Some c.in-Some.round) c.in-Some.ensures.reaped ∙ c.loop-round.invariant.lasts

pub returns-clause-lasts : goal.returns-clause-lasts
returns-clause-lasts g c = lasts_on_reap c.loop-round.self c.depot_reap.new.self c.args.arena c.args.cache None c.in_default.ensures.reaped ∙ c.loop-round.invariant.lasts
