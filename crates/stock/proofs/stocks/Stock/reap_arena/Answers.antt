use Rattle.std.proofs.Common.{◌∙◌, refl, inl, arith}
use Rattle.stock.proofs.Homeward.{has_there, reaped_more, reaped_each, arenas_then}
use Rattle.stock.proofs.stocks.Stock.reap_arena.Goals as goal

pub loop-cache-init : goal.loop-cache-init
loop-cache-init g c = record { reaped = λ j lt. absurd (omega (arith, lt)); others = λ i n x there. inl there; frame = λ rest a. a; fixed = refl; lasts = refl }

pub reap_cache-requires : goal.reap_cache-requires
reap_cache-requires g c = record { has = has_there c.args.self.now c.loop-cache.self c.args.arena c.caches-cache-end.result c.loop-cache.invariant.fixed c.requires.within c.caches-cache-end.ensures.value c.loop-cache.cache c.loop-cache-test.true }

pub loop-cache-preserved : goal.loop-cache-preserved
loop-cache-preserved g c =
    let i = c.loop-cache.invariant in
    record {
      reaped = reaped_more c.args.arena c.loop-cache.cache c.loop-cache.self c.reap_cache.new.self i.reaped c.reap_cache.ensures.others c.in_ok-reap_cache.ensures.reaped;
      others = arenas_then c.args.arena c.loop-cache.cache c.args.self.now c.loop-cache.self c.reap_cache.new.self i.others c.reap_cache.ensures.others;
      frame = λ rest a. c.in_ok-reap_cache.ensures.frame rest (i.frame rest a);
      fixed = c.reap_cache.ensures.fixed ∙ i.fixed;
      lasts = c.reap_cache.ensures.lasts ∙ i.lasts;
    }

pub returns-in_err-reap_cache-clause-others : goal.returns-in_err-reap_cache-clause-others
returns-in_err-reap_cache-clause-others g c = arenas_then c.args.arena c.loop-cache.cache c.args.self.now c.loop-cache.self c.reap_cache.new.self c.loop-cache.invariant.others c.reap_cache.ensures.others

pub returns-clause-reaped : goal.returns-clause-reaped
returns-clause-reaped g c = reaped_each c.args.self.now c.loop-cache.self c.args.arena c.caches-cache-end.result c.loop-cache.invariant.fixed c.requires.within c.caches-cache-end.ensures.value (λ j lt. c.loop-cache.invariant.reaped j (omega arith))
