use Rattle.std.proofs.Common.{◌≤◌, ◌∙◌, length, refl, arith}
use Rattle.stock.proofs.Chains.{plans_stay}
use Rattle.stock.proofs.Homeward.{arena_more, all_reaped}
use Rattle.stock.proofs.stocks.Stock.reap_all.Goals as goal

pub loop-arena-init : goal.loop-arena-init
loop-arena-init g c = record { reaped = λ k j lt. absurd (omega (arith, lt)); frame = λ rest a. a; fixed = refl; lasts = refl }

pub reap_arena-requires : goal.reap_arena-requires
reap_arena-requires g c = record { within = (let same = (plans_stay c.args.self.now c.loop-arena.self c.loop-arena.invariant.fixed).0 in omega arith) }

pub loop-arena-preserved : goal.loop-arena-preserved
loop-arena-preserved g c =
    let i = c.loop-arena.invariant in
    record {
      reaped = arena_more c.loop-arena.arena c.loop-arena.self c.reap_arena.new.self i.reaped c.reap_arena.ensures.others c.in_ok-reap_arena.ensures.reaped;
      frame = λ rest a. c.in_ok-reap_arena.ensures.frame rest (i.frame rest a);
      fixed = c.reap_arena.ensures.fixed ∙ i.fixed;
      lasts = c.reap_arena.ensures.lasts ∙ i.lasts;
    }

pub returns-clause-reaped : goal.returns-clause-reaped
returns-clause-reaped g c =
    let few : length c.loop-arena.self ≤ c.loop-arena.arena = (let same = (plans_stay c.args.self.now c.loop-arena.self c.loop-arena.invariant.fixed).0 in omega arith) in
    all_reaped c.loop-arena.self c.loop-arena.arena few c.loop-arena.invariant.reaped
