use Rattle.std.proofs.Common.{◌≡◌, refl, ◌∙◌, Some, None, inl, true, false}
use Rattle.slab_layer.specs.Calls.{ReapOf}
use Rattle.stock.proofs.Chains.{caches_stay}
use Rattle.stock.proofs.Homeward.{others_then, depots_then, slab_others, slab_depots, slab_done, slab_smaller, slab_direct, same_depots, same_others}
use Rattle.stock.proofs.Lasting.{lasts_on_slab}
use Rattle.stock.proofs.stocks.Stock.reap_slabs.Goals as goal

pub loop-span-init : goal.loop-span-init
loop-span-init g c = record { others = λ i n x there. inl there; depots = λ i n x there. (x, there, refl); frame = λ rest a. a; fixed = refl; lasts = refl }

pub slab_reap-requires : goal.slab_reap-requires
slab_reap-requires g c = record { has = caches_stay c.args.self.now c.loop-span.self c.loop-span.invariant.fixed c.args.arena c.args.cache c.requires.has }

pub loop-span-smaller : goal.loop-span-smaller
loop-span-smaller g c =
    let has = caches_stay c.args.self.now c.free_up.new.self (c.free_up.ensures.fixed ∙ c.slab_reap.ensures.fixed ∙ c.loop-span.invariant.fixed) c.args.arena c.args.cache c.requires.has in
    slab_smaller c.loop-span.self c.slab_reap.new.self c.free_up.new.self c.args.arena c.args.cache c.in-Some.span c.in-Some.ensures.reaped has c.free_up.ensures.caches

pub loop-span-preserved : goal.loop-span-preserved
loop-span-preserved g c =
    let i = c.loop-span.invariant in
    record {
      others = others_then c.args.arena c.args.cache c.args.self.now c.slab_reap.new.self c.free_up.new.self (others_then c.args.arena c.args.cache c.args.self.now c.loop-span.self c.slab_reap.new.self i.others (slab_others c.loop-span.self c.slab_reap.new.self c.args.arena c.args.cache (λ a b. ReapOf a (Some c.in-Some.span) b) c.in-Some.ensures.reaped)) (same_others c.args.arena c.args.cache c.slab_reap.new.self c.free_up.new.self c.free_up.ensures.caches);
      depots = depots_then c.args.self.now c.slab_reap.new.self c.free_up.new.self (depots_then c.args.self.now c.loop-span.self c.slab_reap.new.self i.depots (slab_depots c.loop-span.self c.slab_reap.new.self c.args.arena c.args.cache (λ a b. ReapOf a (Some c.in-Some.span) b) c.in-Some.ensures.reaped)) (same_depots c.slab_reap.new.self c.free_up.new.self c.free_up.ensures.caches);
      frame = λ rest a. c.in_ok-free_up.ensures.frame rest (c.in-Some.ensures.frame rest (i.frame rest a));
      fixed = c.free_up.ensures.fixed ∙ c.slab_reap.ensures.fixed ∙ i.fixed;
      lasts = c.free_up.ensures.lasts ∙ lasts_on_slab c.loop-span.self c.slab_reap.new.self c.args.arena c.args.cache (λ a b. ReapOf a (Some c.in-Some.span) b) c.in-Some.ensures.reaped ∙ i.lasts;
    }

pub returns-in_err-free_up-clause-others : goal.returns-in_err-free_up-clause-others
returns-in_err-free_up-clause-others g c = others_then c.args.arena c.args.cache c.args.self.now c.slab_reap.new.self c.free_up.new.self (others_then c.args.arena c.args.cache c.args.self.now c.loop-span.self c.slab_reap.new.self c.loop-span.invariant.others (slab_others c.loop-span.self c.slab_reap.new.self c.args.arena c.args.cache (λ a b. ReapOf a (Some c.in-Some.span) b) c.in-Some.ensures.reaped)) (same_others c.args.arena c.args.cache c.slab_reap.new.self c.free_up.new.self c.free_up.ensures.caches)

pub returns-in_err-free_up-clause-depots : goal.returns-in_err-free_up-clause-depots
returns-in_err-free_up-clause-depots g c = depots_then c.args.self.now c.slab_reap.new.self c.free_up.new.self (depots_then c.args.self.now c.loop-span.self c.slab_reap.new.self c.loop-span.invariant.depots (slab_depots c.loop-span.self c.slab_reap.new.self c.args.arena c.args.cache (λ a b. ReapOf a (Some c.in-Some.span) b) c.in-Some.ensures.reaped)) (same_depots c.slab_reap.new.self c.free_up.new.self c.free_up.ensures.caches)

pub returns-in_err-free_up-clause-never : goal.returns-in_err-free_up-clause-never
returns-in_err-free_up-clause-never g c rest a =
    absurd (let refused : false ≡ true = c.in_err-free_up.ensures.never (slab_direct c.loop-span.self c.slab_reap.new.self c.args.arena c.args.cache c.in-Some.span c.in-Some.ensures.reaped) rest (c.in-Some.ensures.frame rest (c.loop-span.invariant.frame rest a)) in cc)

pub returns-clause-reaped : goal.returns-clause-reaped
returns-clause-reaped g c = slab_done c.loop-span.self c.slab_reap.new.self c.args.arena c.args.cache c.in_default.ensures.reaped

pub returns-clause-others : goal.returns-clause-others
returns-clause-others g c = others_then c.args.arena c.args.cache c.args.self.now c.loop-span.self c.slab_reap.new.self c.loop-span.invariant.others (slab_others c.loop-span.self c.slab_reap.new.self c.args.arena c.args.cache (λ a b. ReapOf a None b) c.in_default.ensures.reaped)

pub returns-clause-depots : goal.returns-clause-depots
returns-clause-depots g c = depots_then c.args.self.now c.loop-span.self c.slab_reap.new.self c.loop-span.invariant.depots (slab_depots c.loop-span.self c.slab_reap.new.self c.args.arena c.args.cache (λ a b. ReapOf a None b) c.in_default.ensures.reaped)

pub returns-in_err-free_up-clause-lasts : goal.returns-in_err-free_up-clause-lasts
returns-in_err-free_up-clause-lasts g c = c.free_up.ensures.lasts ∙ lasts_on_slab c.loop-span.self c.slab_reap.new.self c.args.arena c.args.cache (λ a b. ReapOf a (Some c.in-Some.span) b) c.in-Some.ensures.reaped ∙ c.loop-span.invariant.lasts

pub returns-clause-lasts : goal.returns-clause-lasts
returns-clause-lasts g c = lasts_on_slab c.loop-span.self c.slab_reap.new.self c.args.arena c.args.cache (λ a b. ReapOf a None b) c.in_default.ensures.reaped ∙ c.loop-span.invariant.lasts
