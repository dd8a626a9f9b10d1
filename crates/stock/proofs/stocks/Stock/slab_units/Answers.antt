use Rattle.std.proofs.Common.{◌<◌, ◌≤◌, length, ◌∙◌, sym, arith}
use Rattle.deed_core.specs.Covering.{units_in, units_held}
use Rattle.deed_core.proofs.LawProofs.{slice_get_some, sum_by-flat_map}
use Rattle.slab_layer.specs.Cache.{deeds_of}
use Rattle.stock.specs.Spaces.{QuantumCacheState}
use Rattle.stock.proofs.Counting.{cache_stands, cache_more, cache_fits, all_counted}
use Rattle.stock.proofs.stocks.Stock.slab_units.Goals as goal

pub slab_report-report-requires : goal.slab_report-report-requires
slab_report-report-requires g c =
    let s = slice_get_some c.args.self.now c.args.arena c.requires.within in
    let number = c.caches-cache-end.ensures.value s.0 s.1 in
    record { has = cache_stands c.args.self.now c.args.arena c.loop-cache.cache s.0 s.1 (omega (arith, number)) }

pub overflow_add-units-in-loop-cache-2 : goal.overflow_add-units-in-loop-cache-2
overflow_add-units-in-loop-cache-2 g c =
    let s = slice_get_some c.args.self.now c.args.arena c.requires.within in
    let within : c.loop-cache.cache < length s.0.caches = (let number = c.caches-cache-end.ensures.value s.0 s.1 in omega (arith, number)) in
    let has = cache_stands c.args.self.now c.args.arena c.loop-cache.cache s.0 s.1 within in
    let fits = cache_fits c.args.self.now c.args.arena c.loop-cache.cache (λ (q : QuantumCacheState). units_held (deeds_of q.slab)) s.0 s.1 within has in
    let all = sum_by-flat_map units_in (λ (q : QuantumCacheState). deeds_of q.slab) s.0.caches in
    omega (arith, fits, all, c.loop-cache.invariant s.0 s.1, c.requires.fits s.0 s.1, c.slab_report-report.ensures.sum has.0 has.1, c.from.ensures, c.from-in-loop-cache.ensures, c.from-in-loop-cache-2.ensures)

pub loop-cache-preserved : goal.loop-cache-preserved
loop-cache-preserved g c s at =
    let within : c.loop-cache.cache < length s.caches = (let number = c.caches-cache-end.ensures.value s at in omega (arith, number)) in
    let has = cache_stands c.args.self.now c.args.arena c.loop-cache.cache s at within in
    let fits = cache_fits c.args.self.now c.args.arena c.loop-cache.cache (λ (q : QuantumCacheState). units_held (deeds_of q.slab)) s at within has in
    let all = sum_by-flat_map units_in (λ (q : QuantumCacheState). deeds_of q.slab) s.caches in
    let more = cache_more c.args.self.now c.args.arena c.loop-cache.cache (λ (q : QuantumCacheState). units_held (deeds_of q.slab)) s at within has in
    omega (arith, fits, all, more, c.loop-cache.invariant s at, c.requires.fits s at, c.slab_report-report.ensures.sum has.0 has.1, c.from.ensures, c.from-in-loop-cache.ensures, c.from-in-loop-cache-2.ensures)

pub returns : goal.returns
returns g c s at =
    let past : length s.caches ≤ c.loop-cache.cache = (let number = c.caches-cache-end.ensures.value s at in omega (arith, number)) in
    c.loop-cache.invariant s at ∙ (all_counted (λ (q : QuantumCacheState). units_held (deeds_of q.slab)) s.caches c.loop-cache.cache past ∙ sym (sum_by-flat_map units_in (λ (q : QuantumCacheState). deeds_of q.slab) s.caches))
