use Rattle.std.proofs.Common.{◌≡◌, ◌<◌, ◌≤◌, length, ◌∙◌, sym, arith}
use Rattle.deed_core.specs.Tag.{Tag}
use Rattle.deed_core.specs.Covering.{units_in, units_held, units_tagged}
use Rattle.deed_core.proofs.LawProofs.{slice_get_some, sum_by-map, sum_by-flat_map}
use Rattle.magazine_layer.specs.Depots.{depot_rounds}
use Rattle.tag_arena.specs.Spanned.{holdings_of}
use Rattle.stock.specs.Spaces.{QuantumCacheState}
use Rattle.stock.proofs.Counting.{cache_stands, cache_more, cache_fits, all_counted}
use Rattle.stock.proofs.stocks.Stock.units_by_rounds.Goals as goal

pub depot_units_by_rounds-units-requires : goal.depot_units_by_rounds-units-requires
depot_units_by_rounds-units-requires g c =
    let s = slice_get_some c.args.self.now c.args.arena c.requires.within in
    let number = c.caches-cache-end.ensures.value s.0 s.1 in
    record { has = cache_stands c.args.self.now c.args.arena c.loop-cache.cache s.0 s.1 (omega (arith, number)) }

pub overflow_add-units : goal.overflow_add-units
overflow_add-units g c =
    let s = slice_get_some c.args.self.now c.args.arena c.requires.within in
    let within : c.loop-cache.cache < length s.0.caches = (let number = c.caches-cache-end.ensures.value s.0 s.1 in omega (arith, number)) in
    let has = cache_stands c.args.self.now c.args.arena c.loop-cache.cache s.0 s.1 within in
    let fits = cache_fits c.args.self.now c.args.arena c.loop-cache.cache (λ (q : QuantumCacheState). units_held (holdings_of (depot_rounds q.depot))) s.0 s.1 within has in
    let all = sum_by-flat_map units_in (λ (q : QuantumCacheState). holdings_of (depot_rounds q.depot)) s.0.caches in
    let rounds : units_held (holdings_of (depot_rounds has.0.depot)) ≡ units_tagged (depot_rounds has.0.depot) = sum_by-map units_in (λ (t : Tag). t.holding) (depot_rounds has.0.depot) in
    omega (arith, fits, all, c.loop-cache.invariant s.0 s.1, c.requires.fits s.0 s.1, c.depot_units_by_rounds-units.ensures.value has.0 has.1, rounds)

pub loop-cache-preserved : goal.loop-cache-preserved
loop-cache-preserved g c s at =
    let within : c.loop-cache.cache < length s.caches = (let number = c.caches-cache-end.ensures.value s at in omega (arith, number)) in
    let has = cache_stands c.args.self.now c.args.arena c.loop-cache.cache s at within in
    let fits = cache_fits c.args.self.now c.args.arena c.loop-cache.cache (λ (q : QuantumCacheState). units_held (holdings_of (depot_rounds q.depot))) s at within has in
    let all = sum_by-flat_map units_in (λ (q : QuantumCacheState). holdings_of (depot_rounds q.depot)) s.caches in
    let rounds : units_held (holdings_of (depot_rounds has.0.depot)) ≡ units_tagged (depot_rounds has.0.depot) = sum_by-map units_in (λ (t : Tag). t.holding) (depot_rounds has.0.depot) in
    let more = cache_more c.args.self.now c.args.arena c.loop-cache.cache (λ (q : QuantumCacheState). units_held (holdings_of (depot_rounds q.depot))) s at within has in
    omega (arith, fits, all, more, c.loop-cache.invariant s at, c.requires.fits s at, c.depot_units_by_rounds-units.ensures.value has.0 has.1, rounds)

pub returns : goal.returns
returns g c s at =
    let past : length s.caches ≤ c.loop-cache.cache = (let number = c.caches-cache-end.ensures.value s at in omega (arith, number)) in
    c.loop-cache.invariant s at ∙ (all_counted (λ (q : QuantumCacheState). units_held (holdings_of (depot_rounds q.depot))) s.caches c.loop-cache.cache past ∙ sym (sum_by-flat_map units_in (λ (q : QuantumCacheState). holdings_of (depot_rounds q.depot)) s.caches))
