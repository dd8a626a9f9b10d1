use Rattle.std.proofs.Common.{◌≡◌, ◌<◌, ◌^◌, ◌-◌, sym, subst, eq-eqb, arith}
use Rattle.std.proofs.lemmas.Bool.Decides.{nat_tests}
use Rattle.magazine_layer.specs.Depots.{depot_rounds}
use Rattle.stock.specs.Spaces.{QuantumCacheState}
use Rattle.stock.specs.Endings.{IsBareCache, HaveUnits}
use Rattle.stock.proofs.Bare.{bare_cache, cache_bare}
use Rattle.stock.proofs.spaces.QuantumCache.is_bare.Goals as goal

pub returns : goal.returns
returns g c =
    let here : QuantumCacheState = record { slab = c.self.inside.slab; depot = c.self.inside.depot } in
    let r = c.report-report.result in
    let room : 0 < 2 ^ 128 - 1 = omega arith in
    let some = subst (λ (x : QuantumCacheState). HaveUnits (depot_rounds x.depot)) (sym c.self.view_is) c.requires.rounds in (
      (λ is.
          let none : c.units.result ≡ 0 = grind (arith, nat_tests) in
          subst IsBareCache c.self.view_is (bare_cache here r.idle r.gap r.tail c.units.result (2 ^ 128 - 1) c.arena.ensures.sound some room c.report-report.ensures.deeds c.units.ensures c.if-report-ne0.false c.if-report-ne0-2.false c.if-report-ne0-3.false none)),
      (λ bare. eq-eqb c.units.result 0 (cache_bare here r.idle r.gap r.tail c.units.result (2 ^ 128 - 1) c.report-report.ensures.deeds c.units.ensures (subst IsBareCache (sym c.self.view_is) bare)).3),
    )
