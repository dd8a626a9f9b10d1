use Rattle.std.proofs.Common.{rules, List, sym, subst, All, IsTrue}
use Rattle.stock.specs.Spaces.{QuantumCacheState}
use Rattle.stock.specs.Endings.{IsBare, IsBareCache}
use Rattle.stock.proofs.spaces.Space.is_bare.Goals as goal

pub returns : goal.returns
returns g c =
    let none : IsTrue c.has_no_span.result = search rules in
    let same = c.deref.ensures.value in (
      (λ is. subst IsBare c.self.view_is (record {
        spans = c.has_no_span.ensures.0 none;
        caches = subst (λ (xs : List QuantumCacheState). All IsBareCache xs) same (c.are_bare_caches.ensures.0 is);
      })),
      (λ bare. c.are_bare_caches.ensures.1 (subst (λ (xs : List QuantumCacheState). All IsBareCache xs) (sym same) (subst IsBare (sym c.self.view_is) bare).caches)),
    )
