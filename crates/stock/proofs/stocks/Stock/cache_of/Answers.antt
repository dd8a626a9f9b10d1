use Rattle.std.proofs.Common.{◌≡◌, ◌+◌, subst, sym, ◌∙◌}
use Rattle.deed_core.specs.declared.segments.Route.TheVariants.{Cached}
use Rattle.stock.specs.Spaces.{HasCache}
use Rattle.stock.proofs.stocks.Stock.cache_of.Goals as goal

pub returns-in_default-cache_at-clause-none : goal.returns-in_default-cache_at-clause-none
returns-in_default-cache_at-clause-none g c j x route at =
    let is : Cached c.in-Cached.k ≡ Cached (j + 1) = sym (sym c.route.ensures ∙ c.in-Cached.is) ∙ route in
    let number : c.in-Cached.k ≡ j + 1 = cc in
    c.in_default-cache_at.ensures.none j number (subst (λ i. HasCache c.args.self.now i j) (sym c.arena-arena.ensures) (x, at))
