use Rattle.std.proofs.Common.{◌≡◌, ◌∙◌, sym, ap, eq-eqb, arith}
use Rattle.std.proofs.lemmas.Bool.Decides.{nat_tests}
use Rattle.deed_core.specs.Covering.{units_held}
use Rattle.stock.proofs.Bare.{no_spans}
use Rattle.stock.proofs.endings.has_no_span.Goals as goal

pub returns : goal.returns
returns g c = (
  (λ is. no_spans c.args.arena.now c.report.ensures.sound (let e : c.report.result.span ≡ 0 = grind (arith, nat_tests) in sym c.report.ensures.span ∙ e)),
  (λ none. let e : c.report.result.span ≡ 0 = c.report.ensures.span ∙ ap units_held none in eq-eqb c.report.result.span 0 e),
)
