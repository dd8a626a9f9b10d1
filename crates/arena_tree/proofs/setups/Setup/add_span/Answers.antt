use Rattle.std.proofs.Common.{[], ◌∷◌, ◌++◌, ◌∙◌, ap, sym, subst}
use Rattle.arena_tree.proofs.SetupLemmas.{span_answered}
use Rattle.arena_tree.specs.Settings.{SetupState, BecomesSpan}
use Rattle.arena_tree.proofs.setups.Setup.add_span.Goals as goal

pub invariant_of-self-2 : goal.invariant_of-self-2
invariant_of-self-2 c =
    let o = c.in_ok-owned.owned in
    let becomes = subst (λ (s : SetupState). BecomesSpan s c.args.span.now o) (sym c.self.view_is) c.in_ok-owned.ensures.ok in
    span_answered c.self.inside.tree c.self.inside.spans.items c.push_reserved.new.self.items c.args.span.now o becomes
    (c.push_reserved.ensures.items ∙ ap (λ xs. xs ++ o ∷ []) c.reserve.ensures.items) c.self.invariant
