use Rattle.std.proofs.Common.{sym, ap, subst, ◌∙◌, None, Some}
use Rattle.deed_core.specs.declared.segments.Route.TheVariants.{Direct}
use Rattle.tag_arena.specs.Spanned.{IsFirstPast}
use Rattle.tag_arena.proofs.Spanning.{first_none, first_some}
use Rattle.tag_arena.proofs.spans.Spans.first_past.Goals as goal

pub returns-in_default : goal.returns-in_default
returns-in_default c = subst (λ ts. IsFirstPast c.args.unit ts None) (ap (λ v. v.items) c.self.view_is) (first_none c.self.inside.rows.items c.args.unit c.len.ensures.order (sym c.least_from.ensures ∙ c.in_default.is))

pub returns : goal.returns
returns c =
    let first = first_some c.self.inside.rows.items c.args.unit c.len.ensures.order c.in-Some.entry (sym c.least_from.ensures ∙ c.in-Some.is) in
    subst (λ t. IsFirstPast c.args.unit c.args.self.now.items (Some t)) (sym c.new.ensures) (subst (λ ts. IsFirstPast c.args.unit ts (Some (record { arena = c.in-Some.entry.source; route = Direct; holding = c.in-Some.entry.span }))) (ap (λ v. v.items) c.self.view_is) first)
