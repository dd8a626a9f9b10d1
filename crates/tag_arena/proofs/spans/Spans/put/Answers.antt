use Rattle.std.proofs.Common.{◌≡◌, ◌≢◌, ◌++◌, ◌∷◌, ◌+◌, [], All, sym, ap, subst, ◌∙◌, refl}
use Rattle.deed_core.specs.Extent.{end_of}
use Rattle.deed_core.specs.Tag.{Tag}
use Rattle.tag_arena.specs.declared.span_entries.SpanEntry.{SpanEntry}
use Rattle.tag_arena.specs.Spanned.{tag_of}
use Rattle.tag_arena.proofs.Spanning.{absent_end, items_put, are_put, tags_of}
use Rattle.tag_arena.proofs.spans.Spans.put.Goals as goal

pub insert-requires-clause-absent : goal.insert-requires-clause-absent
insert-requires-clause-absent c =
    let absent = subst (All (λ t. end_of t.holding.range ≢ end_of c.args.import.holding.range)) (sym (ap (λ v. v.items) c.self.view_is)) c.requires.absent in
    absent_end c.self.inside.rows.items _ _ (ap (λ (t : Tag). end_of t.holding.range) c.import.view_is) absent

pub invariant_of-self : goal.invariant_of-self
invariant_of-self c =
    let e : SpanEntry = record { span = c.import.inside.span; source = c.import.inside.source; since = c.self.inside.clock + 1 } in
    let absent = subst (All (λ t. end_of t.holding.range ≢ end_of c.args.import.holding.range)) (sym (ap (λ v. v.items) c.self.view_is)) c.requires.absent in
    let none = absent_end c.self.inside.rows.items (end_of c.import.inside.span.range) _ (ap (λ (t : Tag). end_of t.holding.range) c.import.view_is) absent in
    rw c.len-2.ensures.value (are_put c.self.inside.rows.items c.insert.new.self.items c.self.inside.clock c.self.inside.units e c.len.ensures.order c.self.invariant c.insert.ensures.items refl none c.len-2.ensures.range)

pub returns : goal.returns
returns c =
    let e : SpanEntry = record { span = c.import.inside.span; source = c.import.inside.source; since = c.self.inside.clock + 1 } in
    let absent = subst (All (λ t. end_of t.holding.range ≢ end_of c.args.import.holding.range)) (sym (ap (λ v. v.items) c.self.view_is)) c.requires.absent in
    let none = absent_end c.self.inside.rows.items (end_of c.import.inside.span.range) _ (ap (λ (t : Tag). end_of t.holding.range) c.import.view_is) absent in
    let put = items_put c.self.inside.rows.items c.insert.new.self.items c.self.inside.clock c.self.inside.units e c.len.ensures.order c.self.invariant c.insert.ensures.items refl none in
    let tag : tag_of e ≡ c.args.import = c.import.view_is in
    put ∙ (ap (λ (t : Tag). tags_of c.self.inside.rows.items ++ t ∷ []) tag ∙ ap (λ v. v.items ++ c.args.import ∷ []) c.self.view_is)
