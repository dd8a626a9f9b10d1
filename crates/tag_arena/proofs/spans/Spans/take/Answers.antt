use Rattle.std.proofs.Common.{List, Contains, sym, ap, subst, ◌∙◌}
use Rattle.deed_core.specs.Tag.{Tag}
use Rattle.tag_arena.specs.Spanned.{holdings_of, AreDisjoint, WithoutSpan, tag_of}
use Rattle.tag_arena.proofs.Spanning.{entry_there, items_take, are_take, fits_take, span_take, tags_of}
use Rattle.tag_arena.proofs.spans.Spans.take.Goals as goal

pub remove-entry-requires : goal.remove-entry-requires
remove-entry-requires c =
    let in-span = subst (λ (ts : List Tag). Contains (holdings_of ts) c.args.span) (sym (ap (λ v. v.items) c.self.view_is)) c.requires.present in
    record { present = entry_there c.self.inside.rows.items c.args.span c.end.result c.end.ensures.value in-span }

pub overflow_sub-self : goal.overflow_sub-self
overflow_sub-self c =
    let in-span = subst (λ (ts : List Tag). Contains (holdings_of ts) c.args.span) (sym (ap (λ v. v.items) c.self.view_is)) c.requires.present in
    let there = entry_there c.self.inside.rows.items c.args.span c.end.result c.end.ensures.value in-span in
    rw c.len-2.ensures.value (fits_take c.self.inside.rows.items c.remove-entry.new.self.items c.self.inside.clock c.self.inside.units c.end.result c.remove-entry.result c.len.ensures.order c.self.invariant there c.remove-entry.ensures.items c.remove-entry.ensures.value)

pub invariant_of-self : goal.invariant_of-self
invariant_of-self c =
    let in-span = subst (λ (ts : List Tag). Contains (holdings_of ts) c.args.span) (sym (ap (λ v. v.items) c.self.view_is)) c.requires.present in
    let there = entry_there c.self.inside.rows.items c.args.span c.end.result c.end.ensures.value in-span in
    rw c.len-2.ensures.value (are_take c.self.inside.rows.items c.remove-entry.new.self.items c.self.inside.clock c.self.inside.units c.end.result c.remove-entry.result c.len.ensures.order c.self.invariant there c.remove-entry.ensures.items c.remove-entry.ensures.value)

pub returns-clause-items : goal.returns-clause-items
returns-clause-items c =
    let in-span = subst (λ (ts : List Tag). Contains (holdings_of ts) c.args.span) (sym (ap (λ v. v.items) c.self.view_is)) c.requires.present in
    let there = entry_there c.self.inside.rows.items c.args.span c.end.result c.end.ensures.value in-span in
    let out = items_take c.self.inside.rows.items c.remove-entry.new.self.items c.self.inside.clock c.self.inside.units c.end.result c.remove-entry.result c.len.ensures.order c.self.invariant there c.remove-entry.ensures.items c.remove-entry.ensures.value in
    let now = tags_of c.remove-entry.new.self.items in
    subst (λ (t : Tag). WithoutSpan c.args.self.now.items t now) (sym c.new.ensures) (subst (λ (ts : List Tag). WithoutSpan ts (tag_of c.remove-entry.result) now) (ap (λ v. v.items) c.self.view_is) out)

pub returns-clause-span : goal.returns-clause-span
returns-clause-span c =
    let old = sym (ap (λ v. v.items) c.self.view_is) in
    let in-span = subst (λ (ts : List Tag). Contains (holdings_of ts) c.args.span) old c.requires.present in
    let disjoint = subst (λ (ts : List Tag). AreDisjoint (holdings_of ts)) old c.requires.disjoint in
    let there = entry_there c.self.inside.rows.items c.args.span c.end.result c.end.ensures.value in-span in
    ap (λ (t : Tag). t.holding) c.new.ensures ∙ span_take c.self.inside.rows.items c.remove-entry.new.self.items c.self.inside.clock c.self.inside.units c.end.result c.remove-entry.result c.len.ensures.order c.self.invariant there c.remove-entry.ensures.items c.remove-entry.ensures.value disjoint c.args.span in-span c.end.ensures.value
