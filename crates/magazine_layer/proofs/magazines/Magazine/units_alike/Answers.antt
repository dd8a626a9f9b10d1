use Rattle.std.proofs.Common.{◌≡◌, ◌∙◌, ◌*◌, ◌-◌, All, length, ap, subst, sym, arith}
use Rattle.std.proofs.lemmas.List.Elements.{All-get_or}
use Rattle.deed_core.specs.Covering.{units_in}
use Rattle.deed_core.specs.Tag.{Tag}
use Rattle.magazine_layer.proofs.OldCounting.{alike_units}
use Rattle.magazine_layer.proofs.magazines.Magazine.units_alike.Goals as goal

pub returns-clause-value : goal.returns-clause-value
returns-clause-value g c =
    let each = c.requires.alike.each in
    let rounds = c.args.self.now.rounds in
    let IsAlike : Tag → Type 0 = λ t. units_in t.holding ≡ each in
    let item = c.in-Some.ensures.item in
    let those : c.deref.result.now ≡ rounds = c.deref.ensures.value ∙ ap (λ m. m.rounds) c.self.view_is in
    let last = All-get_or IsAlike c.deref.result.now (length c.deref.result.now - 1) c.in-Some.last.now (omega (arith, item.3.0)) (subst (All IsAlike) (sym those) c.requires.alike.alike) in
    let one : c.from.result ≡ each = c.from.ensures ∙ (c.len-2.ensures.value ∙ (ap (λ r. r.len) c.range.ensures.value ∙ (ap (λ t. units_in t.holding) item.1 ∙ last))) in
    let len : c.len.result ≡ length rounds = omega (arith, c.self.inside.rounds.ok.0, ap (λ m. length m.rounds) c.self.view_is) in
    ap (λ n. n * c.from.result) len ∙ (ap (λ n. length rounds * n) one ∙ sym (alike_units each rounds c.requires.alike.alike))
