use Rattle.std.proofs.Common.{ap, ◌∙◌, inl, refl}
use Rattle.magazine_layer.specs.Magazines.{empty_magazine}
use Rattle.local_parts.proofs.Exchanges.{fresh_exchanged}
use Rattle.local_parts.proofs.own_changes.swap_fresh_own.Goals as goal

pub returns : goal.returns
returns g c =
    let e = c.swap_fresh-swapped.ensures in
    inl (fresh_exchanged _ _ c.args.own.now c.swap_fresh-swapped.new.self e.index e.frame e.fixed c.count.ensures.stock (c.if-not-is_full.ensures.0 refl) _ c.swap_fresh-swapped.result _ (c.in-Ok.ensures ∙ ap empty_magazine c.size.ensures.value) c.fresh_in_words.ensures e.swapped)
