use Rattle.std.proofs.Common.{inl, refl}
use Rattle.local_parts.proofs.Exchanges.{empty_exchanged}
use Rattle.local_parts.proofs.own_changes.swap_empty_own.Goals as goal

pub returns : goal.returns
returns g c =
    let e = c.swap_empty-swapped.ensures in
    inl (empty_exchanged _ _ c.args.own.now c.swap_empty-swapped.new.self e.index e.frame e.fixed c.count.ensures.stock (c.if-not-is_full.ensures.0 refl) c.swap_empty-swapped.result _ c.wrap.ensures.word e.swapped)
