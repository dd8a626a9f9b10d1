use Rattle.std.proofs.Common.{inl, refl}
use Rattle.local_parts.proofs.Exchanges.{full_exchanged}
use Rattle.local_parts.proofs.own_changes.swap_full_own.Goals as goal

pub returns : goal.returns
returns g c =
    let e = c.swap_full-swapped.ensures in
    inl (full_exchanged _ _ c.args.own.now c.swap_full-swapped.new.self e.index e.frame e.fixed c.count.ensures.stock (c.if-not-is_empty.ensures.0 refl) c.swap_full-swapped.result _ c.wrap.ensures.word e.swapped)
