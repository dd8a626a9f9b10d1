use Rattle.std.proofs.Common.{sym, subst, All}
use Rattle.magazine_layer.specs.Magazines.{BothFull, cache_rounds}
use Rattle.magazine_layer.specs.Depots.{depot_rounds}
use Rattle.locked_parts.specs.Kinds.{IsOfKind, OwnCacheState, KindDepotState}
use Rattle.locked_parts.specs.Swaps.{GivesEmpty}
use Rattle.locked_parts.proofs.Exchanged.{gives_empty}
use Rattle.locked_parts.proofs.RoundLaws.{both}
use Rattle.locked_parts.proofs.kind_depots.KindDepot.swap_empty.Goals as goal

pub invariant_of-self : goal.invariant_of-self
invariant_of-self g c =
    let same = c.is.ensures.0 c.if-not-is.false in
    record { some = c.self.invariant.some; rounds = (both (IsOfKind c.self.inside.kind) (cache_rounds c.cpu.inside.cpu) (depot_rounds c.self.inside.depot) (cache_rounds c.swap_for_empty-swapped.new.cpu) (depot_rounds c.swap_for_empty-swapped.new.self) c.swap_for_empty-swapped.ensures.kinds (subst (λ k. All (IsOfKind k) (cache_rounds c.cpu.inside.cpu)) (sym same) c.cpu.invariant.rounds) c.self.invariant.rounds).1 }

pub invariant_of-cpu : goal.invariant_of-cpu
invariant_of-cpu g c =
    let same = c.is.ensures.0 c.if-not-is.false in
    record { some = c.cpu.invariant.some; rounds = subst (λ k. All (IsOfKind k) (cache_rounds c.swap_for_empty-swapped.new.cpu)) same (both (IsOfKind c.self.inside.kind) (cache_rounds c.cpu.inside.cpu) (depot_rounds c.self.inside.depot) (cache_rounds c.swap_for_empty-swapped.new.cpu) (depot_rounds c.swap_for_empty-swapped.new.self) c.swap_for_empty-swapped.ensures.kinds (subst (λ k. All (IsOfKind k) (cache_rounds c.cpu.inside.cpu)) (sym same) c.cpu.invariant.rounds) c.self.invariant.rounds).0 }

pub returns-clause-event : goal.returns-clause-event
returns-clause-event g c =
    let can : BothFull c.cpu.inside.cpu = c.is_full.ensures.value.0 c.if-not-is_full.false in
    subst (λ (d : KindDepotState). GivesEmpty c.args.cpu.now d c.swap_for_empty-swapped.result (record { kind = c.cpu.inside.kind; cpu = c.swap_for_empty-swapped.new.cpu }) (record { kind = c.self.inside.kind; depot = c.swap_for_empty-swapped.new.self })) c.self.view_is
    (subst (λ (o : OwnCacheState). GivesEmpty o (record { kind = c.self.inside.kind; depot = c.self.inside.depot }) c.swap_for_empty-swapped.result (record { kind = c.cpu.inside.kind; cpu = c.swap_for_empty-swapped.new.cpu }) (record { kind = c.self.inside.kind; depot = c.swap_for_empty-swapped.new.self })) c.cpu.view_is
    (gives_empty c.cpu.inside.kind c.self.inside.kind c.cpu.inside.cpu c.swap_for_empty-swapped.new.cpu c.self.inside.depot c.swap_for_empty-swapped.new.self c.swap_for_empty-swapped.result (sym (c.is.ensures.0 c.if-not-is.false)) can c.swap_for_empty-swapped.ensures.of))
