use Rattle.std.proofs.Common.{subst, IfSome}
use Rattle.magazine_layer.specs.Depots.{depot_rounds}
use Rattle.locked_parts.specs.Kinds.{IsOfKind, KindDepotState}
use Rattle.locked_parts.proofs.RoundLaws.{left, given}
use Rattle.locked_parts.proofs.kind_depots.KindDepot.reap.Goals as goal

pub invariant_of-self : goal.invariant_of-self
invariant_of-self g c =
    record { some = c.self.invariant.some; rounds = left (IsOfKind c.self.inside.kind) c.reap.result (depot_rounds c.self.inside.depot) (depot_rounds c.reap.new.self) c.reap.ensures.kinds c.self.invariant.rounds }

pub returns-clause-chunk : goal.returns-clause-chunk
returns-clause-chunk g c =
    subst (λ (d : KindDepotState). IfSome c.reap.result (IsOfKind d.kind)) c.self.view_is
    (given (IsOfKind c.self.inside.kind) c.reap.result (depot_rounds c.self.inside.depot) (depot_rounds c.reap.new.self) c.reap.ensures.kinds c.self.invariant.rounds)
