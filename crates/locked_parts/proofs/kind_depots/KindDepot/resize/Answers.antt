use Rattle.magazine_layer.specs.Depots.{depot_rounds}
use Rattle.magazine_layer.proofs.LawProofs.{kinds_kept}
use Rattle.locked_parts.specs.Kinds.{IsOfKind}
use Rattle.locked_parts.proofs.kind_depots.KindDepot.resize.Goals as goal

pub invariant_of-self : goal.invariant_of-self
invariant_of-self g c =
    record { some = c.self.invariant.some; rounds = kinds_kept (IsOfKind c.self.inside.kind) (depot_rounds c.resize.new.self) (depot_rounds c.self.inside.depot) c.resize.ensures.kinds c.self.invariant.rounds }
