use Rattle.magazine_layer.specs.Magazines.{cache_rounds}
use Rattle.locked_parts.specs.Kinds.{IsOfKind}
use Rattle.locked_parts.proofs.RoundLaws.{among}
use Rattle.locked_parts.proofs.own_caches.OwnCache.change.Goals as goal

pub invariant_of-self : goal.invariant_of-self
invariant_of-self g c =
    record { some = c.self.invariant.some; rounds = among (IsOfKind c.self.inside.kind) (cache_rounds c.self.inside.cpu) (cache_rounds c.change.new.self) c.change.ensures.kinds c.self.invariant.rounds }
