use Rattle.magazine_layer.specs.Magazines.{cache_rounds}
use Rattle.locked_parts.specs.Kinds.{IsOfKind}
use Rattle.locked_parts.proofs.RoundLaws.{taken}
use Rattle.locked_parts.proofs.own_caches.OwnCache.push.Goals as goal

pub invariant_of-self : goal.invariant_of-self
invariant_of-self g c =
    record { some = c.self.invariant.some; rounds = taken (IsOfKind c.self.inside.kind) c.args.segment (cache_rounds c.self.inside.cpu) (cache_rounds c.give.new.self) c.give.ensures.kinds (c.takes.ensures.0 c.if-not-takes.false) c.self.invariant.rounds }
