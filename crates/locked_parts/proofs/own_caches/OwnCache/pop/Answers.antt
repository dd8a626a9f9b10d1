use Rattle.std.proofs.Common.{subst, IfSome, Ok, length}
use Rattle.arena_tree.specs.Sound.{PopsRound}
use Rattle.magazine_layer.specs.Magazines.{cache_rounds}
use Rattle.locked_parts.specs.Kinds.{IsOfKind, OwnCacheState}
use Rattle.locked_parts.proofs.Lengths.{pops_length}
use Rattle.locked_parts.proofs.RoundLaws.{left, given}
use Rattle.locked_parts.proofs.own_caches.OwnCache.pop.Goals as goal

pub invariant_of-self : goal.invariant_of-self
invariant_of-self g c =
    record { some = c.self.invariant.some; rounds = left (IsOfKind c.self.inside.kind) c.take.result (cache_rounds c.self.inside.cpu) (cache_rounds c.take.new.self) c.take.ensures.kinds c.self.invariant.rounds }

pub returns-clause-chunk : goal.returns-clause-chunk
returns-clause-chunk g c =
    subst (λ (r : OwnCacheState). IfSome c.take.result (IsOfKind r.kind)) c.self.view_is
    (given (IsOfKind c.self.inside.kind) c.take.result (cache_rounds c.self.inside.cpu) (cache_rounds c.take.new.self) c.take.ensures.kinds c.self.invariant.rounds)

pub returns-clause-fewer : goal.returns-clause-fewer
returns-clause-fewer g c =
    subst (λ (r : OwnCacheState). PopsRound (Ok c.take.result) (length (cache_rounds r.cpu)) (length (cache_rounds c.take.new.self))) c.self.view_is (pops_length c.self.inside.cpu c.take.new.self c.take.result c.take.ensures.of)
