use Rattle.std.proofs.Common.{◌↔◌, IsTrue, subst, rules}
use Rattle.stock.specs.Spaces.{HasCache}
use Rattle.world_core.specs.WorldState.{WorldState}
use Rattle.world_core.specs.Events.{HasRoundToReap}
use Rattle.world_core.proofs.parts.WorldParts.has_round_to_reap.Goals as goal

pub returns-then-has_cache : goal.returns-then-has_cache
returns-then-has_cache g c =
    let has : HasCache c.self.inside.stock c.args.arena c.args.cache = search rules in
    subst (λ (x : WorldState). IsTrue c.can_reap.result ↔ HasRoundToReap x c.args.arena c.args.cache) c.self.view_is
    ((λ yes. (has.0, has.1, (c.can_reap.ensures has.0 has.1).0 yes)), (λ can. (c.can_reap.ensures can.0 can.1).1 can.2))
