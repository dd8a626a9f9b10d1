use Rattle.std.proofs.Common.{◌↔◌, IsTrue, sym, subst, ◌∙◌}
use Rattle.world_core.specs.WorldState.{WorldState}
use Rattle.world_core.specs.Events.{HasOldLease}
use Rattle.world_core.proofs.PartLemmas.{old_lease_found, old_lease_counts}
use Rattle.world_core.proofs.parts.WorldParts.has_old_lease.Goals as goal

pub returns : goal.returns
returns g c =
    let is = c.can_sweep.ensures in
    subst (λ (x : WorldState). IsTrue c.can_sweep.result ↔ HasOldLease x c.args.client) c.self.view_is
    ((λ yes. old_lease_found _ _ (sym is ∙ yes)), (λ old. is ∙ old_lease_counts _ _ old.0 old.1.0 old.1.1 old.2))
