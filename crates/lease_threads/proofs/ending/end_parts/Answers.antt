use Rattle.std.proofs.Common.{ap, sym, subst}
use Rattle.lease_threads.specs.Ends.{AreClosed}
use Rattle.lease_threads.specs.Systems.{SystemState}
use Rattle.lease_threads.proofs.ending.end_parts.Goals as goal

pub end_lists-requires : goal.end_lists-requires
end_lists-requires g c = subst AreClosed (sym (ap (λ (s : SystemState). s.roots) c.system.view_is)) c.requires
