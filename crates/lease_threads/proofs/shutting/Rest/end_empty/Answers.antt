use Rattle.std.proofs.Common.{ap, subst, sym}
use Rattle.lease_threads.specs.Ends.{AreClosed, HaltedState}
use Rattle.lease_threads.proofs.shutting.Rest.end_empty.Goals as goal

pub end_parts-requires : goal.end_parts-requires
end_parts-requires g c = subst AreClosed (sym (ap (λ (h : HaltedState). h.system.roots) c.self.view_is)) c.requires.closed
