use Rattle.std.proofs.Common.{◌≡◌, List, Some, slice_get, subst}
use Rattle.locked_parts.specs.States.{LockedArenaState, LockedPartsState, StandsInPlace}
use Rattle.locked_parts.proofs.Stands.{found_so}
use Rattle.locked_parts.proofs.parts.LockedParts.standing.Goals as goal

pub returns-clause-here : goal.returns-clause-here
returns-clause-here g c =
    found_so (λ a. StandsInPlace c.args.self.now.arenas c.args.arena a) (λ b. b.now) c.get.result c.deref.result.now c.args.arena (c.get.ensures.lookup.0, c.get.ensures.lookup.1) (λ a at.
    subst (λ (s : LockedPartsState). StandsInPlace s.arenas c.args.arena a) c.self.view_is
    (c.self.invariant.1 c.args.arena a (subst (λ (l : List LockedArenaState). slice_get l c.args.arena ≡ Some a) c.deref.ensures.value at)))
