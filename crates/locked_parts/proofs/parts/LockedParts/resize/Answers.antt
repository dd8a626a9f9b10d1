use Rattle.std.proofs.Common.{◌<◌, ap, subst}
use Rattle.locked_parts.specs.Kinds.{count_of_caches}
use Rattle.locked_parts.specs.States.{LockedPartsState}
use Rattle.locked_parts.specs.Walks.{IsResizedFor}
use Rattle.locked_parts.proofs.Walks.{rose_least}
use Rattle.locked_parts.proofs.parts.LockedParts.resize.Goals as goal

pub returns : goal.returns
returns g c = record {
  asked = subst (λ arenas. IsResizedFor arenas c.args.arena c.args.size c.resize_each.result) (ap (λ (s : LockedPartsState). s.arenas) c.self.view_is) c.resize_each.ensures.asked;
  rose = λ e.
      (let seen = ap (λ (s : LockedPartsState). s.arenas) c.self.view_is in
      let risen = rose_least _ (λ s. s.parts.now) (λ s. s.resized) (λ s. s.missing) c.args.arena c.args.size _ _ c.resize_each.result.rose _ c.resize_each.ensures.each e in
      (risen.0, subst (λ arenas. 0 < count_of_caches arenas c.args.arena) seen risen.1));
}
