use Rattle.std.proofs.Common.{◌≡◌, Some, ap, ◌∙◌, arith}
use Rattle.std.specs.Prelude.{slice_get}
use Rattle.deed_core.proofs.LawProofs.{slice_get_some, power_some}
use Rattle.world_core.specs.WorldState.{WorldState}
use Rattle.world_core.proofs.parts.WorldParts.quantum.Goals as goal

pub returns-clause-some : goal.returns-clause-some
returns-clause-some g c =
    let is = c.requires.world in
    let space = slice_get_some c.args.self.now.stock c.args.arena (let e = is.named in let w = c.requires.within in omega arith) in
    let some = power_some space.0.arena.quantum (is.parts.parts c.args.arena space.0 space.1).sound.divided.power in
    let there : slice_get c.self.inside.stock c.args.arena ≡ Some space.0 = ap (λ (x : WorldState). slice_get x.stock c.args.arena) c.self.view_is ∙ space.1 in
    let same = c.quantum.ensures.value space.0 there in
    omega (arith, some, same)
