use Rattle.std.proofs.Common.{◌≡◌, ◌-◌, ◌%◌, subst, sym}
use Rattle.std.specs.Int.Bits.{bit_and}
use Rattle.std.proofs.lemmas.Nat.{and_mask}
use Rattle.tag_arena.proofs.places.rest_in.Goals as goal

pub returns : goal.returns
returns c = subst (λ n. bit_and c.args.unit (n - 1) ≡ c.args.unit % n) (sym c.requires.1) (and_mask c.args.unit c.requires.0)
