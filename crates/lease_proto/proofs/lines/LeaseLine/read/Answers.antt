use Rattle.std.proofs.Common.{arith}
use Rattle.lease_proto.specs.Grammar.{lease_in, lease_after}
use Rattle.lease_proto.proofs.GrammarLemmas.{none_left, nothing_asked}
use Rattle.lease_proto.proofs.lines.LeaseLine.read.Goals as goal

pub returns-in_err-id-2 : goal.returns-in_err-id-2
unfolding lease_in lease_after
returns-in_err-id-2 c = grind (arith, none_left)

pub returns-in_err-quantity : goal.returns-in_err-quantity
unfolding lease_in lease_after
returns-in_err-quantity c = grind (arith, none_left)

pub returns : goal.returns
unfolding lease_in lease_after
returns c = grind (arith, none_left, nothing_asked)
