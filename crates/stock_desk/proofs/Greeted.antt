-- What a hello came to is told as a step of the lease machine.
use Rattle.std.proofs.Common.{Ok}
use Rattle.lease_proto.specs.declared.lines.HelloLine.{HelloLine}
use Rattle.lease_call.specs.declared.outcomes.Greeting.{Greeting}
use Rattle.lease_call.specs.declared.outcomes.Greeting.TheVariants.{Welcome, Late, Unswept}
use Rattle.lease_machine.specs.Conversations.{Greets, AnswersHello}
use Rattle.lease_machine.specs.Picture.{Picture}
use Rattle.lease_call.specs.Greeting.{reply_of_greeting}

pub greets : {D : Type 0} (h : HelloLine) (old new : Picture) (g : Greeting D) → AnswersHello h old new (Ok g) → Greets h old new (reply_of_greeting h g)
greets h old new (Welcome w) answers = answers
greets h old new (Late f) answers = answers
greets h old new Unswept answers = absurd answers
