use Rattle.std.proofs.Common.{◌+◌}
use Rattle.lease_book.specs.declared.books.TheConstants.{MOST_LEASES}
use Rattle.lease_threads.proofs.CallEnds.{hello_well}
use Rattle.lease_threads.proofs.systems.System.greet.Goals as goal

pub tell_hello-requires-clause-greeting : goal.tell_hello-requires-clause-greeting
tell_hello-requires-clause-greeting g c = hello_well _ c.args.self.now.arenas c.args.hello.now c.args.cpu.now.hand (MOST_LEASES + 1) c.in_ok-ended.ended c.in_ok-ended.ensures.went.gone
