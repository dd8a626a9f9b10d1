use Rattle.std.proofs.Common.{sym, subst, ◌++◌}
use Rattle.local_parts.specs.Cpus.{cpu_rounds}
use Rattle.stock.specs.Accounts.{Accounts}
use Rattle.lease_machine.specs.Picture.{NumberedCpu}
use Rattle.stock_desk.proofs.Draining.{last_rounds}
use Rattle.stock_desk.proofs.endings.empty_all.Goals as goal
use Rattle.stock_desk.specs.Supplies.{rounds_of_all}

pub empty-requires-clause-out : goal.empty-requires-clause-out
empty-requires-clause-out c = (
  rounds_of_all c.pop.new.self.items,
  subst (λ (x : NumberedCpu). Accounts c.loop-cpu.stock (cpu_rounds x.caches ++ rounds_of_all c.pop.new.self.items)) (sym c.cpu.view_is)
      (last_rounds c.pop.new.self.items c.loop-cpu.cpus.items c.in-Some.cpu c.in-Some.ensures.items c.loop-cpu.stock c.loop-cpu.invariant.out),
)
