use Rattle.std.proofs.Common.{◌≡◌, All, vec_len}
use Rattle.stock.specs.Accounts.{Accounts}
use Rattle.stock.specs.Setups.{plans_for}
use Rattle.stock.specs.Spaces.{plans_of}
use Rattle.local_parts.specs.Cpus.{IsCpuOf}
use Rattle.stock_desk.proofs.endings.empty_all.Given as goal
use Rattle.stock_desk.specs.Supplies.{rounds_of_all}

abbrev pub invariant-loop-cpu : goal.invariant-loop-cpu
invariant-loop-cpu l = record {
  setup : plans_of l.stock ≡ plans_for l.tree;
  of : All (λ c. IsCpuOf l.stock c.caches) l.cpus.items;
  out : Accounts l.stock (rounds_of_all l.cpus.items);
}

abbrev pub decreases-loop-cpu : goal.decreases-loop-cpu
decreases-loop-cpu l = vec_len l.cpus
