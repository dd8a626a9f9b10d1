use Rattle.deed_core.specs.Selections.{came_direct}
use Rattle.deed_core.proofs.Counting.{tests_say}
use Rattle.deed_core.proofs.Weighing.{sum_by-parts, sum_by-only_all, sum_by-only_none}
use Rattle.deed_core.proofs.laws.part_laws.Goals as goal

pub returns : goal.returns
returns c = record { tests = tests_say; parts = sum_by-parts; routes = (λ f segments. sum_by-parts came_direct f segments); all = sum_by-only_all; none = sum_by-only_none }
