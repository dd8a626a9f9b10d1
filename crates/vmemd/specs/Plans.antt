-- How a server is planned.
use Rattle.std.specs.Prelude.{ℕ, unwrap_or}
use Rattle.vmemd.specs.declared.running.Plan.{Plan}

-- how many connections it serves at a time
abbrev pub most_of : Plan → ℕ
most_of plan = unwrap_or plan.connections plan.workers
