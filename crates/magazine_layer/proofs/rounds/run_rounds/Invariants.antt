use Rattle.std.proofs.Common.{◌≡◌, ◌+◌, ◌≤◌, vec_len, vec_capacity}
use Rattle.std.specs.Vec.Iter.{into_iter_items, into_iter_len}
use Rattle.magazine_layer.specs.Magazines.{IsShaped}
use Rattle.magazine_layer.specs.Rounds.{cpu_depot}
use Rattle.magazine_layer.proofs.Running.{IsRunning}
use Rattle.magazine_layer.proofs.rounds.run_rounds.Given as goal

abbrev pub invariant-loop-op : goal.invariant-loop-op
invariant-loop-op g l =
    IsRunning (cpu_depot l.fn.cpu l.fn.depot) l.fn.ops.items (into_iter_items l.rest) l.run.answers.items (cpu_depot l.cpu l.depot) l.run.exchanges
    × (vec_len l.run.answers + into_iter_len l.rest ≡ vec_len l.fn.ops)
    × (vec_len l.fn.ops ≤ vec_capacity l.run.answers)
    × (l.run.exchanges ≤ vec_len l.run.answers)
    × (l.cpu.size ≤ l.depot.size)
    × IsShaped l.cpu
    × (l.depot.size ≡ l.fn.depot.size)

abbrev pub decreases-loop-op : goal.decreases-loop-op
decreases-loop-op g l = into_iter_len l.rest
