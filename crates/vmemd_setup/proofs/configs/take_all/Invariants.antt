use Rattle.std.proofs.Common.{◌≡◌, ℕ, ◌+◌, ◌-◌, ◌*◌, ◌^◌, ◌≤◌, List, [], length, min, false}
use Rattle.std.specs.Io.KnownBytes.{Consumes}
use Rattle.lease_server.specs.declared.intakes.TheConstants.{MOST_READS}
use Rattle.lease_server.specs.Intakes.{hand_in}
use Rattle.lease_server.specs.Watching.{inner_of, has_failed, reads_of}
use Rattle.vmemd_setup.specs.Setups.{SetsUp}
use Rattle.vmemd_setup.proofs.SetupLemmas.{size_at}
use Rattle.vmemd_setup.proofs.configs.take_all.Given as goal

abbrev pub invariant-loop-line : goal.invariant-loop-line
invariant-loop-line g l = (input : List ℕ) × Consumes (g.R.Read.remaining (inner_of l.fn.reader)) (g.R.Read.remaining (inner_of l.reader)) input
    × (front : List ℕ) × (setup : SetsUp g.S.SetupBuilder.takes l.fn.setup input front l.setup)
    × (l.input.hand ≡ hand_in [] front)
    × (l.number ≡ length setup.lines + 1)
    × (l.input.ended ≡ false)
    × (l.number + size_at l.input.hand ≤ 16384 * l.input.reads + 1)
    × (l.input.reads ≤ MOST_READS)
    × (has_failed l.reader ≡ has_failed l.fn.reader)
    × (reads_of l.reader ≡ min (reads_of l.fn.reader + l.input.reads) (2 ^ 64 - 1))

abbrev pub decreases-loop-line : goal.decreases-loop-line
decreases-loop-line g l = (MOST_READS - l.input.reads) * 32768 + size_at l.input.hand
