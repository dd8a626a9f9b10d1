use Rattle.std.proofs.Common.{◌≡◌, ◌≤◌, ◌+◌, ◌-◌, ◌^◌, ℕ, List, ◌++◌, length, min, true, false}
use Rattle.std.specs.Io.KnownBytes.{Consumes, IsAtEnd}
use Rattle.lease_proto.specs.Frames.{Frame, rest_in}
use Rattle.lease_server.specs.declared.intakes.TheConstants.{MOST_READS}
use Rattle.lease_server.specs.Serving.{SameFront, Writes}
use Rattle.lease_server.specs.Intakes.{frames_at, frames_on, begun_at}
use Rattle.lease_server.proofs.telling.tell.Given as goal

abbrev pub invariant-loop-input : goal.invariant-loop-input
invariant-loop-input g l = (input : List ℕ) × Consumes (g.R.Read.remaining l.fn.reader.inner) (g.R.Read.remaining l.reader.inner) input
    × (done : List Frame) × (frames_on l.fn.input.hand input ≡ done ++ frames_at l.input.hand)
    × SameFront (begun_at l.input.hand) (rest_in (begun_at l.fn.input.hand) input)
    × Writes g.T.Teller.may_answer l.fn.teller done (g.W.Write.contents l.fn.writer.inner) (g.W.Write.contents l.writer.inner) l.teller
    × (l.reader.failed ≡ false)
    × (l.writer.failed ≡ false)
    × (l.input.ended ≡ true → IsAtEnd (g.R.Read.remaining l.reader.inner))
    × (l.fn.input.reads ≤ l.input.reads)
    × (l.input.reads ≤ l.fn.input.reads + length input)
    × (l.reader.reads ≡ min (l.fn.reader.reads + (l.input.reads - l.fn.input.reads)) (2 ^ 64 - 1))
    × (l.input.ended ≡ l.fn.input.ended)

abbrev pub decreases-loop-input : goal.decreases-loop-input
decreases-loop-input g l = MOST_READS - l.input.reads
