use Rattle.std.proofs.Common.{◌≡◌, List, ◌++◌}
use Rattle.lease_proto.specs.Frames.{Frame}
use Rattle.lease_server.specs.Serving.{SameFront, Writes}
use Rattle.lease_server.specs.Intakes.{frames_at, begun_at}
use Rattle.lease_server.proofs.IntakeLemmas.{size_at}
use Rattle.lease_server.proofs.telling.tell_held.Given as goal

abbrev pub invariant-loop-line : goal.invariant-loop-line
invariant-loop-line g l = (done : List Frame) × (frames_at l.fn.input.hand ≡ done ++ frames_at l.input.hand)
    × SameFront (begun_at l.input.hand) (begun_at l.fn.input.hand)
    × Writes g.T.Teller.may_answer l.fn.teller done (g.W.Write.contents l.fn.writer.inner) (g.W.Write.contents l.writer.inner) l.teller
    × (l.input.reads ≡ l.fn.input.reads)
    × (l.input.ended ≡ l.fn.input.ended)
    × (l.writer.failed ≡ l.fn.writer.failed)

abbrev pub decreases-loop-line : goal.decreases-loop-line
decreases-loop-line g l = size_at l.input.hand
