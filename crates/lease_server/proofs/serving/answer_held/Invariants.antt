use Rattle.std.proofs.Common.{◌≡◌, List, ◌++◌}
use Rattle.lease_proto.specs.Frames.{Frame}
use Rattle.lease_server.specs.Serving.{SameFront, Answers}
use Rattle.lease_server.specs.Intakes.{frames_at, begun_at}
use Rattle.lease_server.proofs.IntakeLemmas.{size_at}
use Rattle.lease_server.proofs.serving.answer_held.Given as goal

abbrev pub invariant-loop-line : goal.invariant-loop-line
invariant-loop-line g l = (done : List Frame) × (frames_at l.fn.input.hand ≡ done ++ frames_at l.input.hand)
    × SameFront (begun_at l.input.hand) (begun_at l.fn.input.hand)
    × Answers g.P.Responder.may_answer l.fn.responder done l.fn.out.items l.out.items l.responder
    × (l.input.reads ≡ l.fn.input.reads)
    × (l.input.ended ≡ l.fn.input.ended)

abbrev pub decreases-loop-line : goal.decreases-loop-line
decreases-loop-line g l = size_at l.input.hand
