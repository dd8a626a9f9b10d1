use Rattle.lease_proto.proofs.FrameLemmas.{framed, made_of_lines}
use Rattle.lease_proto.proofs.LawProofs.{frames_in-append, rest_in-append, frames_in-take, rest_in-take, frames_of_rest-take}
use Rattle.lease_proto.proofs.framing.framing_law.Goals as goal

pub returns-clause-framed : goal.returns-clause-framed
returns-clause-framed c = framed

pub returns-clause-each : goal.returns-clause-each
returns-clause-each c = made_of_lines

pub returns-clause-pieces : goal.returns-clause-pieces
returns-clause-pieces c = λ line xs ys. (frames_in-append line xs ys, rest_in-append line xs ys)

pub returns-clause-front : goal.returns-clause-front
returns-clause-front c = λ line bytes. (frames_in-take line bytes, rest_in-take line bytes, frames_of_rest-take line)
