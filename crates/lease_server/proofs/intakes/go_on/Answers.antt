use Rattle.lease_server.proofs.IntakeLemmas.{fed, short_front}
use Rattle.lease_server.proofs.intakes.go_on.Goals as goal

pub returns-clause-hand : goal.returns-clause-hand
returns-clause-hand c =
    fed c.args.framing.now c.feed.new.self c.args.piece.now c.feed.result c.requires.begun (λ part. (c.feed.ensures.part part).0) c.feed.ensures.text

pub returns-clause-short : goal.returns-clause-short
returns-clause-short c = short_front _ _ c.feed.ensures.text.3
