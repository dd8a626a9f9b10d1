use Rattle.lease_proto.proofs.LawProofs.{frames_in-text, rest_in-text, frames_in-none, rest_in-none, frames_in-ended, rest_in-ended, one_line}
use Rattle.lease_proto.proofs.framing.line_feed_law.Goals as goal

pub returns-clause-text : goal.returns-clause-text
returns-clause-text c = λ line text bytes one. (frames_in-text line text bytes one, rest_in-text line text bytes one)

pub returns-clause-unended : goal.returns-clause-unended
returns-clause-unended c = λ line text one. (frames_in-none line text one, rest_in-none line text one)

pub returns-clause-ended : goal.returns-clause-ended
returns-clause-ended c = λ line text one. (frames_in-ended line text one, rest_in-ended line text one)

pub returns-clause-places : goal.returns-clause-places
returns-clause-places c = one_line
