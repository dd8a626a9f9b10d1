use Rattle.lease_client.proofs.ReplyLemmas.{moves_keep_sound, moves_in_turn}
use Rattle.lease_client.proofs.OnceLemmas.{sent_stays_sent}
use Rattle.lease_client.proofs.laws.move_laws.Goals as goal

pub returns-clause-sound : goal.returns-clause-sound
returns-clause-sound c = moves_keep_sound

pub returns-clause-in_turn : goal.returns-clause-in_turn
returns-clause-in_turn c = moves_in_turn

pub returns-clause-sent : goal.returns-clause-sent
returns-clause-sent c = sent_stays_sent
