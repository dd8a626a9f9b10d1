use Rattle.lease_server.proofs.IntakeLemmas.{hand_tells, line_is_whole, line_is_begun, line_goes_on}
use Rattle.lease_server.proofs.intakes.hand_law.Goals as goal

pub returns : goal.returns
returns c = record {
  tells = hand_tells;
  whole = line_is_whole;
  begun = line_is_begun;
  goes_on = line_goes_on;
}
