use Rattle.deed_table.proofs.Follows.{seats_apart}
use Rattle.deed_table.proofs.laws.one_seat_each.Goals as goal

pub returns : goal.returns
returns c = seats_apart
