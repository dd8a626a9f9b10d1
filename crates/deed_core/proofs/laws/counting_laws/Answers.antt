use Rattle.deed_core.proofs.Counting.{counts_one_segment, counts_one_deed, counts_where_it_is, deed_counts_where_it_is, none_is_such}
use Rattle.deed_core.proofs.laws.counting_laws.Goals as goal

pub returns : goal.returns
returns c = record { segment = counts_one_segment; deed = counts_one_deed; segments = counts_where_it_is; deeds = deed_counts_where_it_is; none = none_is_such }
